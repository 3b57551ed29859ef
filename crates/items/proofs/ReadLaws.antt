-- Laws of items at a place, and of what follows in a list.
use Prim.Native.Nat.{ℕ, zero, suc, ◌+◌, ◌-◌, ◌≤◌, ◌<◌}
use mathlib.Core.Path.{◌≡◌, refl, sym, ap, ◌∙◌}
use mathlib.Core.Logic.{⊎_elim}
use mathlib.Core.Bool.{Bool, true, false, ◌||◌}
use native.Mathlib.Omega.{arith}
use lib.ListN.{length, drop, length-drop}
use lib.Seq.{drop-drop}
use lib.Dec.{eqb}
use borrow.Author.Tests.{eq-eqb, ne_eqb, eqb-true, eqb-false}
use Rattle.std.specs.Prelude.{Option, Some, None, option_map, MatchOption, IsSomeAnd}
use Rattle.model.specs.Bytes.{Bytes}
use Rattle.model.specs.Choice.{Maybe, nothing, just}
use Rattle.model.specs.Words.{Got, is_letter, is_digit, between, word_at, whole_at, text_at, quoted_at, read_as}
use Rattle.model.specs.Items.{Item, word, whole, text, quoted, list, Items, plain_at, as_list, opens, list_at, item_at}
use Rattle.model.specs.Answers.{part_of}
use Rattle.text.specs.Places.{peek_at, end_of, number_of, word_to, text_to, whole_to}
use Rattle.text.proofs.PlaceLaws.{below_or_not, drop_peek, drop_end, peek_end}
use Rattle.text.proofs.WordLaws.{word_read}
use Rattle.text.proofs.NumberLaws.{whole_read}
use Rattle.text.proofs.QuoteLaws.{text_read, quoted_read}
use Rattle.items.specs.declared.ItemEnd.{ItemEnd}
use Rattle.items.specs.declared.ItemEnd.TheVariants.{Word, Number, Text, Quoted, List}
use Rattle.items.specs.Reads.{end_in, end_read, kind_at, read_of, items_or, inside_at, item_to}
use Rattle.items.proofs.FitLaws.{size_or_zero, item_fits}
use Rattle.items.proofs.SizeLaws.{size_or, item_size, text_room, quoted_room, word_room}

-- what `map` says of a function that only wraps
pub mapped : {A B : Type 0} (f : A → B) (o : Option A) (r : Option B) → MatchOption o (r ≡ None) (λ x. IsSomeAnd r (λ y. y ≡ f x)) → r ≡ option_map f o
mapped f None r h = h
mapped f (Some x) (Some y) h = ap Some h
mapped f (Some x) None h = absurd h

-- the end of an item is the end that its kind tells
pub end_read_law : (at : ℕ) (o : Maybe (Got Item)) → end_read (read_of at o) ≡ end_of at o
unfolding read_of end_of kind_at
end_read_law at nothing = refl
end_read_law at (just g) = go g.got
  where
    go : (x : Item) → Some (end_in (kind_at x (at + g.size))) ≡ Some (at + g.size)
    go (word w) = refl
    go (whole w) = refl
    go (text w) = refl
    go (quoted w) = refl
    go (list w) = refl

-- an item of one kind
read_bytes : (at : ℕ) (f : Bytes → Item) (kind : ℕ → ItemEnd) (o : Maybe (Got Bytes)) → ((w : Bytes) (q : ℕ) → kind_at (f w) q ≡ kind q)
    → option_map kind (end_of at o) ≡ read_of at (read_as f o)
unfolding end_of read_of read_as
read_bytes at f kind nothing h = refl
read_bytes at f kind (just g) h = ap Some (sym (h g.got (at + g.size)))

read_number : (at : ℕ) (o : Maybe (Got ℕ)) → option_map (λ (r : ℕ × ℕ). Number r.0 r.1) (number_of at o) ≡ read_of at (read_as whole o)
unfolding number_of read_of read_as kind_at
read_number at nothing = refl
read_number at (just g) = refl

module _ (s : Bytes) (at : ℕ) where
  inside : (p : ℕ → Bool) → p 256 ≡ false → p (peek_at s at) ≡ true → at < length s
  inside p e h = Rattle.text.proofs.PlaceLaws.test_in p s at e h

  pub plain_word : is_letter (peek_at s at) ≡ true → plain_at (drop at s) ≡ read_as word (word_at (drop at s))
  unfolding plain_at is_letter between
  plain_word h = rw (drop_peek s at (inside is_letter refl h), h)

  module _ (a : is_letter (peek_at s at) ≡ false) where
    pub plain_whole : (is_digit (peek_at s at) || eqb (peek_at s at) 45) ≡ true → plain_at (drop at s) ≡ read_as whole (whole_at (drop at s))
    unfolding plain_at is_digit between
    plain_whole h = rw (drop_peek s at (inside (λ b. is_digit b || eqb b 45) refl h), a, h)

    module _ (n : (is_digit (peek_at s at) || eqb (peek_at s at) 45) ≡ false) where
      pub plain_text : peek_at s at ≡ 39 → plain_at (drop at s) ≡ read_as text (text_at (drop (at + 1) s))
      unfolding plain_at
      plain_text h = rw (drop_peek s at (inside (λ b. eqb b 39) refl (eq-eqb (peek_at s at) 39 h)), a, n, eq-eqb (peek_at s at) 39 h)

      pub plain_quoted : peek_at s at ≡ 34 → plain_at (drop at s) ≡ read_as quoted (quoted_at (drop (at + 1) s))
      unfolding plain_at
      plain_quoted h = rw (drop_peek s at (inside (λ b. eqb b 34) refl (eq-eqb (peek_at s at) 34 h)), a, n, h)

      pub plain_none : (peek_at s at ≡ 39 → ⊥) → (peek_at s at ≡ 34 → ⊥) → plain_at (drop at s) ≡ nothing
      unfolding plain_at
      plain_none h k =
          ⊎_elim (λ l. rw (drop_peek s at l, a, n, ne_eqb (peek_at s at) 39 h, ne_eqb (peek_at s at) 34 k)) (λ g. rw (drop_end s at g))
          (below_or_not at (length s))

  -- what the tests of `plain` say
  pub read_word : is_letter (peek_at s at) ≡ true → option_map Word (end_of at (word_at (drop at s))) ≡ read_of at (plain_at (drop at s))
  unfolding kind_at
  read_word h = read_bytes at word Word (word_at (drop at s)) (λ w q. refl) ∙ ap (read_of at) (sym (plain_word h))

  module _ (a : is_letter (peek_at s at) ≡ false) where
    pub read_whole : (is_digit (peek_at s at) || eqb (peek_at s at) 45) ≡ true → option_map (λ (r : ℕ × ℕ). Number r.0 r.1) (number_of at (whole_at (drop at s))) ≡ read_of at (plain_at (drop at s))
    read_whole h = read_number at (whole_at (drop at s)) ∙ ap (read_of at) (sym (plain_whole a h))

    module _ (n : (is_digit (peek_at s at) || eqb (peek_at s at) 45) ≡ false) where
      pub read_text : peek_at s at ≡ 39 → option_map Text (end_of at (text_at (drop (at + 1) s))) ≡ read_of at (plain_at (drop at s))
      unfolding kind_at
      read_text h = read_bytes at text Text (text_at (drop (at + 1) s)) (λ w q. refl) ∙ ap (read_of at) (sym (plain_text a n h))

      pub read_quoted : peek_at s at ≡ 34 → option_map Quoted (end_of at (quoted_at (drop (at + 1) s))) ≡ read_of at (plain_at (drop at s))
      unfolding kind_at
      read_quoted h = read_bytes at quoted Quoted (quoted_at (drop (at + 1) s)) (λ w q. refl) ∙ ap (read_of at) (sym (plain_quoted a n h))

      pub read_none : (peek_at s at ≡ 39 → ⊥) → (peek_at s at ≡ 34 → ⊥) → None ≡ read_of at (plain_at (drop at s))
      unfolding read_of
      read_none h k = ap (read_of at) (sym (plain_none a n h k))

-- a bracket decides
pub opens_at : (s : Bytes) (i : ℕ) → opens (drop i s) ≡ eqb (peek_at s i) 40
unfolding opens
opens_at s i = ⊎_elim (λ l. ap opens (drop_peek s i l)) (λ g. rw (drop_end s i g, peek_end s i g)) (below_or_not i (length s))

pub item_plain : (d : ℕ) (s : Bytes) (i : ℕ) → (peek_at s i ≡ 40 → ⊥) → plain_at (drop i s) ≡ item_at d (drop i s)
unfolding item_at
item_plain zero s i h = rw (opens_at s i, ne_eqb (peek_at s i) 40 h)
item_plain (suc d) s i h = rw (opens_at s i, ne_eqb (peek_at s i) 40 h)

pub item_opened : (d c : ℕ) (s : Bytes) (i : ℕ) → d ≡ suc c → peek_at s i ≡ 40 → item_at d (drop i s) ≡ as_list (list_at (item_at c) true 0 (drop (i + 1) s))
unfolding item_at
item_opened d c s i e h = rw (e, opens_at s i, eq-eqb (peek_at s i) 40 h, drop-drop 1 i s)

pub item_deep : (d : ℕ) (s : Bytes) (i : ℕ) → d ≡ 0 → peek_at s i ≡ 40 → item_at d (drop i s) ≡ nothing
unfolding item_at
item_deep d s i e h = rw (e, opens_at s i, eq-eqb (peek_at s i) 40 h)

-- what the tests of `item` say
read_list : (at : ℕ) (o : Maybe (Got Items)) → option_map List (end_of (at + 1) o) ≡ read_of at (as_list o)
unfolding end_of read_of as_list kind_at
read_list at nothing = refl
read_list at (just g) = let e : at + 1 + g.size ≡ at + (g.size + 1) = omega arith in ap (λ q. Some (List q)) e

module _ (d : ℕ) (s : Bytes) (at : ℕ) where
  pub read_deep : d ≡ 0 → peek_at s at ≡ 40 → None ≡ read_of at (item_at d (drop at s))
  unfolding read_of
  read_deep e h = ap (read_of at) (sym (item_deep d s at e h))

  pub read_opened : (c : ℕ) → d ≡ suc c → peek_at s at ≡ 40
      → option_map List (end_of (at + 1) (list_at (item_at c) true 0 (drop (at + 1) s))) ≡ read_of at (item_at d (drop at s))
  read_opened c e h = read_list at (list_at (item_at c) true 0 (drop (at + 1) s)) ∙ ap (read_of at) (sym (item_opened d c s at e h))

  pub read_plain : (peek_at s at ≡ 40 → ⊥) → read_of at (plain_at (drop at s)) ≡ read_of at (item_at d (drop at s))
  read_plain h = ap (read_of at) (item_plain d s at h)

-- the item that an answer tells of
to_word : (d : ℕ) (s : Bytes) (p : ℕ) (o : Maybe (Got Bytes)) → read_as word (word_to s p (end_of p o)) ≡ item_to d s p (read_of p (read_as word o))
unfolding read_as word_to end_of item_to read_of kind_at
to_word d s p nothing = refl
to_word d s p (just g) = refl

to_text : (d : ℕ) (s : Bytes) (p : ℕ) (o : Maybe (Got Bytes)) → read_as text (text_to s p (end_of p o)) ≡ item_to d s p (read_of p (read_as text o))
unfolding read_as text_to end_of item_to read_of kind_at
to_text d s p nothing = refl
to_text d s p (just g) = refl

to_quoted : (d : ℕ) (s : Bytes) (p : ℕ) (o : Maybe (Got Bytes)) → read_as quoted (text_to s p (end_of p o)) ≡ item_to d s p (read_of p (read_as quoted o))
unfolding read_as text_to end_of item_to read_of kind_at
to_quoted d s p nothing = refl
to_quoted d s p (just g) = refl

to_whole : (d : ℕ) (s : Bytes) (p : ℕ) (o : Maybe (Got ℕ)) → read_as whole (whole_to p (number_of p o)) ≡ item_to d s p (read_of p (read_as whole o))
unfolding read_as whole_to number_of item_to read_of kind_at
to_whole d s p nothing = refl
to_whole d s p (just g) = refl

module _ (d : ℕ) (s : Bytes) (p : ℕ) where
  plain_told : plain_at (drop p s) ≡ item_to d s p (read_of p (plain_at (drop p s)))
  unfolding read_of item_to
  plain_told = go (is_letter b) (is_digit b || eqb b 45) (eqb b 39) (eqb b 34) refl refl refl refl
    where
      b : ℕ
      b = peek_at s p

      Told : Type 0
      Told = plain_at (drop p s) ≡ item_to d s p (read_of p (plain_at (drop p s)))

      go : (w x y z : Bool) → is_letter b ≡ w → (is_digit b || eqb b 45) ≡ x → eqb b 39 ≡ y → eqb b 34 ≡ z → Told
      go true x y z h i j k = rw (plain_word s p h) (ap (read_as word) (word_read s p) ∙ to_word d s p (word_at (drop p s)))
      go false true y z h i j k = rw (plain_whole s p h i) (ap (read_as whole) (whole_read s p) ∙ to_whole d s p (whole_at (drop p s)))
      go false false true z h i j k = rw (plain_text s p h i (eqb-true b 39 j)) (ap (read_as text) (text_read s p) ∙ to_text d s p (text_at (drop (p + 1) s)))
      go false false false true h i j k = rw (plain_quoted s p h i (eqb-true b 34 k))
          (ap (read_as quoted) (quoted_read s p) ∙ to_quoted d s p (quoted_at (drop (p + 1) s)))
      go false false false false h i j k = rw (plain_none s p h i (eqb-false b 39 j) (eqb-false b 34 k))

list_told : (c : ℕ) (s : Bytes) (p : ℕ) (o : Maybe (Got Items)) → list_at (item_at c) true 0 (drop (p + 1) s) ≡ o
    → as_list o ≡ item_to (suc c) s p (read_of p (as_list o))
unfolding as_list item_to read_of kind_at inside_at items_or
list_told c s p nothing e = refl
list_told c s p (just g) e = let k : p + (g.size + 1) - p ≡ g.size + 1 = omega arith in rw (e, k)

pub item_told : (d : ℕ) (s : Bytes) (p : ℕ) → item_at d (drop p s) ≡ item_to d s p (read_of p (item_at d (drop p s)))
unfolding read_of item_to
item_told zero s p = go (eqb (peek_at s p) 40) refl
  where
    go : (x : Bool) → eqb (peek_at s p) 40 ≡ x → item_at 0 (drop p s) ≡ item_to 0 s p (read_of p (item_at 0 (drop p s)))
    go true h = rw (item_deep 0 s p refl (eqb-true (peek_at s p) 40 h))
    go false h = rw (← item_plain 0 s p (eqb-false (peek_at s p) 40 h)) (plain_told 0 s p)
item_told (suc d) s p = go (eqb (peek_at s p) 40) refl
  where
    go : (x : Bool) → eqb (peek_at s p) 40 ≡ x → item_at (suc d) (drop p s) ≡ item_to (suc d) s p (read_of p (item_at (suc d) (drop p s)))
    go true h = rw (item_opened (suc d) d s p refl (eqb-true (peek_at s p) 40 h)) (list_told d s p (list_at (item_at d) true 0 (drop (p + 1) s)) refl)
    go false h = rw (← item_plain (suc d) s p (eqb-false (peek_at s p) 40 h)) (plain_told (suc d) s p)

-- an item lies in the text
pub record Within (s : Bytes) (p q : ℕ) : Type 0 where
  pub after : p < q
  pub inside : q ≤ length s

pub item_within : (d : ℕ) (s : Bytes) (p q : ℕ) → Some q ≡ end_of p (item_at d (drop p s)) → Within s p q
unfolding end_of size_or size_or_zero
item_within d s p q e = go (item_at d (drop p s)) (item_size d (drop p s)) (item_fits d (drop p s)) e
  where
    go : (o : Maybe (Got Item)) → 0 < size_or o → size_or_zero o ≤ length (drop p s) → Some q ≡ end_of p o → Within s p q
    go nothing a b e = let z : ◌≡◌ {A = ℕ} 0 1 = cc in absurd (omega arith)
    go (just g) a b e = let r : q ≡ p + g.size = cc in record { after = omega arith; inside = omega (arith, length-drop p s) }

pub read_within : (d : ℕ) (s : Bytes) (p q : ℕ) (r : Option ItemEnd) → r ≡ read_of p (item_at d (drop p s)) → end_read r ≡ Some q → Within s p q
read_within d s p q r e h = item_within d s p q (sym h ∙ ap end_read e ∙ end_read_law p (item_at d (drop p s)))

pub text_within : (d : ℕ) (s : Bytes) (p q : ℕ) → Some (Text q) ≡ read_of p (item_at d (drop p s)) → (p + 2 ≤ q) × (q ≤ length s)
unfolding item_to
text_within d s p q e =
    let w : Within s p q = read_within d s p q (Some (Text q)) e refl in
    let k : 2 ≤ q - p = text_room d (drop p s) (part_of s (p + 1) (q - p - 2)) (q - p) (item_told d s p ∙ ap (item_to d s p) (sym e)) in
    (omega (arith, w.after), w.inside)

pub quoted_within : (d : ℕ) (s : Bytes) (p q : ℕ) → Some (Quoted q) ≡ read_of p (item_at d (drop p s)) → (p + 2 ≤ q) × (q ≤ length s)
unfolding item_to
quoted_within d s p q e =
    let w : Within s p q = read_within d s p q (Some (Quoted q)) e refl in
    let k : 2 ≤ q - p = quoted_room d (drop p s) (part_of s (p + 1) (q - p - 2)) (q - p) (item_told d s p ∙ ap (item_to d s p) (sym e)) in
    (omega (arith, w.after), w.inside)

pub word_small : (d : ℕ) (s : Bytes) (p q : ℕ) → Some (Word q) ≡ read_of p (item_at d (drop p s)) → q - p ≤ 24
unfolding item_to
word_small d s p q e = word_room d (drop p s) (part_of s p (q - p)) (q - p) (item_told d s p ∙ ap (item_to d s p) (sym e))
