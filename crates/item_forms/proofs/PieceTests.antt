-- What the tests of the readers of pieces say, and that a piece lies in the text.
use Prim.Native.Nat.{ℕ, zero, suc, ◌+◌, ◌-◌, ◌≤◌}
use mathlib.Core.Path.{◌≡◌, refl, sym, ap, ◌∙◌}
use mathlib.Core.Bool.{Bool, true, false, not, ◌||◌}
use native.Mathlib.Omega.{arith}
use lib.ListN.{length, drop}
use lib.Dec.{eqb}
use borrow.Author.Tests.{eq-eqb, ne_eqb, eqb-true, eqb-false}
use Rattle.std.specs.Prelude.{Option, Some, None}
use Rattle.model.specs.Bytes.{Bytes, bytes_of, same}
use Rattle.model.specs.Choice.{pick, Maybe, nothing, just}
use Rattle.model.specs.Names.{mem}
use Rattle.model.specs.Words.{Got, is_letter, is_digit, between, word_at, whole_at, text_at, quoted_at, read_as}
use Rattle.model.specs.Items.{Item, word, whole, text, quoted, Items, plain_at, as_list, list_at, item_at}
use Rattle.model.specs.Forms.{never_names}
use Rattle.model.specs.Answers.{part_of, name_at}
use Rattle.model.specs.declared.Part.{Part}
use Rattle.model.specs.declared.Value.TheVariants as value
use Rattle.text.specs.Places.{peek_at, end_of}
use Rattle.items.specs.declared.ItemEnd.{ItemEnd}
use Rattle.items.specs.declared.ItemEnd.TheVariants.{Word, Number, Text, Quoted, List}
use Rattle.items.specs.declared.Next.{Next}
use Rattle.items.specs.declared.Next.TheVariants.{Item as ItemAt, Close}
use Rattle.items.specs.Reads.{kind_at, read_of, next_at}
use Rattle.item_forms.specs.Pieces.{from_to, item_place, word_end, word_of, quoted_end, after_end, name_after, open_after, word_piece, quoted_piece, name_piece}
use Rattle.item_forms.specs.Pieces.{truth_piece, value_piece, read_at, word_next, quoted_next, name_next, value_next}
use Rattle.items.proofs.ReadLaws.{plain_word, plain_whole, plain_text, plain_quoted, plain_none, item_opened, item_deep, read_plain, Within, read_within}
use Rattle.items.proofs.ReadLaws.{quoted_within as quoted_fits}

-- an item of a known kind lies in the text
never : {A : Type 0} {q : ℕ} → Some q ≡ None → A
never e = let z : ◌≡◌ {A = ℕ} 0 1 = cc in absurd (omega arith)

module _ (d : ℕ) (s : Bytes) (p q : ℕ) where
  pub word_within : Some q ≡ word_end (read_at d s p) → Within s p q
  word_within e = go (read_at d s p) refl e
    where
      go : (r : Option ItemEnd) → r ≡ read_at d s p → Some q ≡ word_end r → Within s p q
      go (Some (Word x)) w e = read_within d s p q (Some (Word x)) w (sym e)
      go (Some (Number n x)) w e = never e
      go (Some (Text x)) w e = never e
      go (Some (Quoted x)) w e = never e
      go (Some (List x)) w e = never e
      go None w e = never e

  pub quoted_within : Some q ≡ quoted_end (read_at d s p) → (p + 2 ≤ q) × (q ≤ length s)
  quoted_within e = go (read_at d s p) refl e
    where
      go : (r : Option ItemEnd) → r ≡ read_at d s p → Some q ≡ quoted_end r → (p + 2 ≤ q) × (q ≤ length s)
      go (Some (Word x)) w e = never e
      go (Some (Number n x)) w e = never e
      go (Some (Text x)) w e = never e
      go (Some (Quoted x)) w e = let z : q ≡ x = cc in quoted_fits d s p q (ap (λ x. Some (Quoted x)) z ∙ w)
      go (Some (List x)) w e = never e
      go None w e = never e

-- a word by its first byte, however many lists may be opened
as_word_law : (at : ℕ) (o : Maybe (Got Bytes)) → end_of at o ≡ word_end (read_of at (read_as word o))
unfolding end_of read_of read_as kind_at
as_word_law at nothing = refl
as_word_law at (just g) = refl

as_other : {A : Type 0} (at : ℕ) (f : A → Item) (o : Maybe (Got A)) → ((a : A) (q : ℕ) → None ≡ word_end (Some (kind_at (f a) q)))
    → None ≡ word_end (read_of at (read_as f o))
unfolding read_of read_as
as_other at f nothing h = refl
as_other at f (just g) h = h g.got (at + g.size)

as_listed : (at : ℕ) (o : Maybe (Got Items)) → None ≡ word_end (read_of at (as_list o))
unfolding read_of as_list kind_at
as_listed at nothing = refl
as_listed at (just g) = refl

module _ (s : Bytes) (p : ℕ) where
  plain_of : word_of s p ≡ word_end (read_of p (plain_at (drop p s)))
  unfolding word_of read_of kind_at
  plain_of = go (is_letter b) (is_digit b || eqb b 45) (eqb b 39) (eqb b 34) refl refl refl refl
    where
      b : ℕ
      b = peek_at s p

      go : (w x y z : Bool) → is_letter b ≡ w → (is_digit b || eqb b 45) ≡ x → eqb b 39 ≡ y → eqb b 34 ≡ z
          → pick w (end_of p (word_at (drop p s))) None ≡ word_end (read_of p (plain_at (drop p s)))
      go true x y z h i j k = rw (plain_word s p h) (as_word_law p (word_at (drop p s)))
      go false true y z h i j k = rw (plain_whole s p h i) (as_other p whole (whole_at (drop p s)) (λ a q. refl))
      go false false true z h i j k = rw (plain_text s p h i (eqb-true b 39 j)) (as_other p text (text_at (drop (p + 1) s)) (λ a q. refl))
      go false false false true h i j k = rw (plain_quoted s p h i (eqb-true b 34 k)) (as_other p quoted (quoted_at (drop (p + 1) s)) (λ a q. refl))
      go false false false false h i j k = rw (plain_none s p h i (eqb-false b 39 j) (eqb-false b 34 k))

  opened_of : (d : ℕ) → peek_at s p ≡ 40 → None ≡ word_end (read_at d s p)
  unfolding read_of
  opened_of zero e = rw (item_deep 0 s p refl e)
  opened_of (suc d) e = rw (item_opened (suc d) d s p refl e) (as_listed p (list_at (item_at d) true 0 (drop (p + 1) s)))

  pub word_of_law : (d : ℕ) → word_of s p ≡ word_end (read_at d s p)
  unfolding word_of is_letter between
  word_of_law d = go (eqb (peek_at s p) 40) refl
    where
      go : (x : Bool) → eqb (peek_at s p) 40 ≡ x → word_of s p ≡ word_end (read_at d s p)
      go true h = rw (eqb-true (peek_at s p) 40 h) (opened_of d (eqb-true (peek_at s p) 40 h))
      go false h = plain_of ∙ ap word_end (read_plain d s p (eqb-false (peek_at s p) 40 h))

-- a word and a name are read alike, however many lists may be opened
module _ (d d' : ℕ) where
  piece_depth : (s : Bytes) (p : ℕ) → word_piece p (read_at d s p) ≡ word_piece p (read_at d' s p)
  unfolding word_piece
  piece_depth s p = ap (λ (x : Option ℕ). after_end x (λ q. Some (from_to p q)) None) (sym (word_of_law s p d) ∙ word_of_law s p d')

  pub word_depth : (free : Bool) (s : Bytes) (i : ℕ) → word_next d free s i ≡ word_next d' free s i
  unfolding word_next
  word_depth free s i = λ t. after_end (item_place (next_at free s i)) (λ p. piece_depth s p t) None

  pub name_depth : (free : Bool) (s : Bytes) (i : ℕ) → name_next d free s i ≡ name_next d' free s i
  unfolding name_next name_after
  name_depth free s i = go (next_at free s i)
    where
      go : (n : Option (Next ℕ)) → name_after d s n ≡ name_after d' s n
      go (Some (ItemAt p)) = ap (name_piece s) (piece_depth s p)
      go (Some (Close e)) = refl
      go None = refl

-- what the tests of the readers say
module _ (d : ℕ) (free : Bool) (s : Bytes) (i : ℕ) where
  module _ (e : None ≡ item_place (next_at free s i)) where
    pub no_word : None ≡ word_next d free s i
    unfolding word_next after_end
    no_word = ap (λ (x : Option ℕ). after_end x (λ p. word_piece p (read_at d s p)) None) e

    pub no_quoted : None ≡ quoted_next d free s i
    unfolding quoted_next after_end
    no_quoted = ap (λ (x : Option ℕ). after_end x (λ p. quoted_piece p (read_at d s p)) None) e

    pub no_value : None ≡ value_next d free s i
    unfolding value_next after_end
    no_value = ap (λ (x : Option ℕ). after_end x (λ p. value_piece s p (read_at d s p)) None) e

  module _ (p : ℕ) (e : Some p ≡ item_place (next_at free s i)) where
    pub at_word : (x : Option ℕ) → x ≡ word_end (read_at d s p) → after_end x (λ q. Some (from_to p q)) None ≡ word_next d free s i
    unfolding word_next word_piece after_end
    at_word x w = ap (λ (x : Option ℕ). after_end x (λ q. Some (from_to p q)) None) w
        ∙ ap (λ (x : Option ℕ). after_end x (λ p. word_piece p (read_at d s p)) None) e

    pub at_quoted : (x : Option ℕ) → x ≡ quoted_end (read_at d s p) → after_end x (λ q. Some (record { start = p + 1; length = q - p - 2 })) None
        ≡ quoted_next d free s i
    unfolding quoted_next quoted_piece after_end
    at_quoted x w = ap (λ (x : Option ℕ). after_end x (λ q. Some (record { start = p + 1; length = q - p - 2 })) None) w
        ∙ ap (λ (x : Option ℕ). after_end x (λ p. quoted_piece p (read_at d s p)) None) e

    pub at_value : value_piece s p (read_at d s p) ≡ value_next d free s i
    unfolding value_next after_end
    at_value = ap (λ (x : Option ℕ). after_end x (λ p. value_piece s p (read_at d s p)) None) e

  -- what follows, to a name
  pub at_name : (p : ℕ) → Some (ItemAt p) ≡ next_at free s i → (x : Option ℕ) → x ≡ word_end (read_at d s p)
      → name_piece s (after_end x (λ q. Some (from_to p q)) None) ≡ name_next d free s i
  unfolding name_next name_after word_piece
  at_name p e x w = ap (λ (x : Option ℕ). name_piece s (after_end x (λ q. Some (from_to p q)) None)) w ∙ ap (name_after d s) e

pub name_yes : (s : Bytes) (w : Part) → not (mem (name_at s w) never_names) ≡ true → Some (ItemAt w) ≡ name_piece s (Some w)
unfolding name_piece
name_yes s w h = rw h

pub name_no : (s : Bytes) (w : Part) → not (mem (name_at s w) never_names) ≡ false → None ≡ name_piece s (Some w)
unfolding name_piece
name_no s w h = rw h

module _ (s : Bytes) (p q : ℕ) where
  pub truth_true : same (part_of s p (q - p)) (bytes_of "true") ≡ true → Some (value.Truth true, q) ≡ truth_piece s p q
  unfolding truth_piece
  truth_true h = rw h

  module _ (n : same (part_of s p (q - p)) (bytes_of "true") ≡ false) where
    pub truth_false : same (part_of s p (q - p)) (bytes_of "false") ≡ true → Some (value.Truth false, q) ≡ truth_piece s p q
    unfolding truth_piece
    truth_false h = rw (n, h)

    pub truth_none : same (part_of s p (q - p)) (bytes_of "false") ≡ false → None ≡ truth_piece s p q
    unfolding truth_piece
    truth_none h = rw (n, h)

pub open_yes : (s : Bytes) (p : ℕ) → peek_at s p ≡ 40 → Some (ItemAt (p + 1)) ≡ open_after s (Some (ItemAt p))
unfolding open_after
open_yes s p h = rw (eq-eqb (peek_at s p) 40 h)

pub open_no : (s : Bytes) (p : ℕ) → (peek_at s p ≡ 40 → ⊥) → None ≡ open_after s (Some (ItemAt p))
unfolding open_after
open_no s p h = rw (ne_eqb (peek_at s p) 40 h)
