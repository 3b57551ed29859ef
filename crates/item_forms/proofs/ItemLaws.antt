-- From the item at a place to a piece: a word, a policy text, a value, a name, a list.
use Prim.Native.Nat.{ℕ, suc, ◌+◌, ◌-◌}
use mathlib.Core.Path.{◌≡◌, refl, ap, ◌∙◌}
use mathlib.Core.List.{List as ListOf}
use mathlib.Core.Bool.{Bool, true, false, not, ◌||◌}
use native.Mathlib.Omega.{arith}
use lib.ListN.{drop}
use lib.Dec.{ltb, eqb}
use borrow.Author.Tests.{eqb-true, eqb-false}
use Rattle.std.specs.Prelude.{Option, Some, None}
use Rattle.model.specs.Bytes.{Bytes, bytes_of, same}
use Rattle.model.specs.Choice.{pick, Maybe, nothing, just, and_then}
use Rattle.model.specs.Names.{mem}
use Rattle.model.specs.Words.{Got}
use Rattle.model.specs.Items.{Item, word, whole, text, quoted, list, Items, is_list, plain_at, as_list, list_at, item_at, item_list, items_of}
use Rattle.model.specs.Values.{Value, int, str, bool}
use Rattle.model.specs.Forms.{as_word, as_quoted, never_names, name_of, as_name, truth_of, as_value}
use Rattle.model.specs.Answers.{part_of, name_at, value_of}
use Rattle.model.specs.declared.Part.{Part}
use Rattle.model.specs.declared.Value.TheVariants as value
use Rattle.text.specs.Places.{peek_at, past, is_space}
use Rattle.compare.proofs.CompareLaws.{name_of_law}
use Rattle.items.specs.declared.ItemEnd.{ItemEnd}
use Rattle.items.specs.declared.ItemEnd.TheVariants.{Word, Number, Text, Quoted, List}
use Rattle.items.specs.declared.Next.{Next}
use Rattle.items.specs.declared.Next.TheVariants.{Item as ItemAt, Close}
use Rattle.items.specs.Reads.{end_read, next_at, item_to}
use Rattle.items.specs.Rest.{rest_at, on_next, on_item}
use Rattle.item_forms.specs.Pieces.{behind, after_end, open_after, word_piece, quoted_piece, name_piece, truth_piece}
use Rattle.item_forms.specs.Pieces.{value_piece, read_at, open_next, on_piece, on_name, on_value}
use Rattle.items.proofs.SizeLaws.{kind_or, plain_kind}
use Rattle.items.proofs.ReadLaws.{item_told, item_plain, item_opened, read_within, quoted_within}

-- what is made of each item is all that counts
pub on_item_same : {B : Type 0} (p : ℕ) (o : Maybe (Got Item)) (f g : Item → ℕ → Maybe B) → ((x : Item) (q : ℕ) → f x q ≡ g x q) → on_item p o f ≡ on_item p o g
on_item_same p o f g h = λ k. on_item p o (λ x q. h x q k)

pub on_next_same : {B : Type 0} (n : Option (Next ℕ)) (f g : ℕ → Maybe B) (h : ℕ → Maybe B) → ((p : ℕ) → f p ≡ g p) → on_next n f h ≡ on_next n g h
on_next_same n f g h e = λ k. on_next n (λ p. e p k) h

-- from an item at a place to a piece
pub no_items : (i : Item) → is_list i ≡ false → items_of i ≡ nothing
unfolding is_list items_of
no_items (word w) h = refl
no_items (whole w) h = refl
no_items (text w) h = refl
no_items (quoted w) h = refl
no_items (list w) h = let z : ◌≡◌ {A = ℕ} 0 1 = cc in absurd (omega arith)

-- the place behind an item of a known end
ends_behind : (d : ℕ) (s : Bytes) (p q : ℕ) (r : Option ItemEnd) → r ≡ read_at d s p → end_read r ≡ Some q → p + (q - p) ≡ q
ends_behind d s p q r e h = omega (arith, (read_within d s p q r e h).after)

module _ {B : Type 0} (d : ℕ) (s : Bytes) (p : ℕ) where
  pub word_item : (f : Bytes → Bool → ℕ → Maybe B)
      → on_item p (item_at d (drop p s)) (λ x q. and_then (as_word x) (λ a. f a (is_list x) q))
      ≡ on_piece (word_piece p (read_at d s p)) (λ w. f (name_at s w) false (behind w))
  unfolding on_item item_to as_word is_list and_then word_piece after_end on_piece name_at
  word_item f = ap (λ (o : Maybe (Got Item)). on_item p o (λ x q. and_then (as_word x) (λ a. f a (is_list x) q))) (item_told d s p) ∙ go (read_at d s p) refl
    where
      go : (r : Option ItemEnd) → r ≡ read_at d s p → on_item p (item_to d s p r) (λ x q. and_then (as_word x) (λ a. f a (is_list x) q))
          ≡ on_piece (word_piece p r) (λ w. f (name_at s w) false (behind w))
      go (Some (Word q)) e = refl
      go (Some (Number n q)) e = refl
      go (Some (Text q)) e = refl
      go (Some (Quoted q)) e = refl
      go (Some (List q)) e = refl
      go None e = refl

  pub quoted_item : (f : Bytes → Bool → ℕ → Maybe B)
      → on_item p (item_at d (drop p s)) (λ x q. and_then (as_quoted x) (λ a. f a (is_list x) q))
      ≡ on_piece (quoted_piece p (read_at d s p)) (λ w. f (name_at s w) false (behind w + 1))
  unfolding on_item item_to as_quoted is_list and_then quoted_piece after_end on_piece name_at
  quoted_item f = ap (λ (o : Maybe (Got Item)). on_item p o (λ x q. and_then (as_quoted x) (λ a. f a (is_list x) q))) (item_told d s p) ∙ go (read_at d s p) refl
    where
      go : (r : Option ItemEnd) → r ≡ read_at d s p
          → on_item p (item_to d s p r) (λ x q. and_then (as_quoted x) (λ a. f a (is_list x) q))
          ≡ on_piece (quoted_piece p r) (λ w. f (name_at s w) false (behind w + 1))
      go (Some (Word q)) e = refl
      go (Some (Number n q)) e = refl
      go (Some (Text q)) e = refl
      go (Some (Quoted q)) e =
          let a : p + (q - p) ≡ p + 1 + (q - p - 2) + 1 = omega (arith, (quoted_within d s p q e).0) in
          rw a
      go (Some (List q)) e = refl
      go None e = refl

  pub value_item_law : (f : Value → Bool → ℕ → Maybe B)
      → on_item p (item_at d (drop p s)) (λ x q. and_then (as_value x) (λ a. f a (is_list x) q)) ≡ on_value s (value_piece s p (read_at d s p)) (λ v q. f v false q)
  unfolding on_item item_to as_value truth_of is_list and_then value_piece truth_piece on_value value_of
  value_item_law f = ap (λ (o : Maybe (Got Item)). on_item p o (λ x q. and_then (as_value x) (λ a. f a (is_list x) q))) (item_told d s p) ∙ go (read_at d s p) refl
    where
      truth : (q : ℕ) (x y : Bool) → p + (q - p) ≡ q
          → and_then (pick x (just (bool true)) (pick y (just (bool false)) nothing)) (λ a. f a false (p + (q - p)))
          ≡ on_value s (pick x (Some (value.Truth true, q))
          (pick y (Some (value.Truth false, q)) None)) (λ v q. f v false q)
      truth q true y h = ap (f (bool true) false) h
      truth q false true h = ap (f (bool false) false) h
      truth q false false h = refl

      go : (r : Option ItemEnd) → r ≡ read_at d s p → on_item p (item_to d s p r) (λ x q. and_then (as_value x) (λ a. f a (is_list x) q))
          ≡ on_value s (value_piece s p r) (λ v q. f v false q)
      go (Some (Word q)) e = truth q (same (part_of s p (q - p)) (bytes_of "true")) (same (part_of s p (q - p)) (bytes_of "false")) (ends_behind d s p q (Some (Word q)) e refl)
      go (Some (Number n q)) e = ap (f (int n) false) (ends_behind d s p q (Some (Number n q)) e refl)
      go (Some (Text q)) e = ap (f (str (part_of s (p + 1) (q - p - 2))) false) (ends_behind d s p q (Some (Text q)) e refl)
      go (Some (Quoted q)) e = refl
      go (Some (List q)) e = refl
      go None e = refl

-- a word as a name
name_piece_law : {B : Type 0} (s : Bytes) (w : Option Part) (f : Bytes → ℕ → Maybe B) (g : ℕ → Maybe B)
    → on_piece w (λ x. and_then (name_of (name_at s x)) (λ n. f n (behind x))) ≡ on_name s (name_piece s w) f g
unfolding on_piece on_name name_piece and_then
name_piece_law s None f g = refl
name_piece_law {B} s (Some x) f g = rw (name_of_law (name_at s x)) (go (not (mem (name_at s x) never_names)))
  where
    go : (b : Bool) → and_then (pick b (just (name_at s x)) nothing) (λ n. f n (behind x)) ≡ on_name s (pick b (Some (ItemAt x)) None) f g
    go true = refl
    go false = refl

module _ {B : Type 0} (d : ℕ) (s : Bytes) (p : ℕ) where
  pub name_item : (f : Bytes → Bool → ℕ → Maybe B) (g : ℕ → Maybe B)
      → on_item p (item_at d (drop p s)) (λ x q. and_then (as_name x) (λ a. f a (is_list x) q))
      ≡ on_name s (name_piece s (word_piece p (read_at d s p))) (λ n q. f n false q) g
  unfolding as_name and_then
  name_item f g =
      on_item_same p (item_at d (drop p s)) _ _ (λ x q. assoc (as_word x) (λ a. f a (is_list x) q))
      ∙ word_item d s p (λ w x q. and_then (name_of w) (λ n. f n x q)) ∙ name_piece_law s (word_piece p (read_at d s p)) (λ n q. f n false q) g
    where
      assoc : (o : Maybe Bytes) (c : Bytes → Maybe B) → and_then (and_then o name_of) c ≡ and_then o (λ w. and_then (name_of w) c)
      assoc nothing c = refl
      assoc (just w) c = refl

-- a list that opens
module _ {A B : Type 0} (h : ListOf Item → Maybe A) (d : ℕ) (s : Bytes) where
  opened_list : (p : ℕ) (f : A → Bool → ℕ → Maybe B) → peek_at s p ≡ 40
      → on_item p (item_at (suc d) (drop p s)) (λ x q. and_then (and_then (items_of x) h) (λ a. f a (is_list x) q))
      ≡ rest_at d true (p + 1) s (λ e is. and_then (h is) (λ a. f a true e))
  unfolding on_item rest_at as_list and_then items_of is_list
  opened_list p f k = rw (item_opened (suc d) d s p refl k) (go (list_at (item_at d) true 0 (drop (p + 1) s)))
    where
      go : (o : Maybe (Got Items)) → on_item p (as_list o) (λ x q. and_then (and_then (items_of x) h) (λ a. f a (is_list x) q))
          ≡ and_then o (λ g. and_then (h (item_list g.got)) (λ a. f a true (p + 1 + g.size)))
      go nothing = refl
      go (just g) = let e : p + (g.size + 1) ≡ p + 1 + g.size = omega arith in ap (λ (q : ℕ). and_then (h (item_list g.got)) (λ a. f a true q)) e

  shut_list : (p : ℕ) (f : A → Bool → ℕ → Maybe B) → (peek_at s p ≡ 40 → ⊥)
      → on_item p (item_at (suc d) (drop p s)) (λ x q. and_then (and_then (items_of x) h) (λ a. f a (is_list x) q)) ≡ nothing
  unfolding on_item and_then kind_or
  shut_list p f n = rw (← item_plain (suc d) s p n) (go (plain_at (drop p s)) (plain_kind (drop p s)))
    where
      go : (o : Maybe (Got Item)) → kind_or false o ≡ false → on_item p o (λ x q. and_then (and_then (items_of x) h) (λ a. f a (is_list x) q)) ≡ nothing
      go nothing k = refl
      go (just g) k = rw (no_items g.got k)

  -- the next item as a list
  pub list_item : (free : Bool) (i : ℕ) (f : A → Bool → ℕ → Maybe B) (g : ℕ → Maybe B)
      → on_next (next_at free s i) (λ p. on_item p (item_at (suc d) (drop p s)) (λ x q. and_then (and_then (items_of x) h) (λ a. f a (is_list x) q))) g
      ≡ on_next (open_next s i) (λ p. rest_at d true p s (λ e is. and_then (h is) (λ a. f a true e))) g
  unfolding next_at open_next open_after on_next
  list_item free i f g = go free (eqb (peek_at s p) 41) (ltb i p) (eqb (peek_at s p) 40) refl
    where
      p : ℕ
      p = past is_space s i

      follows : Bool → Bool → Bool → Bool → Option (Next ℕ)
      follows free x y z = pick x (Some (Close (p + 1))) (pick y (Some (ItemAt p)) (pick (free || z) (Some (ItemAt p)) None))

      left : Option (Next ℕ) → Maybe B
      left n = on_next n (λ p. on_item p (item_at (suc d) (drop p s)) (λ x q. and_then (and_then (items_of x) h) (λ a. f a (is_list x) q))) g

      right : Option (Next ℕ) → Maybe B
      right n =
          on_next (open_after s n)
          (λ p. rest_at d true p s (λ e is. and_then (h is) (λ a. f a true e))) g

      yes : eqb (peek_at s p) 40 ≡ true → left (Some (ItemAt p)) ≡ right (Some (ItemAt p))
      yes k = opened_list p f (eqb-true (peek_at s p) 40 k) ∙ rw k

      no : eqb (peek_at s p) 40 ≡ false → left (Some (ItemAt p)) ≡ right (Some (ItemAt p))
      no k = shut_list p f (eqb-false (peek_at s p) 40 k) ∙ rw k

      none : eqb (peek_at s p) 40 ≡ false → nothing ≡ right (Some (ItemAt p))
      none k = rw k

      go : (free x y z : Bool) → eqb (peek_at s p) 40 ≡ z → left (follows free x y z) ≡ right (follows true x y z)
      go free true y z k = refl
      go free false true true k = yes k
      go free false true false k = no k
      go true false false true k = yes k
      go true false false false k = no k
      go false false false true k = yes k
      go false false false false k = none k
