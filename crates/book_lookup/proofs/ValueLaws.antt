-- What an entry's value is, by its type, and which values meet nothing.
use Prim.Native.Nat.{ℕ, ◌+◌, ◌-◌, ◌*◌, ◌≤◌, ◌<◌, ◌^◌}
use mathlib.Core.Path.{◌≡◌, refl}
use mathlib.Core.Bool.{Bool, true, false}
use mathlib.Core.List.{List}
use native.Mathlib.Omega.{arith}
use lib.ListN.{take, drop}
use lib.Dec.{eqb}
use borrow.Author.Tests.{ne_eqb}
use Rattle.logic.specs.Tests.{either, equal_or_not}
use Rattle.model.specs.Bytes.{Bytes, same}
use Rattle.model.specs.Choice.{pick}
use Rattle.model.specs.Values.{Value, int, str, bool, ints, strs, bools}
use Rattle.model.specs.QueryText.{Relation}
use Rattle.model.specs.Graph.{in_relation}
use Rattle.model.specs.Answers.{part_of}
use Rattle.book_tables.specs.View.{kind_in, value_in}
use Rattle.book_tables.proofs.NameLaws.{same_equal}
use Rattle.book_lookup.specs.Entries.{kind_at, first_at, second_at, entry_value}

-- two texts that are not equal are not the same bytes
pub not_same : (a b : Bytes) → (a ≡ b → ⊥) → same a b ≡ false
not_same a b h = go (same a b) refl
  where
    go : (t : Bool) → same a b ≡ t → t ≡ false
    go true e = absurd (h (same_equal a b e))
    go false e = refl

-- the bytes between two places are the part that starts at the first and has the length between them
pub part_between : (text : Bytes) (start size : ℕ) → take (start + size - start) (drop start text) ≡ part_of text start size
unfolding part_of
part_between text start size = let e : start + size - start ≡ size = omega arith in rw e

-- the type that a word says
pub kind_ints : (t : ℕ) → t ≡ 0 → kind_in t ≡ ints
unfolding kind_in
kind_ints t e = rw e

pub kind_strs : (t : ℕ) → t ≡ 1 → kind_in t ≡ strs
unfolding kind_in
kind_strs t e = rw e

pub kind_bools : (t : ℕ) → 1 < t → kind_in t ≡ bools
unfolding kind_in
kind_bools t l = rw (ne_eqb t 0 (λ e. omega arith), ne_eqb t 1 (λ e. omega arith))

module _ (book : Bytes) (words : List ℕ) (k : ℕ) where
  pub number_value : kind_in (kind_at words k) ≡ ints → entry_value book words k ≡ int (first_at words k * 2 ^ 32 + second_at words k)
  unfolding entry_value value_in kind_in
  number_value = go (int (first_at words k * 2 ^ 32 + second_at words k)) (str (part_of book (first_at words k) (second_at words k)))
      (bool (eqb (second_at words k) 1)) (eqb (kind_at words k) 0) (eqb (kind_at words k) 1)
    where
      go : (x y z : Value) (a b : Bool) → pick a ints (pick b strs bools) ≡ ints → pick a x (pick b y z) ≡ x
      go x y z true b e = refl
      go x y z false true e = let o : ◌≡◌ {A = ℕ} 0 1 = cc in absurd (omega arith)
      go x y z false false e = let o : ◌≡◌ {A = ℕ} 0 1 = cc in absurd (omega arith)

  pub text_value : kind_in (kind_at words k) ≡ strs → (kind_at words k ≡ 1) × (entry_value book words k ≡ str (part_of book (first_at words k) (second_at words k)))
  unfolding entry_value value_in kind_in
  text_value e = either (equal_or_not (kind_at words k) 1) (λ o. (o, rw o))
      (λ o. absurd (go (eqb (kind_at words k) 0) (rw (ne_eqb (kind_at words k) 1 o.1) at e)))
    where
      go : (a : Bool) → pick a ints bools ≡ strs → ⊥
      go true e = let o : ◌≡◌ {A = ℕ} 0 1 = cc in omega arith
      go false e = let o : ◌≡◌ {A = ℕ} 0 1 = cc in omega arith

  pub truth_value : kind_in (kind_at words k) ≡ bools → entry_value book words k ≡ bool (eqb (second_at words k) 1)
  unfolding entry_value value_in kind_in
  truth_value = go (int (first_at words k * 2 ^ 32 + second_at words k)) (str (part_of book (first_at words k) (second_at words k)))
      (bool (eqb (second_at words k) 1)) (eqb (kind_at words k) 0) (eqb (kind_at words k) 1)
    where
      go : (x y z : Value) (a b : Bool) → pick a ints (pick b strs bools) ≡ bools → pick a x (pick b y z) ≡ z
      go x y z true b e = let o : ◌≡◌ {A = ℕ} 0 1 = cc in absurd (omega arith)
      go x y z false true e = let o : ◌≡◌ {A = ℕ} 0 1 = cc in absurd (omega arith)
      go x y z false false e = refl

  -- a value of another type stands in no relation
  module _ (r : Relation) where
    pub number_unmet : (n : ℕ) → (kind_at words k ≡ 0 → ⊥) → in_relation r (entry_value book words k) (int n) ≡ false
    unfolding entry_value value_in in_relation
    number_unmet n h = rw (ne_eqb (kind_at words k) 0 h)
        (go (part_of book (first_at words k) (second_at words k)) (eqb (second_at words k) 1) (eqb (kind_at words k) 1))
      where
        go : (x : Bytes) (y : Bool) (a : Bool) → in_relation r (pick a (str x) (bool y)) (int n) ≡ false
        go x y true = refl
        go x y false = refl

    pub text_unmet : (t : Bytes) → (kind_at words k ≡ 1 → ⊥) → in_relation r (entry_value book words k) (str t) ≡ false
    unfolding entry_value value_in in_relation
    text_unmet t h = rw (ne_eqb (kind_at words k) 1 h) (go (first_at words k * 2 ^ 32 + second_at words k) (eqb (second_at words k) 1) (eqb (kind_at words k) 0))
      where
        go : (x : ℕ) (y : Bool) (a : Bool) → in_relation r (pick a (int x) (bool y)) (str t) ≡ false
        go x y true = refl
        go x y false = refl

    pub truth_unmet : (t : Bool) → kind_at words k ≤ 1 → in_relation r (entry_value book words k) (bool t) ≡ false
    unfolding entry_value value_in in_relation
    truth_unmet t h = either (equal_or_not (kind_at words k) 0) (λ e. rw e) (λ e. let o : kind_at words k ≡ 1 = omega (arith, e.1) in rw o)
