-- The words of each kind of value say it, and its type is told by them.
use Prim.Native.Nat.{ℕ, ◌/◌, ◌%◌, ◌≤◌}
use mathlib.Core.Path.{◌≡◌, refl, ap, subst}
use mathlib.Core.Bool.{Bool, true, false}
use native.Mathlib.Omega.{arith}
use lib.Dec.{eqb, ltb}
use borrow.Author.Tests.{ne_eqb, lt-ltb}
use Rattle.logic.specs.Tests.{either, equal_or_not}
use Rattle.std.specs.Int.{from_bool}
use Rattle.model.specs.Bytes.{Bytes}
use Rattle.model.specs.Choice.{pick}
use Rattle.model.specs.Values.{int, bool, ints, strs, bools, of_kind}
use Rattle.model.specs.declared.Value.{Value}
use Rattle.model.specs.declared.Value.TheVariants.{Number, Text, Truth}
use Rattle.model.specs.Answers.{value_of}
use Rattle.book_tables.specs.View.{kind_in, value_in}
use Rattle.book_tables.specs.ValueWords.{EndsBefore, Says}

-- a text value that ends before a place ends before a later one
pub ends_later : (limit limit' : ℕ) → limit ≤ limit' → (v : Value) → EndsBefore limit v → EndsBefore limit' v
ends_later limit limit' l (Number n) h = h
ends_later limit limit' l (Text start size) h = omega arith
ends_later limit limit' l (Truth t) h = h

module _ (v : Value) where
  pub says_number : (n : ℕ) → v ≡ Number n → Says v (record { kind = 0; first = n / 4294967296; second = n % 4294967296 })
  unfolding value_of value_in
  says_number n e = record {
    type = omega arith;
    value = λ text. rw e (ap int (omega arith));
    inside = λ limit h k. absurd (omega arith);
  }

  pub says_text : (start size : ℕ) → v ≡ Text start size → Says v (record { kind = 1; first = start; second = size })
  unfolding value_of value_in
  says_text start size e = record { type = omega arith; value = λ text. rw e; inside = λ limit h k. subst (EndsBefore limit) e h }

  pub says_truth : (t : Bool) (n : ℕ) → v ≡ Truth t → n ≡ from_bool t → Says v (record { kind = 2; first = 0; second = n })
  unfolding value_of value_in
  says_truth t n e f = record {
    type = omega arith;
    value = λ text. rw e (ap bool (bool_word t n f));
    inside = λ limit g k. absurd (omega arith);
  }
    where
      bool_word : (t : Bool) (n : ℕ) → n ≡ from_bool t → eqb n 1 ≡ t
      bool_word true n f = rw f
      bool_word false n f = rw f

  pub number_kind : (t n : ℕ) → v ≡ Number n → (text : Bytes) → eqb t 0 ≡ of_kind (kind_in t) (value_of text v)
  unfolding value_of of_kind kind_in
  number_kind t n e text = rw e (go (eqb t 0) (eqb t 1))
    where
      go : (a b : Bool) → a ≡ of_kind (pick a ints (pick b strs bools)) (int n)
      go true b = refl
      go false true = refl
      go false false = refl

  pub text_kind : (t start size : ℕ) → v ≡ Text start size → (text : Bytes) → eqb t 1 ≡ of_kind (kind_in t) (value_of text v)
  unfolding value_of of_kind kind_in
  text_kind t start size e text = rw e (either (equal_or_not t 0)
      (λ z. rw z)
      (λ z. either (equal_or_not t 1) (λ o. rw o) (λ o. rw (ne_eqb t 0 z.1, ne_eqb t 1 o.1))))

  pub truth_kind : (t : ℕ) (b : Bool) → v ≡ Truth b → (text : Bytes) → ltb 1 t ≡ of_kind (kind_in t) (value_of text v)
  unfolding value_of of_kind kind_in
  truth_kind t b e text = rw e (either (equal_or_not t 0)
      (λ z. rw z)
      (λ z. either (equal_or_not t 1) (λ o. rw o) (λ o. rw (ne_eqb t 0 z.1, ne_eqb t 1 o.1, lt-ltb 1 t (omega (arith, z.1, o.1))))))
