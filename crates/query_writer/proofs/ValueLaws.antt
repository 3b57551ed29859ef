-- The text of a value, by its kind. Assumes nothing.
use Prim.Native.Nat.{ℕ}
use mathlib.Core.Path.{◌≡◌, sym, ap}
use mathlib.Core.Bool.{Bool}
use Rattle.model.specs.Bytes.{Bytes}
use Rattle.model.specs.Values.{str, bool}
use Rattle.model.specs.Answers.{part_of, value_of}
use Rattle.model.specs.Writing.{whole_text, value_text}
use Rattle.model.specs.declared.Value.{Value}
use Rattle.model.specs.declared.Value.TheVariants.{Number, Text, Truth}

pub number_value : (q : Bytes) (v : Value) (n : ℕ) → v ≡ Number n → whole_text n ≡ value_text (value_of q v)
unfolding value_text value_of
number_value q v n e = sym (ap (λ (x : Value). value_text (value_of q x)) e)

pub text_value : (q : Bytes) (v : Value) (start size : ℕ) → v ≡ Text start size → value_text (str (part_of q start size)) ≡ value_text (value_of q v)
unfolding value_text value_of
text_value q v start size e = sym (ap (λ (x : Value). value_text (value_of q x)) e)

pub truth_value : (q : Bytes) (v : Value) (t : Bool) → v ≡ Truth t → value_text (bool t) ≡ value_text (value_of q v)
unfolding value_text value_of
truth_value q v t e = sym (ap (λ (x : Value). value_text (value_of q x)) e)
