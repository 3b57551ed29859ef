-- Laws of written values: the digits of a number, its sign, and the truth values. Assumes nothing.
use Prim.Native.Nat.{ℕ, zero, suc, ◌+◌, ◌-◌, ◌≤◌, ◌<◌, ◌/◌, ◌%◌, ◌^◌}
use mathlib.Core.Path.{◌≡◌, refl, sym, ap, ◌∙◌}
use mathlib.Core.List.{[], ◌∷◌, ◌++◌, append_assoc}
use mathlib.Core.Bool.{Bool, true, false}
use native.Mathlib.Omega.{arith}
use borrow.Author.Tests.{lt-ltb, le-ltb, le-leb, lt-leb}
use Rattle.model.specs.Bytes.{Bytes, bytes_of}
use Rattle.model.specs.Values.{bool}
use Rattle.model.specs.Writing.{digits, whole_text, value_text}

pub no_digits : (k n : ℕ) → k ≡ 0 → [] ≡ digits k n
unfolding digits
no_digits zero n e = refl
no_digits (suc k) n e = absurd (omega arith)

pub one_digit : (k n : ℕ) → (k ≡ 0 → ⊥) → n < 10 → (48 + n) ∷ [] ≡ digits k n
unfolding digits
one_digit zero n h l = absurd (h refl)
one_digit (suc k) n h l = rw (lt-ltb n 10 l)

pub more_digits : (k n : ℕ) → (k ≡ 0 → ⊥) → 10 ≤ n → digits (k - 1) (n / 10) ++ ((48 + n % 10) ∷ []) ≡ digits k n
unfolding digits
more_digits zero n h l = absurd (h refl)
more_digits (suc k) n h l = let e : suc k - 1 ≡ k = omega arith in rw (le-ltb n 10 l, e)

pub last_digit : (k n : ℕ) → k ≡ 1 → 10 ≤ n → (48 + n % 10) ∷ [] ≡ digits k n
unfolding digits
last_digit zero n e l = absurd (omega arith)
last_digit (suc k) n e l = let z : k ≡ 0 = omega arith in rw (le-ltb n 10 l, z)

pub two_digits : (k n : ℕ) → (k ≡ 0 → ⊥) → (k ≡ 1 → ⊥) → 10 ≤ n → n < 100 → (48 + n / 10) ∷ (48 + n % 10) ∷ [] ≡ digits k n
two_digits k n h g l m =
    ap (λ (t : Bytes). t ++ ((48 + n % 10) ∷ [])) (one_digit (k - 1) (n / 10) (λ e. g (omega arith)) (omega arith)) ∙ more_digits k n h l

pub two_more_digits : (k n : ℕ) → (k ≡ 0 → ⊥) → (k ≡ 1 → ⊥) → 100 ≤ n
    → digits (k - 2) (n / 100) ++ ((48 + n % 100 / 10) ∷ (48 + n % 100 % 10) ∷ []) ≡ digits k n
two_more_digits k n h g l =
    let a : n % 100 / 10 ≡ n / 10 % 10 = omega arith in
    let b : n % 100 % 10 ≡ n % 10 = omega arith in
    let e : k - 1 - 1 ≡ k - 2 = omega arith in
    let d : n / 10 / 10 ≡ n / 100 = omega arith in
    let front : digits (k - 2) (n / 100) ++ ((48 + n / 10 % 10) ∷ []) ≡ digits (k - 1) (n / 10) =
    rw (← e, ← d) (more_digits (k - 1) (n / 10) (λ z. g (omega arith)) (omega arith)) in
    rw (a, b) (sym (append_assoc (digits (k - 2) (n / 100)) ((48 + n / 10 % 10) ∷ []) ((48 + n % 10) ∷ [])))
    ∙ ap (λ (t : Bytes). t ++ ((48 + n % 10) ∷ [])) front ∙ more_digits k n h (omega arith)

pub not_negative : (n : ℕ) → 2 ^ 63 ≤ n → digits 20 (n - 2 ^ 63) ≡ whole_text n
unfolding whole_text
not_negative n h = rw (le-leb (2 ^ 63) n h)

pub negative : (n : ℕ) → n < 2 ^ 63 → 45 ∷ digits 20 (2 ^ 63 - n) ≡ whole_text n
unfolding whole_text
negative n h = rw (lt-leb (2 ^ 63) n h)

pub true_text : (t : Bool) → t ≡ true → bytes_of "true" ≡ value_text (bool t)
unfolding value_text
true_text t e = sym (ap (λ (x : Bool). value_text (bool x)) e)

pub false_text : (t : Bool) → t ≡ false → bytes_of "false" ≡ value_text (bool t)
unfolding value_text
false_text t e = sym (ap (λ (x : Bool). value_text (bool x)) e)
