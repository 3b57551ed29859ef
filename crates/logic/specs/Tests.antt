-- Facts on tests: what a test that passes says, and proofs by cases. Assumes nothing.
use Rattle.std.specs.Prelude.{ℕ, ◌<◌, ◌≤◌, ◌≡◌, refl, ◌≢◌, ◌⊎◌, Bool, true, false, not, ◌&&◌, ◌||◌, cond}
use Rattle.std.proofs.Common.{subst, inl, inr}
use lib.Dec.{T, eqb, ltb, eqb→eq, eqb_refl, nltb→le}

-- By cases, the sum first: what it says types the two functions.
pub either {ℓ} : {A B : Type 0} {C : Type ℓ} → A ⊎ B → (A → C) → (B → C) → C
either (inl a) f g = f a
either (inr b) f g = g b

-- A test passes, or its negation does.
pub passes_or_not : (b : Bool) → T b ⊎ T (not b)
passes_or_not true = inl tt
passes_or_not false = inr tt

-- To prove something of `cond b x y`, prove it of x where the test passes, and of y where it does not.
pub by_cond {ℓ} : {A : Type 0} (P : A → Type ℓ) (b : Bool) {x y : A} → (T b → P x) → (T (not b) → P y) → P (cond b x y)
by_cond P true p q = p tt
by_cond P false p q = q tt

pub not_both : (b : Bool) → T b → T (not b) → ⊥
not_both true p q = q
not_both false p q = p

-- A test that passes is true, and one whose negation passes is false.
pub passes→true : (b : Bool) → T b → b ≡ true
passes→true true t = refl
passes→true false t = absurd t

pub fails→false : (b : Bool) → T (not b) → b ≡ false
fails→false true t = absurd t
fails→false false t = refl

-- Two tests that pass alike are equal.
pub same_test : (a b : Bool) → (T a → T b) → (T b → T a) → a ≡ b
same_test true true f g = refl
same_test true false f g = absurd (f tt)
same_test false true f g = absurd (g tt)
same_test false false f g = refl

pub and_left : (a b : Bool) → T (a && b) → T a
and_left true b t = tt
and_left false b t = t

pub and_right : (a b : Bool) → T (a && b) → T b
and_right true b t = t
and_right false b t = absurd t

pub and_both : (a b : Bool) → T a → T b → T (a && b)
and_both true b p q = q
and_both false b p q = p

pub or_left : (a b : Bool) → T a → T (a || b)
or_left true b t = tt
or_left false b t = absurd t

pub or_right : (a b : Bool) → T b → T (a || b)
or_right true b t = tt
or_right false b t = t

pub or_either : (a b : Bool) → T (a || b) → T a ⊎ T b
or_either true b t = inl tt
or_either false b t = inr t

pub not_or : (a b : Bool) → T (not (a || b)) → T (not a) × T (not b)
not_or true b t = absurd t
not_or false b t = (tt, t)

pub not_and : (a b : Bool) → T (not (a && b)) → T a → T (not b)
not_and true b t s = t
not_and false b t s = absurd s

pub eq→eqb : (a b : ℕ) → a ≡ b → T (eqb a b)
eq→eqb a b e = subst (λ x. T (eqb a x)) e (eqb_refl a)

pub neqb→ne : (a b : ℕ) → T (not (eqb a b)) → a ≢ b
neqb→ne a b f e = not_both (eqb a b) (eq→eqb a b e) f

-- Two numbers are equal, or the test and the fact both say that they are not.
pub equal_or_not : (a b : ℕ) → (a ≡ b) ⊎ (T (not (eqb a b)) × (a ≢ b))
equal_or_not a b = either (passes_or_not (eqb a b)) (λ t. inl (eqb→eq a b t)) (λ f. inr (f, neqb→ne a b f))

-- One number is below the other, or not.
pub below_or_not : (a b : ℕ) → (a < b) ⊎ (b ≤ a)
below_or_not a b = either (passes_or_not (ltb a b)) (λ t. inl (lib.Dec.ltb→lt a b t)) (λ f. inr (nltb→le a b f))
