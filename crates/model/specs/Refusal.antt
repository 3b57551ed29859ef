-- Refusals, and tables of faults in which the lowest number counts.
use Rattle.std.specs.Prelude.{ℕ, List, [], ◌∷◌, Bool}
use Rattle.model.specs.Choice.{pick, Maybe, nothing, just}

-- returned (number, text, line)
pub record Refusal : Type 0 where
  pub number : ℕ
  pub text : ℕ
  pub line : ℕ

-- what a text or a service gives
pub data Outcome (A : Type 0) : Type 0 where
  accepted : A → Outcome A
  refused : Refusal → Outcome A

-- go on with what was accepted; a refusal stays
unfoldable pub on_accept : {A B : Type 0} → Outcome A → (A → Outcome B) → Outcome B
on_accept (accepted a) f = f a
on_accept (refused r) f = refused r

-- refusal n of text t at line l
unfoldable pub refusal : {A : Type 0} → ℕ → ℕ → ℕ → Outcome A
refusal n t l = refused (record { number = n; text = t; line = l })

-- refused if a number is there
unfoldable pub refused_if : {A : Type 0} → Maybe ℕ → ℕ → ℕ → Outcome A → Outcome A
refused_if nothing t l o = o
refused_if (just n) t l o = refusal n t l

-- one row of a table of faults: its number, and whether it is there
pub record Row : Type 0 where
  pub fault : ℕ
  pub found : Bool

-- `4 if test`: number 4, found if the test holds
infix 25 ◌if◌
abbrev pub ◌if◌ : ℕ → Bool → Row
n if b = record { fault = n; found = b }

-- the lowest number of a table in ascending order whose fault is there
unfoldable pub lowest : List Row → Maybe ℕ
lowest [] = nothing
lowest (r ∷ rs) = let rest = lowest rs in pick r.found (just r.fault) rest
