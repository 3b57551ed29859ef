-- Choice by a test, and answers that may be missing.
use Rattle.std.specs.Prelude.{Bool, true, false}

-- a where the test holds, b where it does not
abbrev pub pick : {A : Type 0} → Bool → A → A → A
pick true a b = a
pick false a b = b

-- what is there, or nothing
pub data Maybe (A : Type 0) : Type 0 where
  nothing : Maybe A
  just : A → Maybe A

-- go on with what is there; nothing stays nothing
unfoldable pub and_then : {A B : Type 0} → Maybe A → (A → Maybe B) → Maybe B
and_then nothing f = nothing
and_then (just a) f = f a
