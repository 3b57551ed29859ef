-- Several texts, one behind another: one text before the first, another before each that follows.
use Rattle.std.specs.Prelude.{ℕ, List, [], ◌∷◌, ◌++◌, eqb}
use Rattle.model.specs.Bytes.{Bytes}
use Rattle.model.specs.Choice.{pick}
use Rattle.model.specs.Writing.{each_behind}

-- what stands before the one of a number
unfoldable pub before : Bytes → Bytes → ℕ → Bytes
before first next i = pick (eqb i 0) first next

-- all of them
unfoldable pub listing : Bytes → Bytes → List Bytes → Bytes
listing first next [] = []
listing first next (t ∷ ts) = first ++ t ++ each_behind next ts
