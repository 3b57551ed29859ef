-- A fault that was found, as the definitions have it.
use Rattle.std.specs.Prelude.{ℕ, Option, None, Some}
use Rattle.model.specs.Choice.{Maybe, nothing, just}

-- the fault that was found, or none
unfoldable pub fault_of : Option ℕ → Maybe ℕ
fault_of None = nothing
fault_of (Some n) = just n
