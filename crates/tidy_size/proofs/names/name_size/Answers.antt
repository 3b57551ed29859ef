-- `tidy_size::names::name_size` meets its contract. Assumes nothing.
use native.Mathlib.Omega.{arith}
use Rattle.tidy_size.proofs.names.name_size.Goals as goal

pub overflow_cast-result : goal.overflow_cast-result
overflow_cast-result c = omega (arith, c.type_inv.words c.args.at)
