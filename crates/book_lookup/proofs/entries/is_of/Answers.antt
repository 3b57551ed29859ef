-- `book_lookup::entries::is_of` meets its contract. Assumes nothing.
use Prim.Native.Nat.{◌+◌, ◌*◌}
use native.Mathlib.Omega.{arith}
use Rattle.book_tables.specs.Layout.{entries}
use Rattle.book_lookup.proofs.entries.is_of.Goals as goal

pub overflow_cast-result : goal.overflow_cast-result
overflow_cast-result c = omega (arith, c.type_inv.words (entries + 3 * c.args.entry))
