-- `name_lists::scans::has_twice_short` meets its contract, with a small table: a table of zeros has no name. Assumes nothing.
use native.Mathlib.Omega.{arith}
use Rattle.names_met.proofs.TableLaws.{holds_none}
use Rattle.name_lists.proofs.scans.has_twice_short.Goals as goal

pub has_twice_with-requires : goal.has_twice_with-requires
has_twice_with-requires c = holds_none _ 768 (omega arith)
