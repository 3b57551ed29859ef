-- `name_lists::scans::has_twice_with` meets its contract. The loop's invariant: the table has the names before the place. Assumes nothing.
use Prim.Native.Nat.{◌-◌}
use mathlib.Core.Path.{◌≡◌}
use lib.ListN.{length}
use Rattle.name_lists.proofs.Again.{MetBefore}
use Rattle.name_lists.proofs.scans.has_twice_with.Given as goal

abbrev pub invariant-loop-i : goal.invariant-loop-i
invariant-loop-i l = MetBefore l.s l.table l.from l.n l.i × (length l.table ≡ length l.initial.table)

abbrev pub decreases-loop-i : goal.decreases-loop-i
decreases-loop-i l = length l.s - l.i
