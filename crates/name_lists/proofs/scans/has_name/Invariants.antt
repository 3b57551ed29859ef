-- `name_lists::scans::has_name` meets its contract. Assumes nothing.
use Prim.Native.Nat.{◌-◌}
use lib.ListN.{length}
use Rattle.model.specs.Names.{mem}
use Rattle.name_lists.specs.Names.{Left}
use Rattle.name_lists.proofs.scans.has_name.Given as goal

abbrev pub invariant-loop-i : goal.invariant-loop-i
invariant-loop-i l = Left (mem l.name) (mem l.name) l.s l.from l.i

abbrev pub decreases-loop-i : goal.decreases-loop-i
decreases-loop-i l = length l.s - l.i
