-- `items::read::item` and `items::read::list` meet their contracts. Bytes left fall from each to the other. The list's invariant: the rest of the list
-- from i on ends where the whole list ends.
use Rattle.items.proofs.NextLaws.{ends}
use Rattle.items.specs.Rest.{rest_at}
use Prim.Native.Nat.{◌≤◌, ◌+◌, ◌-◌, ◌*◌}
use lib.ListN.{length}
use mathlib.Core.Path.{◌≡◌}
use Rattle.items.proofs.read.+item_list.Given as goal

abbrev pub decreases-item : goal.decreases-item
decreases-item l = 2 * (length l.s.now - l.at)

abbrev pub decreases-list : goal.decreases-list
decreases-list l = 2 * (length l.s.now - l.from) + 1

abbrev pub invariant-list-loop-i : goal.invariant-list-loop-i
invariant-list-loop-i l = (l.from ≤ l.i) × (rest_at l.depth l.free_here l.i l.s ends ≡ rest_at l.depth l.free l.from l.s ends)

abbrev pub decreases-list-loop-i : goal.decreases-list-loop-i
decreases-list-loop-i l = length l.s - l.i
