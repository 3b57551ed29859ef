-- `name_lists::scans::names_end` meets its contract.
use Prim.Native.Nat.{◌-◌}
use mathlib.Core.Path.{◌≡◌}
use lib.ListN.{length}
use Rattle.name_lists.specs.Names.{names_behind, names_end}
use Rattle.name_lists.proofs.scans.names_end.Given as goal

abbrev pub invariant-loop-i : goal.invariant-loop-i
invariant-loop-i l = names_end (names_behind l.s l.i) ≡ names_end (names_behind l.s l.from)

abbrev pub decreases-loop-i : goal.decreases-loop-i
decreases-loop-i l = length l.s - l.i
