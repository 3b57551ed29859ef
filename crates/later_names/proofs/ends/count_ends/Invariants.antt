-- `later_names::ends::count_ends` meets its contract. The loop's invariant: the ends of the relationships before i are counted.
use Prim.Native.Nat.{◌≤◌}
use Rattle.later_names.specs.Ends.{EndsCounted}
use Rattle.later_names.proofs.ends.count_ends.Given as goal

abbrev pub invariant-loop-i : goal.invariant-loop-i
invariant-loop-i l = (l.i ≤ l.count) × EndsCounted l.words l.i l.ends
