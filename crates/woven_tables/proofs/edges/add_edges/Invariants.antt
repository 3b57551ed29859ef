-- `add_edges` meets its contract. The loop's invariant: the first i edges are woven. Assumes nothing.
use Rattle.woven_tables.proofs.EdgeLaws.{EdgesSoFar}
use Prim.Native.Nat.{◌-◌, ◌≤◌}
use Rattle.woven_tables.proofs.edges.add_edges.Given as goal

abbrev pub invariant-loop-i : goal.invariant-loop-i
invariant-loop-i l = (l.i ≤ l.count) × EdgesSoFar l.base l.k l.edges l.i l.numbers l.initial.words l.words l.woven
