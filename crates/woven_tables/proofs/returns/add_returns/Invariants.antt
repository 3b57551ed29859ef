-- `add_returns` meets its contract. The loop's invariant: the first i Return vertices are stored. Assumes nothing.
use Rattle.woven_tables.proofs.ReturnLaws.{ReturnsSoFar}
use Prim.Native.Nat.{◌-◌, ◌≤◌}
use Rattle.woven_tables.proofs.returns.add_returns.Given as goal

abbrev pub invariant-loop-i : goal.invariant-loop-i
invariant-loop-i l = (l.i ≤ l.count) × ReturnsSoFar l.returns l.i l.numbers l.initial.words l.words
