-- `add_clauses` meets its contract. The loop's invariant: the first i clauses are woven. Assumes nothing.
use Rattle.woven_tables.proofs.ClauseTable.{ClausesSoFar}
use Prim.Native.Nat.{◌-◌, ◌≤◌}
use Rattle.woven_tables.proofs.clauses.add_clauses.Given as goal

abbrev pub invariant-loop-i : goal.invariant-loop-i
invariant-loop-i l = (l.i ≤ l.count) × ClausesSoFar l.base l.k l.clauses l.i l.numbers l.before l.initial.words l.words l.woven
