-- `count_exclusions` meets its contract. The loop's invariant: n of the first i clauses are exclusions. Assumes nothing.
use Rattle.woven_tables.specs.ClauseSteps.{ExclusionsCounted}
use Prim.Native.Nat.{◌-◌, ◌≤◌}
use Rattle.woven_tables.proofs.clauses.count_exclusions.Given as goal

abbrev pub invariant-loop-i : goal.invariant-loop-i
invariant-loop-i l = (l.i ≤ l.count) × ExclusionsCounted l.clauses l.i l.n
