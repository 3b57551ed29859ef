-- `put_conditions` meets its contract. The loop's invariant: the first i are put. Assumes nothing.
use Prim.Native.Nat.{◌≤◌}
use Rattle.putting.specs.Putting.{Puts}
use Rattle.query_writer.specs.Pieces.{conditions_text}
use Rattle.query_writer.proofs.conditions.put_conditions.Given as goal

abbrev pub invariant-loop-i : goal.invariant-loop-i
invariant-loop-i l = (l.i ≤ l.count)
    × Puts l.initial.out l.at (conditions_text l.book l.words l.query l.vertices l.edges l.clauses l.i) l.out l.next
