-- `put_vertices` meets its contract. The loop's invariant: the first i are put. Assumes nothing.
use Prim.Native.Nat.{◌≤◌}
use Rattle.putting.specs.Putting.{Puts}
use Rattle.query_writer.specs.Pieces.{vertices_text}
use Rattle.query_writer.proofs.matches.put_vertices.Given as goal

abbrev pub invariant-loop-i : goal.invariant-loop-i
invariant-loop-i l = (l.i ≤ l.count) × Puts l.initial.out l.at (vertices_text l.query l.vertices l.i) l.out l.next
