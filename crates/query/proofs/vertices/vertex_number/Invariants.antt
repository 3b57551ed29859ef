-- `vertex_number` meets its contract. The loop's invariant: none of the first k vertices has the name. Assumes nothing.
use Prim.Native.Nat.{◌≤◌}
use Rattle.model.specs.Answers.{name_at}
use Rattle.model.specs.PlainData.{no_part}
use Rattle.query.proofs.VertexLaws.{NoneNamed}
use Rattle.query.proofs.vertices.vertex_number.Given as goal

abbrev pub invariant-loop-k : goal.invariant-loop-k
invariant-loop-k l = (l.k ≤ l.n) × NoneNamed (name_at l.s) no_part l.vertices.items (name_at l.s l.name) l.k
