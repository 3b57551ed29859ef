-- `edge_number` meets its contract. The loop's invariant: none of the first k edges has the name. Assumes nothing.
use Prim.Native.Nat.{◌≤◌}
use Rattle.model.specs.Answers.{name_at}
use Rattle.model.specs.PlainData.{no_edge}
use Rattle.model.specs.declared.Edge.{Edge}
use Rattle.query.proofs.VertexLaws.{NoneNamed}
use Rattle.query.proofs.edges.edge_number.Given as goal

abbrev pub invariant-loop-k : goal.invariant-loop-k
invariant-loop-k l = (l.k ≤ l.n) × NoneNamed (λ (e : Edge). name_at l.s e.name) no_edge l.links.items (name_at l.s l.name) l.k
