-- `later_names::later_marks` meets its contract. The loop's invariant: the marks of the nodes before it are set, and no others.
use Prim.Native.Nat.{◌≤◌}
use Rattle.model.specs.Book.{node_names}
use Rattle.book_tables.specs.View.{book_at}
use Rattle.later_names.proofs.MarkLaws.{MarkedSoFar}
use Rattle.later_names.proofs.later_marks.Given as goal

abbrev pub invariant-loop-node : goal.invariant-loop-node
invariant-loop-node l = (l.node ≤ l.nodes) × MarkedSoFar (node_names (book_at l.text l.words l.counts)) l.marks l.node
