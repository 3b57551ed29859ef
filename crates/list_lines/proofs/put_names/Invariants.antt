use Prim.Native.Nat.{◌≤◌, ◌-◌}
use lib.ListN.{length}
use Rattle.model.specs.Book.{node_names}
use Rattle.book_tables.specs.View.{book_at}
use Rattle.putting.specs.Putting.{Puts}
use Rattle.list_lines.specs.Printing.{names_text}
use Rattle.list_lines.proofs.put_names.Given as goal

abbrev pub invariant-loop-node : goal.invariant-loop-node
invariant-loop-node l = (l.node-index ≤ length l.row) × Puts l.initial.out l.at (names_text (node_names (book_at l.book l.words l.counts)) l.row l.node-index) l.out l.next
