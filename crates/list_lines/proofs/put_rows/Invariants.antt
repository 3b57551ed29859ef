-- `put_rows` meets its contract: the rows passed are put, and the next one begins at its number times the width.
use Prim.Native.Nat.{◌≤◌, ◌-◌, ◌*◌}
use mathlib.Core.Path.{◌≡◌}
use lib.ListN.{take}
use Rattle.model.specs.Book.{node_names}
use Rattle.model.specs.Lists.{joined}
use Rattle.model.specs.Printed.{row_text}
use Rattle.book_tables.specs.View.{book_at}
use Rattle.rows.specs.Buffer.{rows_in}
use Rattle.putting.specs.Putting.{Puts}
use Rattle.list_lines.proofs.put_rows.Given as goal

abbrev pub invariant-loop-i : goal.invariant-loop-i
invariant-loop-i l =
    (l.i ≤ l.count) × (l.from ≡ l.i * l.width) × Puts l.initial.out l.at (joined (row_text (node_names (book_at l.book l.words l.counts))) (take l.i (rows_in l.width l.count l.rows))) l.out l.next
