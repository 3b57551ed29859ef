use Rattle.model.specs.Book.{node_names}
use Rattle.book_tables.specs.View.{book_at}
use Rattle.putting.proofs.PuttingLaws.{puts_then, puts_same, puts_keeps_length}
use Rattle.list_lines.proofs.PrintingLaws.{row_text_law}
use Rattle.list_lines.proofs.put_row.Goals as goal

pub shape_of-out : goal.shape_of-out
shape_of-out c =
    puts_keeps_length (puts_then (puts_then c.put_bytes-at.ensures c.put_names-at.ensures) c.put_bytes.ensures)

pub returns : goal.returns
returns c =
    let a = c.args in puts_same (row_text_law (node_names (book_at a.book.now a.words.now a.counts)) a.row.now)
    (puts_then (puts_then c.put_bytes-at.ensures c.put_names-at.ensures) c.put_bytes.ensures)
