-- `put_list` meets its contract: the header, then the rows' lines.
use Rattle.model.specs.Book.{node_names}
use Rattle.book_tables.specs.View.{book_at}
use Rattle.putting.proofs.PuttingLaws.{puts_then, puts_same}
use Rattle.list_lines.proofs.RowLaws.{header_then_rows}
use Rattle.list_lines.proofs.put_list.Goals as goal

pub returns : goal.returns
returns c =
    let a = c.args in
    puts_same (header_then_rows (node_names (book_at a.book.now a.words.now a.counts)) a.width a.count a.rows.now)
    (puts_then c.put_header-at.ensures c.put_rows.ensures)
