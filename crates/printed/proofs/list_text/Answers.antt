-- `list_text` meets its contract: the book's refusal is put, or what stands behind an accepted book.
use Rattle.printed.proofs.PrintsLaws.{loaded, book_refusal_printed}
use Rattle.printed.proofs.list_text.Goals as goal

pub returns-in-Err : goal.returns-in-Err
returns-in-Err c =
    let a = c.args in
    let l = c.load in
    book_refusal_printed a.book.now a.rules.now a.query.now a.request.now _ l.result _ c.in-Err.is l.ensures
    c.put_refusal.ensures

pub from_book-requires : goal.from_book-requires
from_book-requires c =
    let l = c.load in
    loaded c.args.book.now _ l.result _ c.in-Ok.is l.ensures
