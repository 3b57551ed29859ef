-- `book_or_refusal` meets its contract: the book stands in the buffer, or the refusal is put there.
use Rattle.printed_books.proofs.FrontLaws.{book_printed_law, refusal_printed}
use Rattle.printed_books.proofs.book_or_refusal.Goals as goal

pub returns-in-Ok : goal.returns-in-Ok
returns-in-Ok c =
    let a = c.args in
    λ o buffer room answer text. book_printed_law o buffer a.out.now room a.written answer text _ c.in-Ok.is

pub returns-in-Err : goal.returns-in-Err
returns-in-Err c =
    let a = c.args in
    λ o buffer room answer text. refusal_printed o buffer a.out.now room a.written answer text _ _ _ c.in-Err.is
    c.put_refusal.ensures
