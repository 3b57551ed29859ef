-- `tidy_text` meets its contract: what the writer of the tidy book leaves is printed.
use Rattle.model.specs.Tidy.{tidy_book}
use Rattle.model.specs.Service.{tidy_service}
use Rattle.model.specs.Printed.{printed_tidy}
use borrow.Author.Rules.{rules}
use Rattle.printed_books.proofs.tidy_text.Goals as goal

pub returns : goal.returns
unfolding printed_tidy tidy_service
returns c =
    let a = c.args in
    let r = c.tidy_book-written in
    c.book_or_refusal.ensures (tidy_book a.book.now) a.out.now (search rules) r.ensures.answer r.ensures.text
