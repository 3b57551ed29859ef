-- `renaming_text` meets its contract: what the renaming leaves is printed.
use Rattle.model.specs.Renaming.{renamed_book}
use Rattle.model.specs.Service.{rename_service}
use Rattle.model.specs.Printed.{printed_renaming}
use borrow.Author.Rules.{rules}
use Rattle.printed_books.proofs.renaming_text.Goals as goal

pub returns : goal.returns
unfolding printed_renaming rename_service
returns c =
    let a = c.args in
    let r = c.rename_book-written in
    c.book_or_refusal.ensures (renamed_book a.book.now) a.out.now (search rules) r.ensures.answer r.ensures.text
