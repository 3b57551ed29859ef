-- What is told of a book, accepted or refused.
use Rattle.telling.proofs.AnswerLaws.{book_told}
use Rattle.telling.proofs.counts.tell_book.Goals as goal

pub returns : goal.returns
returns c = book_told _ _ c.unwrap_or-size.ensures c.tell.ensures
