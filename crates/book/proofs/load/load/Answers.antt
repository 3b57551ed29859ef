use Rattle.model.specs.ReadBook.{read_book}
use Rattle.book.proofs.load.load.Goals as goal

pub returns : goal.returns
unfolding read_book
returns c = c.load_by.ensures
