use Rattle.book_tables.specs.View.{book_at}
use Rattle.book_tables.proofs.names.find_label.Goals as goal

pub returns : goal.returns
unfolding book_at
returns c = c.find_name.ensures
