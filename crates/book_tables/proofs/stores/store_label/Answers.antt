use Rattle.book_tables.specs.Stores.{with_label}
use borrow.Author.Rules.{rules}
use Rattle.book_tables.proofs.stores.store_label.Goals as goal

pub returns : goal.returns
unfolding with_label
returns c = search rules
