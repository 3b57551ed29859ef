-- `book_lookup::values::truth_of` meets its contract. Assumes nothing.
use Rattle.book_lookup.proofs.ValueLaws.{truth_value}
use Rattle.book_lookup.proofs.values.truth_of.Goals as goal

pub returns : goal.returns
returns c = let a = c.args in λ book. rw c.word_of.ensures (truth_value book a.words.now a.entry c.requires.is)
