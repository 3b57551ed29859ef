-- `book_lookup::values::number_of` meets its contract. Assumes nothing.
use Rattle.book_lookup.proofs.ValueLaws.{number_value}
use Rattle.book_lookup.proofs.values.number_of.Goals as goal

pub returns : goal.returns
returns c = let a = c.args in
    λ book. rw (c.word_of.ensures, c.word_of-2.ensures) (number_value book a.words.now a.entry c.requires.is)
