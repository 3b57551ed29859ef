-- The words of the Return names are rows of one word.
use Rattle.book_tables.specs.Listed.{listed}
use Rattle.answer_words.specs.Words.{return_word, return_words, row_word}
use Rattle.answer_words.proofs.patterns.return_words.Goals as goal

pub returns : goal.returns
unfolding return_words return_word row_word listed
returns c = c.words_of.ensures 0
