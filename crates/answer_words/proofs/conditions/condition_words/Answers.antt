-- The words of the conditions are their rows.
use Rattle.model.specs.PlainData.{no_clause}
use Rattle.answer_words.specs.Words.{condition_word, condition_words}
use Rattle.answer_words.proofs.conditions.condition_words.Goals as goal

pub returns : goal.returns
unfolding condition_words condition_word
returns c = c.words_of.ensures no_clause
