-- The words of the vertices are their rows.
use Rattle.model.specs.PlainData.{no_part}
use Rattle.answer_words.specs.Words.{vertex_word, vertex_words}
use Rattle.answer_words.proofs.patterns.vertex_words.Goals as goal

pub returns : goal.returns
unfolding vertex_words vertex_word
returns c = c.words_of.ensures no_part
