-- The words of the edges are their rows.
use Rattle.model.specs.PlainData.{no_edge}
use Rattle.answer_words.specs.Words.{edge_word, edge_words}
use Rattle.answer_words.proofs.patterns.edge_words.Goals as goal

pub returns : goal.returns
unfolding edge_words edge_word
returns c = c.words_of.ensures no_edge
