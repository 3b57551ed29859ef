-- The words of the identities are their rows.
use Rattle.answer_words.specs.Words.{no_identity, identity_word, identity_words}
use Rattle.answer_words.proofs.identities.identity_words.Goals as goal

pub returns : goal.returns
unfolding identity_words identity_word
returns c = c.words_of.ensures no_identity
