-- What is told of a written query, accepted or refused.
use Rattle.telling.proofs.AnswerLaws.{length_told}
use Rattle.telling.proofs.counts.tell_length.Goals as goal

pub returns : goal.returns
returns c = length_told _ _ c.unwrap_or.ensures c.tell.ensures
