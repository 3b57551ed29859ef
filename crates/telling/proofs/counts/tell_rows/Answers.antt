-- What is told of a list, accepted or refused.
use Rattle.telling.proofs.AnswerLaws.{rows_told}
use Rattle.telling.proofs.counts.tell_rows.Goals as goal

pub returns : goal.returns
returns c = rows_told _ _ c.unwrap_or-size.ensures c.tell.ensures
