-- What is told of rules, accepted or refused.
use Rattle.telling.proofs.AnswerLaws.{rules_told}
use Rattle.telling.proofs.counts.tell_rules.Goals as goal

pub returns : goal.returns
returns c = rules_told _ _ c.unwrap_or-size.ensures c.tell.ensures
