-- What is told of the lamp: yes, no, or the refusal.
use borrow.Author.Rules.{rules}
use Rattle.telling.proofs.AnswerLaws.{lamp_told}
use Rattle.telling.proofs.lamp.tell_lamp.Goals as goal

pub returns : goal.returns
returns c = lamp_told _ _ (search rules) c.tell.ensures
