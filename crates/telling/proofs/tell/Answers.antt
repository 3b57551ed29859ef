-- What is told of a verdict, accepted or refused.
use Rattle.telling.specs.Told.{accepting, of_refusal}
use Rattle.telling.proofs.ToldLaws.{tells}
use Rattle.telling.proofs.tell.Goals as goal

pub returns-in-Ok : goal.returns-in-Ok
unfolding accepting of_refusal
returns-in-Ok g c = tells _ _ c.in-Ok.is

pub returns-in-Err : goal.returns-in-Err
unfolding accepting of_refusal
returns-in-Err g c = tells _ _ c.in-Err.is
