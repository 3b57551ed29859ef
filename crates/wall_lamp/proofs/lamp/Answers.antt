-- `lamp` meets its contract, by what asking with no row word gives.
use borrow.Author.Rules.{rules}
use Rattle.wall_lamp.proofs.LampLaws.{lamp_shown, lamp_refused}
use Rattle.wall_lamp.proofs.lamp.Goals as goal

pub returns-in-Ok : goal.returns-in-Ok
returns-in-Ok c =
    lamp_shown _ _ _ _ _ _ c.ask.ensures.cleared _ _ c.ask.ensures.answer _ c.in-Ok.is _ (search rules)

pub returns-in-Err : goal.returns-in-Err
returns-in-Err c =
    lamp_refused _ _ _ _ _ _ c.ask.ensures.cleared _ _ c.ask.ensures.answer _ c.in-Err.is
