use native.Mathlib.Omega.{arith}
use lib.ListN.{length}
use Rattle.query_survey.proofs.ScanLaws.{step_list, step_whole, step_ends}
use mathlib.Core.Path.{refl, sym, ap, ◌∙◌}
use Rattle.query_faults.proofs.walk.is_whole_from.Goals as goal

pub loop-x-init : goal.loop-x-init
loop-x-init c = refl

pub loop-x-smaller : goal.loop-x-smaller
loop-x-smaller c =
    let z = ap length (step_list c.args.s.now c.loop-x.place c.next_piece.result c.next_piece.ensures
    c.in-Ok.x c.in-Ok.is) in omega arith

pub loop-x-preserved : goal.loop-x-preserved
loop-x-preserved c =
    sym (step_whole c.args.s.now c.loop-x.place c.next_piece.result c.next_piece.ensures
    c.in-Ok.x c.in-Ok.is) ∙ c.loop-x.invariant

pub returns-in-Err : goal.returns-in-Err
returns-in-Err c =
    sym (step_ends c.args.s.now c.loop-x.place c.next_piece.result
    c.next_piece.ensures c.in-Err.whole c.in-Err.is) ∙ c.loop-x.invariant
