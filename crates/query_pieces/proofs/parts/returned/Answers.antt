use Rattle.model.specs.Places.{none, variable_at}
use Rattle.query_pieces.proofs.StepLaws.{return_by}
use Rattle.query_signs.specs.Reads.{signs_from}
use Rattle.query_signs.specs.Expected.{NameInside}
use Rattle.query_pieces.proofs.PartLaws.{name_read, name_unread, name_moves, name_stands, step_stopped}
use Rattle.query_pieces.specs.Steps.{step_of, walk_at, piece_of, spot_of, chain_at, piece_standing}
use Rattle.query_pieces.specs.Walk.{or_stopped}
use native.Mathlib.Omega.{arith}
use mathlib.Core.Bool.{false}
use mathlib.Core.Path.{ap, subst, ◌∙◌}
use Rattle.query_pieces.proofs.parts.returned.Goals as goal

pub returns-in_default : goal.returns-in_default
unfolding or_stopped
returns-in_default c =
    step_stopped (return_by (signs_from false c.args.close c.args.s.now c.args.from)
    ∙ ap or_stopped (name_unread false c.args.close c.args.s.now c.args.from c.name_next.result
    c.name_next.ensures c.in_default.is _))

pub returns : goal.returns
unfolding step_of walk_at piece_of spot_of chain_at or_stopped piece_standing variable_at
returns c =
    record {
      reads = return_by (signs_from false c.args.close c.args.s.now c.args.from)
          ∙ ap or_stopped (name_read false c.args.close c.args.s.now c.args.from c.name_next.result
          c.name_next.ensures c.in-Some.v c.in-Some.q c.in-Some.is _);
      moves = omega (
        arith,
        name_moves false c.args.close c.args.s.now c.args.from c.name_next.result
            c.name_next.ensures c.in-Some.v c.in-Some.q c.in-Some.is,
      );
      inside = subst (NameInside c.args.s.now) c.in-Some.is c.name_next.ensures.inside;
      stands = name_stands false
          c.args.close c.args.s.now c.args.from c.name_next.result c.name_next.ensures
          c.in-Some.v c.in-Some.q c.in-Some.is none;
      ends = tt;
    }
