use Rattle.model.specs.Places.{none}
use Rattle.query_pieces.proofs.StepLaws.{start_by}
use Rattle.query_signs.specs.Reads.{signs_from}
use Rattle.query_signs.specs.Expected.{NameInside}
use Rattle.query_pieces.proofs.PartLaws.{vertex_read, vertex_unread, vertex_moves, vertex_stands, step_stopped}
use Rattle.query_pieces.specs.Steps.{step_of, walk_at, piece_of, spot_of, chain_at, piece_standing}
use Rattle.query_pieces.specs.Walk.{or_stopped}
use native.Mathlib.Omega.{arith}
use mathlib.Core.Bool.{true}
use mathlib.Core.Path.{ap, subst, ◌∙◌}
use Rattle.query_pieces.proofs.parts.start.Goals as goal

pub returns-in_default : goal.returns-in_default
unfolding or_stopped
returns-in_default c =
    step_stopped (start_by (signs_from true true c.args.s.now c.args.from)
    ∙ ap or_stopped (vertex_unread true c.args.s.now c.args.from c.vertex.result
    c.vertex.ensures c.in_default.is _))

pub returns : goal.returns
unfolding step_of walk_at piece_of spot_of chain_at or_stopped piece_standing
returns c =
    record {
      reads = start_by (signs_from true true c.args.s.now c.args.from)
          ∙ ap or_stopped (vertex_read true c.args.s.now c.args.from c.vertex.result c.vertex.ensures
          c.in-Some.v c.in-Some.q c.in-Some.is _);
      moves = omega (
        arith,
        vertex_moves true c.args.s.now c.args.from c.vertex.result c.vertex.ensures
            c.in-Some.v c.in-Some.q c.in-Some.is,
      );
      inside = subst (NameInside c.args.s.now) c.in-Some.is c.vertex.ensures.inside;
      stands = vertex_stands true c.args.s.now
          c.args.from c.vertex.result c.vertex.ensures c.in-Some.v c.in-Some.q
          c.in-Some.is none;
      ends = tt;
    }
