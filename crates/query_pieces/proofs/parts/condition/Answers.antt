use Rattle.model.specs.Places.{none, bracket_of, variable_at}
use Rattle.model.specs.Signs.{is_mark}
use Rattle.model.specs.Bytes.{same}
use Rattle.query_signs.specs.Marks.{mark_bytes}
use Rattle.query_signs.specs.Expected.{NameInside}
use Rattle.query_pieces.proofs.StepLaws.{condition_by}
use Rattle.query_pieces.proofs.PartLaws.{name_read, name_unread, name_moves, mark_moves, rest_differs, rest_asks, step_farther, name_stands}
use Rattle.query_pieces.proofs.PartLaws.{mark_stands, step_stands, step_stopped}
use Rattle.query_pieces.specs.Steps.{asked}
use Rattle.query_pieces.specs.Walk.{or_stopped}
use Rattle.query_signs.specs.Reads.{signs_from}
use Rattle.model.specs.Answers.{name_at}
use native.Mathlib.Omega.{arith}
use mathlib.Core.Bool.{true, false}
use mathlib.Core.Path.{ap, subst, ◌∙◌}
use Rattle.query_pieces.proofs.parts.condition.Goals as goal

pub returns-in_default : goal.returns-in_default
unfolding or_stopped
returns-in_default c =
    step_stopped (condition_by (signs_from false true c.args.s.now c.args.from)
    ∙ ap or_stopped (name_unread false true c.args.s.now c.args.from c.name_next.result
    c.name_next.ensures c.in_default.is _))

pub differ-requires : goal.differ-requires
differ-requires c =
    subst (NameInside c.args.s.now) c.in-Some.is c.name_next.ensures.inside

pub demand-requires : goal.demand-requires
demand-requires c =
    subst (NameInside c.args.s.now) c.in-Some.is c.name_next.ensures.inside

pub returns-in-Some-mark_next : goal.returns-in-Some-mark_next
unfolding bracket_of is_mark same mark_bytes variable_at
returns-in-Some-mark_next c =
    record {
      reads = condition_by (signs_from false true c.args.s.now c.args.from)
          ∙ ap or_stopped (name_read false true c.args.s.now c.args.from c.name_next.result
          c.name_next.ensures c.in-Some.x c.in-Some.a c.in-Some.is _
          ∙ rest_differs c.args.s.now c.in-Some.a c.mark_next.result c.mark_next.ensures
          (name_at c.args.s.now c.in-Some.x) asked c.in-Some-mark_next.b c.in-Some-mark_next.is) ∙ c.differ.ensures.reads;
      moves = step_farther c.args.from c.in-Some-mark_next.b c.differ.result
          (omega (
            arith,
            name_moves false true c.args.s.now c.args.from c.name_next.result
                c.name_next.ensures c.in-Some.x c.in-Some.a c.in-Some.is,
            mark_moves false true
                c.args.s.now c.in-Some.a 15422 c.mark_next.result c.mark_next.ensures
                c.in-Some-mark_next.b c.in-Some-mark_next.is,
          )) c.differ.ensures.moves;
      inside = c.differ.ensures.inside;
      stands = step_stands c.args.s.now c.differ.result
          (name_stands false true c.args.s.now c.args.from c.name_next.result c.name_next.ensures
          c.in-Some.x c.in-Some.a c.in-Some.is none
          ∙ mark_stands false true c.args.s.now c.in-Some.a 15422 c.mark_next.result
          c.mark_next.ensures c.in-Some-mark_next.b c.in-Some-mark_next.is none) c.differ.ensures.stands;
      ends = c.differ.ensures.ends;
    }

pub returns-in-None : goal.returns-in-None
unfolding bracket_of is_mark same mark_bytes variable_at
returns-in-None c =
    record {
      reads = condition_by (signs_from false true c.args.s.now c.args.from)
          ∙ ap or_stopped (name_read false true c.args.s.now c.args.from c.name_next.result
          c.name_next.ensures c.in-Some.x c.in-Some.a c.in-Some.is _
          ∙ rest_asks c.args.s.now c.in-Some.a c.mark_next.result
          c.mark_next.ensures (name_at c.args.s.now c.in-Some.x) asked c.in-None.is)
          ∙ c.demand.ensures.reads;
      moves = step_farther c.args.from c.in-Some.a c.demand.result
          (name_moves false true c.args.s.now c.args.from c.name_next.result c.name_next.ensures
          c.in-Some.x c.in-Some.a c.in-Some.is) c.demand.ensures.moves;
      inside = c.demand.ensures.inside;
      stands = step_stands c.args.s.now c.demand.result
          (name_stands false true c.args.s.now c.args.from c.name_next.result c.name_next.ensures
          c.in-Some.x c.in-Some.a c.in-Some.is none) c.demand.ensures.stands;
      ends = c.demand.ensures.ends;
    }
