use Rattle.model.specs.Places.{none, bracket_of, variable_at}
use Rattle.model.specs.Signs.{is_mark}
use Rattle.model.specs.Bytes.{same}
use Rattle.query_pieces.specs.Steps.{value_then}
use Rattle.query_pieces.proofs.PartLaws.{mark_read, mark_unread, mark_moves, name_read, name_unread, name_moves, relation_read}
use Rattle.query_pieces.proofs.PartLaws.{relation_unread, relation_moves, value_read, value_unread, value_moves, mark_stands, name_stands}
use Rattle.query_pieces.proofs.PartLaws.{relation_stands, value_stands, step_stopped}
use Rattle.query_signs.specs.Marks.{mark_bytes}
use Rattle.query_signs.specs.Expected.{NameInside, ValueInside}
use Rattle.query_pieces.specs.Steps.{step_of, walk_at, piece_of, spot_of, chain_at, piece_standing}
use Rattle.query_pieces.specs.Walk.{or_stopped}
use native.Mathlib.Omega.{arith}
use mathlib.Core.Bool.{true, false}
use mathlib.Core.Path.{ap, subst, ◌∙◌}
use Rattle.query_pieces.proofs.parts.demand.Goals as goal

pub returns-in_default : goal.returns-in_default
unfolding or_stopped value_then mark_bytes
returns-in_default c =
    step_stopped (ap or_stopped (mark_unread false true c.args.s.now c.args.from 46 c.mark_next.result
    c.mark_next.ensures c.in_default.is _))

pub returns-in_default-name_next : goal.returns-in_default-name_next
unfolding or_stopped value_then mark_bytes
returns-in_default-name_next c =
    step_stopped (ap or_stopped (mark_read false true c.args.s.now c.args.from 46 c.mark_next.result
    c.mark_next.ensures c.in-Some.a c.in-Some.is _
    ∙ name_unread false false c.args.s.now c.in-Some.a c.name_next.result
    c.name_next.ensures c.in_default-name_next.is _))

pub returns-in_default-relation_next : goal.returns-in_default-relation_next
unfolding or_stopped value_then mark_bytes
returns-in_default-relation_next c =
    step_stopped (ap or_stopped (mark_read false true c.args.s.now c.args.from 46 c.mark_next.result
    c.mark_next.ensures c.in-Some.a c.in-Some.is _
    ∙ name_read false false c.args.s.now c.in-Some.a c.name_next.result c.name_next.ensures
    c.in-Some-name_next.attribute c.in-Some-name_next.b c.in-Some-name_next.is _
    ∙ relation_unread true c.args.s.now c.in-Some-name_next.b c.relation_next.result
    c.relation_next.ensures c.in_default-relation_next.is _))

pub returns-in_default-value_next : goal.returns-in_default-value_next
unfolding or_stopped value_then mark_bytes
returns-in_default-value_next c =
    step_stopped (ap or_stopped (mark_read false true c.args.s.now c.args.from 46 c.mark_next.result
    c.mark_next.ensures c.in-Some.a c.in-Some.is _
    ∙ name_read false false c.args.s.now c.in-Some.a c.name_next.result c.name_next.ensures
    c.in-Some-name_next.attribute c.in-Some-name_next.b c.in-Some-name_next.is _
    ∙ relation_read true c.args.s.now c.in-Some-name_next.b c.relation_next.result
    c.relation_next.ensures c.in-Some-relation_next.relation c.in-Some-relation_next.c
    c.in-Some-relation_next.is _ ∙ value_unread false c.args.s.now c.in-Some-relation_next.c
    c.value_next.result c.value_next.ensures c.in_default-value_next.is _))

pub returns : goal.returns
unfolding step_of walk_at piece_of spot_of chain_at or_stopped value_then mark_bytes piece_standing bracket_of is_mark same variable_at
returns c =
    record {
      reads = ap or_stopped (mark_read false true c.args.s.now c.args.from 46 c.mark_next.result
          c.mark_next.ensures c.in-Some.a c.in-Some.is _
          ∙ name_read false false c.args.s.now c.in-Some.a c.name_next.result c.name_next.ensures
          c.in-Some-name_next.attribute c.in-Some-name_next.b c.in-Some-name_next.is _
          ∙ relation_read true c.args.s.now c.in-Some-name_next.b c.relation_next.result
          c.relation_next.ensures c.in-Some-relation_next.relation c.in-Some-relation_next.c
          c.in-Some-relation_next.is _ ∙ value_read false c.args.s.now c.in-Some-relation_next.c
          c.value_next.result c.value_next.ensures c.in-Some-value_next.value c.in-Some-value_next.q
          c.in-Some-value_next.close c.in-Some-value_next.is _);
      moves = omega (
        arith,
        mark_moves false true c.args.s.now c.args.from 46 c.mark_next.result c.mark_next.ensures
            c.in-Some.a c.in-Some.is,
        name_moves false false c.args.s.now c.in-Some.a c.name_next.result
            c.name_next.ensures c.in-Some-name_next.attribute c.in-Some-name_next.b
            c.in-Some-name_next.is,
        relation_moves true c.args.s.now c.in-Some-name_next.b
            c.relation_next.result c.relation_next.ensures c.in-Some-relation_next.relation
            c.in-Some-relation_next.c c.in-Some-relation_next.is,
        value_moves false c.args.s.now
            c.in-Some-relation_next.c c.value_next.result c.value_next.ensures c.in-Some-value_next.value
            c.in-Some-value_next.q c.in-Some-value_next.close c.in-Some-value_next.is,
      );
      inside = record {
        subject = c.requires;
        attribute = subst (NameInside c.args.s.now) c.in-Some-name_next.is c.name_next.ensures.inside;
        value = subst (ValueInside c.args.s.now) c.in-Some-value_next.is c.value_next.ensures.inside;
      };
      stands = mark_stands false true
          c.args.s.now c.args.from 46 c.mark_next.result c.mark_next.ensures c.in-Some.a
          c.in-Some.is none ∙ name_stands false false c.args.s.now c.in-Some.a c.name_next.result
          c.name_next.ensures c.in-Some-name_next.attribute c.in-Some-name_next.b
          c.in-Some-name_next.is none
          ∙ relation_stands true c.args.s.now c.in-Some-name_next.b c.relation_next.result
          c.relation_next.ensures c.in-Some-relation_next.relation c.in-Some-relation_next.c
          c.in-Some-relation_next.is none ∙ value_stands false c.args.s.now c.in-Some-relation_next.c
          c.value_next.result c.value_next.ensures c.in-Some-value_next.value c.in-Some-value_next.q
          c.in-Some-value_next.close c.in-Some-value_next.is;
      ends = tt;
    }
