use Rattle.model.specs.Places.{none, square, edge, bracket_of, variable_at}
use Rattle.model.specs.Signs.{is_mark}
use Rattle.model.specs.Bytes.{same}
use mathlib.Core.List.{◌∷◌, ◌++◌}
use Rattle.query_pieces.specs.Steps.{link_then, step_of, walk_at, spot_of, chain_at}
use Rattle.query_pieces.specs.Walk.{or_stopped, ahead, walk}
use Rattle.model.specs.Grammar.{in_chain}
use Rattle.query_pieces.proofs.PartLaws.{mark_read, mark_unread, mark_moves, name_read, name_unread, name_moves, vertex_read, vertex_unread}
use Rattle.query_pieces.proofs.PartLaws.{vertex_moves, mark_stands, name_stands, vertex_stands, step_stopped}
use Rattle.query_signs.specs.Marks.{mark_bytes}
use Rattle.query_signs.specs.Expected.{NameInside}
use Rattle.query_signs.specs.Reads.{signs_from, standings_from}
use native.Mathlib.Omega.{arith}
use mathlib.Core.Bool.{true, false}
use mathlib.Core.Path.{sym, ap, subst, ◌∙◌}
use Rattle.query_pieces.proofs.parts.link.Goals as goal

pub returns-in_default : goal.returns-in_default
unfolding link_then or_stopped mark_bytes
returns-in_default c =
    step_stopped (ap or_stopped (mark_unread true false c.args.s.now c.args.from 91 c.mark_next.result
    c.mark_next.ensures c.in_default.is _))

pub returns-in_default-name_next : goal.returns-in_default-name_next
unfolding link_then or_stopped mark_bytes
returns-in_default-name_next c =
    step_stopped (ap or_stopped (mark_read true false c.args.s.now c.args.from 91 c.mark_next.result
    c.mark_next.ensures c.in-Some.a c.in-Some.is _
    ∙ name_unread true false c.args.s.now c.in-Some.a c.name_next.result
    c.name_next.ensures c.in_default-name_next.is _))

pub returns-in_default-mark_next : goal.returns-in_default-mark_next
unfolding link_then or_stopped mark_bytes
returns-in_default-mark_next c =
    step_stopped (ap or_stopped (mark_read true false c.args.s.now c.args.from 91 c.mark_next.result
    c.mark_next.ensures c.in-Some.a c.in-Some.is _
    ∙ name_read true false c.args.s.now c.in-Some.a c.name_next.result c.name_next.ensures
    c.in-Some-name_next.edge c.in-Some-name_next.b c.in-Some-name_next.is _
    ∙ mark_unread true true c.args.s.now c.in-Some-name_next.b 58 c.mark_next-2.result
    c.mark_next-2.ensures c.in_default-mark_next.is _))

pub returns-in_default-name_next-2 : goal.returns-in_default-name_next-2
unfolding link_then or_stopped mark_bytes
returns-in_default-name_next-2 c =
    step_stopped (ap or_stopped (mark_read true false c.args.s.now c.args.from 91 c.mark_next.result
    c.mark_next.ensures c.in-Some.a c.in-Some.is _
    ∙ name_read true false c.args.s.now c.in-Some.a c.name_next.result c.name_next.ensures
    c.in-Some-name_next.edge c.in-Some-name_next.b c.in-Some-name_next.is _
    ∙ mark_read true true c.args.s.now c.in-Some-name_next.b 58 c.mark_next-2.result
    c.mark_next-2.ensures c.in-Some-mark_next.c c.in-Some-mark_next.is _
    ∙ name_unread true false c.args.s.now c.in-Some-mark_next.c c.name_next-2.result
    c.name_next-2.ensures c.in_default-name_next-2.is _))

pub returns-in_default-mark_next-2 : goal.returns-in_default-mark_next-2
unfolding link_then or_stopped mark_bytes
returns-in_default-mark_next-2 c =
    step_stopped (ap or_stopped (mark_read true false c.args.s.now c.args.from 91 c.mark_next.result
    c.mark_next.ensures c.in-Some.a c.in-Some.is _
    ∙ name_read true false c.args.s.now c.in-Some.a c.name_next.result c.name_next.ensures
    c.in-Some-name_next.edge c.in-Some-name_next.b c.in-Some-name_next.is _
    ∙ mark_read true true c.args.s.now c.in-Some-name_next.b 58 c.mark_next-2.result
    c.mark_next-2.ensures c.in-Some-mark_next.c c.in-Some-mark_next.is _
    ∙ name_read true false c.args.s.now c.in-Some-mark_next.c c.name_next-2.result c.name_next-2.ensures
    c.in-Some-name_next-2.label c.in-Some-name_next-2.d c.in-Some-name_next-2.is _
    ∙ mark_unread true true c.args.s.now c.in-Some-name_next-2.d 93 c.mark_next-3.result
    c.mark_next-3.ensures c.in_default-mark_next-2.is _))

pub mark_next-requires-4 : goal.mark_next-requires-4
mark_next-requires-4 c =
    c.requires

pub returns-in_default-mark_next-3 : goal.returns-in_default-mark_next-3
unfolding link_then or_stopped mark_bytes
returns-in_default-mark_next-3 c =
    step_stopped (ap or_stopped (mark_read true false c.args.s.now c.args.from 91 c.mark_next.result
    c.mark_next.ensures c.in-Some.a c.in-Some.is _
    ∙ name_read true false c.args.s.now c.in-Some.a c.name_next.result c.name_next.ensures
    c.in-Some-name_next.edge c.in-Some-name_next.b c.in-Some-name_next.is _
    ∙ mark_read true true c.args.s.now c.in-Some-name_next.b 58 c.mark_next-2.result
    c.mark_next-2.ensures c.in-Some-mark_next.c c.in-Some-mark_next.is _
    ∙ name_read true false c.args.s.now c.in-Some-mark_next.c c.name_next-2.result c.name_next-2.ensures
    c.in-Some-name_next-2.label c.in-Some-name_next-2.d c.in-Some-name_next-2.is _
    ∙ mark_read true true c.args.s.now c.in-Some-name_next-2.d 93 c.mark_next-3.result
    c.mark_next-3.ensures c.in-Some-mark_next-2.e c.in-Some-mark_next-2.is _
    ∙ mark_unread true false c.args.s.now c.in-Some-mark_next-2.e c.args.arrow c.mark_next-4.result
    c.mark_next-4.ensures c.in_default-mark_next-3.is _))

pub returns-in_default-vertex : goal.returns-in_default-vertex
unfolding link_then or_stopped mark_bytes
returns-in_default-vertex c =
    step_stopped (ap or_stopped (mark_read true false c.args.s.now c.args.from 91 c.mark_next.result
    c.mark_next.ensures c.in-Some.a c.in-Some.is _
    ∙ name_read true false c.args.s.now c.in-Some.a c.name_next.result c.name_next.ensures
    c.in-Some-name_next.edge c.in-Some-name_next.b c.in-Some-name_next.is _
    ∙ mark_read true true c.args.s.now c.in-Some-name_next.b 58 c.mark_next-2.result
    c.mark_next-2.ensures c.in-Some-mark_next.c c.in-Some-mark_next.is _
    ∙ name_read true false c.args.s.now c.in-Some-mark_next.c c.name_next-2.result c.name_next-2.ensures
    c.in-Some-name_next-2.label c.in-Some-name_next-2.d c.in-Some-name_next-2.is _
    ∙ mark_read true true c.args.s.now c.in-Some-name_next-2.d 93 c.mark_next-3.result
    c.mark_next-3.ensures c.in-Some-mark_next-2.e c.in-Some-mark_next-2.is _
    ∙ mark_read true false c.args.s.now c.in-Some-mark_next-2.e c.args.arrow c.mark_next-4.result
    c.mark_next-4.ensures c.in-Some-mark_next-3.f c.in-Some-mark_next-3.is _
    ∙ vertex_unread false c.args.s.now c.in-Some-mark_next-3.f c.vertex.result c.vertex.ensures
    c.in_default-vertex.is _))

pub returns : goal.returns
unfolding link_then step_of walk_at spot_of chain_at or_stopped mark_bytes bracket_of is_mark same variable_at
returns c =
    record {
      reads = ap or_stopped (mark_read true false c.args.s.now c.args.from 91 c.mark_next.result
          c.mark_next.ensures c.in-Some.a c.in-Some.is _
          ∙ name_read true false c.args.s.now c.in-Some.a c.name_next.result c.name_next.ensures
          c.in-Some-name_next.edge c.in-Some-name_next.b c.in-Some-name_next.is _
          ∙ mark_read true true c.args.s.now c.in-Some-name_next.b 58 c.mark_next-2.result
          c.mark_next-2.ensures c.in-Some-mark_next.c c.in-Some-mark_next.is _
          ∙ name_read true false c.args.s.now c.in-Some-mark_next.c c.name_next-2.result c.name_next-2.ensures
          c.in-Some-name_next-2.label c.in-Some-name_next-2.d c.in-Some-name_next-2.is _
          ∙ mark_read true true c.args.s.now c.in-Some-name_next-2.d 93 c.mark_next-3.result
          c.mark_next-3.ensures c.in-Some-mark_next-2.e c.in-Some-mark_next-2.is _
          ∙ mark_read true false c.args.s.now c.in-Some-mark_next-2.e c.args.arrow c.mark_next-4.result
          c.mark_next-4.ensures c.in-Some-mark_next-3.f c.in-Some-mark_next-3.is _
          ∙ vertex_read false c.args.s.now c.in-Some-mark_next-3.f c.vertex.result c.vertex.ensures
          c.in-Some-vertex.vertex c.in-Some-vertex.q c.in-Some-vertex.is _)
          ∙ ap (λ p. ahead p (walk in_chain 0 (signs_from true false c.args.s.now c.in-Some-vertex.q)))
          (c.linked.ensures.reads c.args.s.now);
      moves = omega (
        arith,
        mark_moves true false c.args.s.now c.args.from 91 c.mark_next.result c.mark_next.ensures
            c.in-Some.a c.in-Some.is,
        name_moves true false c.args.s.now c.in-Some.a c.name_next.result
            c.name_next.ensures c.in-Some-name_next.edge c.in-Some-name_next.b c.in-Some-name_next.is,
        mark_moves true true
            c.args.s.now c.in-Some-name_next.b 58 c.mark_next-2.result c.mark_next-2.ensures
            c.in-Some-mark_next.c c.in-Some-mark_next.is,
        name_moves true false c.args.s.now c.in-Some-mark_next.c
            c.name_next-2.result c.name_next-2.ensures c.in-Some-name_next-2.label c.in-Some-name_next-2.d
            c.in-Some-name_next-2.is,
        mark_moves true true c.args.s.now c.in-Some-name_next-2.d 93 c.mark_next-3.result
            c.mark_next-3.ensures c.in-Some-mark_next-2.e c.in-Some-mark_next-2.is,
        mark_moves true false c.args.s.now
            c.in-Some-mark_next-2.e c.args.arrow c.mark_next-4.result c.mark_next-4.ensures c.in-Some-mark_next-3.f
            c.in-Some-mark_next-3.is,
        vertex_moves false c.args.s.now c.in-Some-mark_next-3.f c.vertex.result c.vertex.ensures
            c.in-Some-vertex.vertex c.in-Some-vertex.q c.in-Some-vertex.is,
      );
      inside = c.linked.ensures.inside c.args.s.now (record {
        edge = subst (NameInside c.args.s.now) c.in-Some-name_next.is c.name_next.ensures.inside;
        label = subst (NameInside c.args.s.now) c.in-Some-name_next-2.is c.name_next-2.ensures.inside;
        vertex = subst (NameInside c.args.s.now) c.in-Some-vertex.is c.vertex.ensures.inside;
      });
      stands = mark_stands true false
          c.args.s.now c.args.from 91 c.mark_next.result c.mark_next.ensures c.in-Some.a
          c.in-Some.is none ∙ name_stands true false c.args.s.now c.in-Some.a c.name_next.result
          c.name_next.ensures c.in-Some-name_next.edge c.in-Some-name_next.b c.in-Some-name_next.is square
          ∙ ap (λ l. edge c.in-Some-name_next.edge ∷ l)
          (mark_stands true true c.args.s.now c.in-Some-name_next.b 58 c.mark_next-2.result
          c.mark_next-2.ensures c.in-Some-mark_next.c c.in-Some-mark_next.is none
          ∙ name_stands true false c.args.s.now c.in-Some-mark_next.c c.name_next-2.result c.name_next-2.ensures
          c.in-Some-name_next-2.label c.in-Some-name_next-2.d c.in-Some-name_next-2.is none
          ∙ mark_stands true true c.args.s.now c.in-Some-name_next-2.d 93 c.mark_next-3.result
          c.mark_next-3.ensures c.in-Some-mark_next-2.e c.in-Some-mark_next-2.is none
          ∙ mark_stands true false c.args.s.now c.in-Some-mark_next-2.e c.args.arrow c.mark_next-4.result
          c.mark_next-4.ensures c.in-Some-mark_next-3.f c.in-Some-mark_next-3.is none
          ∙ vertex_stands false c.args.s.now c.in-Some-mark_next-3.f c.vertex.result c.vertex.ensures
          c.in-Some-vertex.vertex c.in-Some-vertex.q c.in-Some-vertex.is _)
          ∙ ap (λ l. l ++ standings_from none true false c.args.s.now c.in-Some-vertex.q) (sym c.linked.ensures.stands);
      ends = tt;
    }
