use Rattle.model.specs.Places.{none, round, vertex, bracket_of, variable_at}
use Rattle.model.specs.Signs.{is_mark}
use Rattle.model.specs.Bytes.{same}
use mathlib.Core.List.{◌∷◌}
use Rattle.query_pieces.specs.Steps.{vertex_then, on_vertex}
use Rattle.query_pieces.proofs.PartLaws.{mark_read, mark_unread, mark_moves, name_read, name_unread, name_moves, mark_stands, name_stands, vertex_missed}
use Rattle.query_signs.specs.Marks.{mark_bytes}
use Rattle.query_signs.specs.Expected.{NameInside}
use native.Mathlib.Omega.{arith}
use mathlib.Core.Bool.{true, false}
use mathlib.Core.Path.{ap, subst, ◌∙◌}
use Rattle.query_pieces.proofs.parts.vertex.Goals as goal

pub returns-in_err-a : goal.returns-in_err-a
unfolding vertex_then on_vertex mark_bytes
returns-in_err-a c =
    rw c.from_residual.ensures
    (vertex_missed (λ f. mark_unread true c.args.close c.args.s.now c.args.from 40 c.mark_next.result
    c.mark_next.ensures c.in_err-a.was _))

pub returns-in_err-v : goal.returns-in_err-v
unfolding vertex_then on_vertex mark_bytes
returns-in_err-v c =
    rw c.from_residual-in_err-v.ensures
    (vertex_missed (λ f. mark_read true c.args.close c.args.s.now c.args.from 40 c.mark_next.result
    c.mark_next.ensures c.in_ok-a.a c.in_ok-a.was _
    ∙ name_unread true false c.args.s.now c.in_ok-a.a c.name_next.result
    c.name_next.ensures c.in_err-v.was _))

pub returns-in_err-q : goal.returns-in_err-q
unfolding vertex_then on_vertex mark_bytes
returns-in_err-q c =
    rw c.from_residual-in_err-q.ensures
    (vertex_missed (λ f. mark_read true c.args.close c.args.s.now c.args.from 40 c.mark_next.result
    c.mark_next.ensures c.in_ok-a.a c.in_ok-a.was _
    ∙ name_read true false c.args.s.now c.in_ok-a.a c.name_next.result c.name_next.ensures
    c.in_ok-v.v c.in_ok-v.b c.in_ok-v.was _
    ∙ mark_unread true true c.args.s.now c.in_ok-v.b 41 c.mark_next-2.result
    c.mark_next-2.ensures c.in_err-q.was _))

pub returns : goal.returns
unfolding vertex_then on_vertex mark_bytes bracket_of is_mark same variable_at
returns c =
    record {
      reads = λ f. mark_read true c.args.close c.args.s.now c.args.from 40 c.mark_next.result
          c.mark_next.ensures c.in_ok-a.a c.in_ok-a.was _
          ∙ name_read true false c.args.s.now c.in_ok-a.a c.name_next.result c.name_next.ensures
          c.in_ok-v.v c.in_ok-v.b c.in_ok-v.was _
          ∙ mark_read true true c.args.s.now c.in_ok-v.b 41 c.mark_next-2.result c.mark_next-2.ensures
          c.in_ok-q.q c.in_ok-q.was _;
      moves = omega (
        arith,
        mark_moves true c.args.close c.args.s.now c.args.from 40 c.mark_next.result
            c.mark_next.ensures c.in_ok-a.a c.in_ok-a.was,
        name_moves true false c.args.s.now c.in_ok-a.a
            c.name_next.result c.name_next.ensures c.in_ok-v.v c.in_ok-v.b
            c.in_ok-v.was,
        mark_moves true true c.args.s.now c.in_ok-v.b 41 c.mark_next-2.result
            c.mark_next-2.ensures c.in_ok-q.q c.in_ok-q.was,
      );
      inside = subst (NameInside c.args.s.now) c.in_ok-v.was c.name_next.ensures.inside;
      stands = λ o. mark_stands true c.args.close
          c.args.s.now c.args.from 40 c.mark_next.result c.mark_next.ensures c.in_ok-a.a
          c.in_ok-a.was o ∙ name_stands true false c.args.s.now c.in_ok-a.a c.name_next.result
          c.name_next.ensures c.in_ok-v.v c.in_ok-v.b c.in_ok-v.was round
          ∙ ap (λ l. vertex c.in_ok-v.v ∷ l)
          (mark_stands true true c.args.s.now c.in_ok-v.b 41 c.mark_next-2.result
          c.mark_next-2.ensures c.in_ok-q.q c.in_ok-q.was none);
    }
