-- `query_faults::walk::fault_with` meets its contract. Assumes nothing.
use mathlib.Core.Path.{refl, ap, subst, ◌∙◌}
use native.Mathlib.Omega.{arith}
use Rattle.query_pieces.specs.Steps.{StepInside}
use Rattle.query_survey.specs.Survey.{verdict}
use Rattle.query_faults.proofs.WalkLaws.{walked_start, walked_end, walked_below, walked_less, walked_undeclared, walked_on}
use Rattle.query_faults.proofs.walk.fault_with.Goals as goal

pub loop-x-init : goal.loop-x-init
loop-x-init c =
    (rw (c.text_start-place.ensures, c.nothing_seen-survey.ensures) (walked_start _ _ _ _ _ _ c.requires.1 c.requires.2 c.requires.3), refl, refl, refl)

pub piece_passed-t-requires : goal.piece_passed-t-requires
piece_passed-t-requires c = (
  c.requires.0,
  record { vertex_names = c.loop-x.invariant.0.vertex_names; edge_names = c.loop-x.invariant.0.edge_names },
  c.loop-x.invariant.0.return_names,
  subst (StepInside c.args.s.now) c.in-Ok.is c.next_piece.ensures.inside,
)

pub shape_of-vertices-then-t : goal.shape_of-vertices-then-t
shape_of-vertices-then-t c =
    omega (arith, c.vertices-1.given, c.loop-x.invariant.1)

pub shape_of-edges-then-t : goal.shape_of-edges-then-t
shape_of-edges-then-t c =
    omega (arith, c.edges-1.given, c.loop-x.invariant.2)

pub shape_of-returned-then-t : goal.shape_of-returned-then-t
shape_of-returned-then-t c =
    omega (arith, c.returned-1.given, c.loop-x.invariant.3)

pub returns-then-t : goal.returns-then-t
returns-then-t c =
    c.fault_at_end.ensures ∙ ap (λ w. verdict w c.piece_passed-t.result.survey) c.is_whole_from.ensures
    ∙ walked_undeclared _ _ _ _ _ _ _ _ c.loop-x.invariant.0 _ c.next_piece.ensures _ c.in-Ok.is _ _ _ _
    c.piece_passed-t.ensures c.if-t.true

pub overflow_add-i : goal.overflow_add-i
overflow_add-i c =
    omega (arith, walked_below _ _ _ _ _ _ _ _ c.loop-x.invariant.0 _ c.next_piece.ensures _ c.in-Ok.is, c.well_formed)

pub loop-x-smaller : goal.loop-x-smaller
loop-x-smaller c =
    walked_less _ _ _ _ _ _ _ _ c.loop-x.invariant.0 _ c.next_piece.ensures _ c.in-Ok.is

pub loop-x-preserved : goal.loop-x-preserved
loop-x-preserved c = (
  walked_on _ _ _ _ _ _ _ _ c.loop-x.invariant.0 _ c.next_piece.ensures _ c.in-Ok.is _ _ _ _
      c.piece_passed-t.ensures,
  omega (arith, c.vertices-1.given, c.loop-x.invariant.1),
  omega
      (arith, c.edges-1.given, c.loop-x.invariant.2),
  omega (arith, c.returned-1.given, c.loop-x.invariant.3),
)

pub shape_of-vertices-in-Err : goal.shape_of-vertices-in-Err
shape_of-vertices-in-Err c = c.loop-x.invariant.1

pub shape_of-edges-in-Err : goal.shape_of-edges-in-Err
shape_of-edges-in-Err c = c.loop-x.invariant.2

pub shape_of-returned-in-Err : goal.shape_of-returned-in-Err
shape_of-returned-in-Err c = c.loop-x.invariant.3

pub returns-in-Err : goal.returns-in-Err
returns-in-Err c =
    c.fault_at_end-in-Err.ensures ∙ walked_end _ _ _ _ _ _ _ _ c.loop-x.invariant.0 _ c.next_piece.ensures _ c.in-Err.is
