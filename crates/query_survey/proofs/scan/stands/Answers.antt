use Rattle.query_survey.proofs.ScanLaws.{step_list, step_none, stands_on, stands_here, stands_none, stands_end}
use Rattle.query_survey.specs.Names.{names_in, found_at}
use Rattle.query_pieces.specs.Steps.{piece_of, StepInside}
use Rattle.model.specs.Answers.{name_at}
use Rattle.model.specs.Names.{mem}
use lib.ListN.{take}
use native.Mathlib.Omega.{arith}
use Prim.Native.Nat.{◌-◌}
use mathlib.Core.Path.{◌≡◌, sym, ap, subst, ◌∙◌}
use Rattle.query_survey.proofs.scan.stands.Goals as goal

pub loop-i-init : goal.loop-i-init
loop-i-init c = let d : c.args.count - 0 ≡ c.args.count = omega arith in (
  omega arith,
  ap (λ n. mem (name_at c.args.s.now c.args.name)
      (names_in c.args.which (take n (found_at c.args.s.now c.args.from)))) d,
)

pub returns-in_default : goal.returns-in_default
returns-in_default c =
    sym (stands_none (name_at c.args.s.now c.args.name) c.args.which (c.args.count - c.loop-i.i)
    (found_at c.args.s.now c.loop-i.place)
    (step_none c.args.s.now c.loop-i.place c.next_piece.result c.next_piece.ensures
    c.in_default.field-0 c.in_default.is)) ∙ c.loop-i.invariant.1

pub has_name-requires : goal.has_name-requires
has_name-requires c =
    (subst (StepInside c.args.s.now) c.in-Ok.is c.next_piece.ensures.inside, c.requires)

pub returns-then-has_name : goal.returns-then-has_name
returns-then-has_name c =
    sym (stands_here (name_at c.args.s.now c.args.name) c.args.which c.args.count c.loop-i.i
    c.loop-i-test.true (piece_of c.args.s.now c.in-Ok.x.piece)
    (found_at c.args.s.now c.loop-i.place) (found_at c.args.s.now c.in-Ok.x.next)
    (step_list c.args.s.now c.loop-i.place c.next_piece.result c.next_piece.ensures
    c.in-Ok.x c.in-Ok.is) (sym c.has_name.ensures ∙ c.if-has_name.true)) ∙ c.loop-i.invariant.1

pub loop-i-preserved : goal.loop-i-preserved
loop-i-preserved c = (
  omega arith,
  sym (stands_on (name_at c.args.s.now c.args.name) c.args.which c.args.count c.loop-i.i
      c.loop-i-test.true (piece_of c.args.s.now c.in-Ok.x.piece)
      (found_at c.args.s.now c.loop-i.place) (found_at c.args.s.now c.in-Ok.x.next)
      (step_list c.args.s.now c.loop-i.place c.next_piece.result c.next_piece.ensures
      c.in-Ok.x c.in-Ok.is) (sym c.has_name.ensures ∙ c.if-has_name.false)) ∙ c.loop-i.invariant.1,
)

pub returns : goal.returns
returns c =
    sym (stands_end (name_at c.args.s.now c.args.name) c.args.which c.args.count c.loop-i.i
    (found_at c.args.s.now c.loop-i.place) c.loop-i-test.false) ∙ c.loop-i.invariant.1
