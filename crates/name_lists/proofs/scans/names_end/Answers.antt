-- `name_lists::scans::names_end` meets its contract.
use mathlib.Core.Bool.{false}
use mathlib.Core.Path.{refl, sym, ◌∙◌}
use native.Mathlib.Omega.{arith}
use Rattle.item_forms.proofs.EndLaws.{ends_shut}
use Rattle.name_lists.proofs.Heads.{placed_at}
use Rattle.name_lists.proofs.Behind.{end_step, end_over, names_nowhere, names_shut, names_past}
use Rattle.name_lists.proofs.scans.names_end.Goals as goal

pub returns-in_err-end : goal.returns-in_err-end
returns-in_err-end c =
    let a = c.args in
    c.from_residual.ensures ∙ names_nowhere a.s.now a.from c.in_err-end.ensures

pub loop-i-init : goal.loop-i-init
loop-i-init c = refl

pub only_closes-requires : goal.only_closes-requires
only_closes-requires c =
    let a = c.args in
    (ends_shut 2 false a.s.now a.from c.in_ok-end.end c.in_ok-end.ensures).0

pub returns-then-only_closes : goal.returns-then-only_closes
returns-then-only_closes c =
    let a = c.args in
    names_shut a.s.now a.from c.in_ok-end.end c.in_ok-end.ensures
    c.loop-i.i (sym c.in_default.is ∙ c.next_name.ensures.is) c.loop-i.invariant
    (sym c.if-only_closes.true ∙ c.only_closes.ensures)

pub returns-in_default : goal.returns-in_default
returns-in_default c =
    let a = c.args in
    names_past a.s.now a.from c.in_ok-end.end c.in_ok-end.ensures
    c.loop-i.i (sym c.in_default.is ∙ c.next_name.ensures.is) c.loop-i.invariant
    (sym c.if-only_closes.false ∙ c.only_closes.ensures)

pub overflow_add-i : goal.overflow_add-i
overflow_add-i c =
    let a = c.args in
    omega (
      arith,
      c.well_formed,
      (placed_at a.s.now c.loop-i.i _ c.in-Some.is
          c.next_name.ensures.placed).inside,
    )

pub loop-i-smaller : goal.loop-i-smaller
loop-i-smaller c =
    let a = c.args in
    let h = placed_at a.s.now c.loop-i.i _ c.in-Some.is c.next_name.ensures.placed in
    omega (arith, h.after, h.some)

pub loop-i-preserved : goal.loop-i-preserved
loop-i-preserved c =
    let a = c.args in
    end_step a.s.now c.loop-i.i (sym c.in-Some.is ∙ c.next_name.ensures.is) ∙ c.loop-i.invariant

pub returns : goal.returns
returns c =
    let a = c.args in
    end_over a.s.now c.loop-i.i c.loop-i-test.false ∙ c.loop-i.invariant
