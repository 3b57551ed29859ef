-- `name_lists::scans::has_again` meets its contract. Assumes nothing.
use mathlib.Core.Path.{sym, ◌∙◌}
use native.Mathlib.Omega.{arith}
use Rattle.model.specs.Names.{twice}
use Rattle.name_lists.proofs.Heads.{placed_at, twice_found, twice_other, twice_none}
use Rattle.name_lists.proofs.Behind.{left_start, left_next, left_found, left_done, left_over}
use Rattle.name_lists.proofs.scans.has_again.Goals as goal

pub loop-i-init : goal.loop-i-init
loop-i-init c =
    let a = c.args in
    left_start twice a.s.now a.from

pub returns-in_default : goal.returns-in_default
returns-in_default c =
    let a = c.args in
    λ x e. sym twice_none ∙ left_done twice twice a.s.now a.from c.loop-i.i c.loop-i.invariant
    (sym c.in_default.is ∙ c.next_name.ensures.is) x e

pub overflow_add-end : goal.overflow_add-end
overflow_add-end c =
    let a = c.args in
    omega (
      arith,
      c.well_formed,
      (placed_at a.s.now c.loop-i.i _ c.in-Some.is
          c.next_name.ensures.placed).inside,
    )

pub part_of-requires : goal.part_of-requires
part_of-requires c =
    let a = c.args in
    (placed_at a.s.now c.loop-i.i _ c.in-Some.is c.next_name.ensures.placed).inside

pub returns-then-has_name : goal.returns-then-has_name
returns-then-has_name c =
    let a = c.args in
    left_found twice twice a.s.now a.from c.loop-i.i _ _ c.loop-i.invariant
    (sym c.in-Some.is ∙ c.next_name.ensures.is)
    (λ y e. twice_found _ y.names (sym (rw c.part_of.ensures at (c.has_name.ensures y e)) ∙ c.if-has_name.true))

pub loop-i-smaller : goal.loop-i-smaller
loop-i-smaller c =
    let a = c.args in
    let h = placed_at a.s.now c.loop-i.i _ c.in-Some.is c.next_name.ensures.placed in
    omega (arith, h.after, h.some)

pub loop-i-preserved : goal.loop-i-preserved
loop-i-preserved c =
    let a = c.args in
    left_next twice twice a.s.now a.from c.loop-i.i twice _ c.loop-i.invariant
    (sym c.in-Some.is ∙ c.next_name.ensures.is)
    (λ y e. twice_other _ y.names (sym (rw c.part_of.ensures at (c.has_name.ensures y e)) ∙ c.if-has_name.false))

pub returns : goal.returns
returns c =
    let a = c.args in
    λ x e. left_over twice twice a.s.now a.from c.loop-i.i c.loop-i.invariant c.loop-i-test.false x e
