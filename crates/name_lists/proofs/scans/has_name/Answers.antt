-- `name_lists::scans::has_name` meets its contract. Assumes nothing.
use mathlib.Core.Path.{sym, ◌∙◌}
use native.Mathlib.Omega.{arith}
use Rattle.model.specs.Names.{mem}
use Rattle.name_lists.proofs.Heads.{placed_at, mem_found, mem_other, mem_none}
use Rattle.name_lists.proofs.Behind.{left_start, left_next, left_found, left_done, left_over}
use Rattle.name_lists.proofs.scans.has_name.Goals as goal

pub loop-i-init : goal.loop-i-init
loop-i-init c =
    let a = c.args in
    left_start (mem a.name.now) a.s.now a.from

pub returns-in_default : goal.returns-in_default
returns-in_default c =
    let a = c.args in
    λ x e. sym (mem_none a.name.now)
    ∙ left_done (mem a.name.now) (mem a.name.now) a.s.now a.from c.loop-i.i
    c.loop-i.invariant (sym c.in_default.is ∙ c.next_name.ensures.is) x e

pub part_of-requires : goal.part_of-requires
part_of-requires c =
    let a = c.args in
    (placed_at a.s.now c.loop-i.i _ c.in-Some.is c.next_name.ensures.placed).inside

pub returns-then-same_bytes : goal.returns-then-same_bytes
returns-then-same_bytes c =
    let a = c.args in
    left_found (mem a.name.now) (mem a.name.now) a.s.now a.from c.loop-i.i _ _
    c.loop-i.invariant (sym c.in-Some.is ∙ c.next_name.ensures.is)
    (λ y e. mem_found a.name.now _ y.names (sym (rw c.part_of.ensures at c.same_bytes.ensures) ∙ c.if-same_bytes.true))

pub overflow_add-i : goal.overflow_add-i
overflow_add-i c =
    let a = c.args in
    omega (arith, c.well_formed, (placed_at a.s.now c.loop-i.i _ c.in-Some.is c.next_name.ensures.placed).inside)

pub loop-i-smaller : goal.loop-i-smaller
loop-i-smaller c =
    let a = c.args in
    let h = placed_at a.s.now c.loop-i.i _ c.in-Some.is c.next_name.ensures.placed in
    omega (arith, h.after, h.some)

pub loop-i-preserved : goal.loop-i-preserved
loop-i-preserved c =
    let a = c.args in
    left_next (mem a.name.now) (mem a.name.now) a.s.now a.from c.loop-i.i
    (mem a.name.now) _ c.loop-i.invariant (sym c.in-Some.is ∙ c.next_name.ensures.is)
    (λ y e. mem_other a.name.now _ y.names (sym (rw c.part_of.ensures at c.same_bytes.ensures) ∙ c.if-same_bytes.false))

pub returns : goal.returns
returns c =
    let a = c.args in
    λ x e. left_over (mem a.name.now) (mem a.name.now) a.s.now a.from c.loop-i.i c.loop-i.invariant c.loop-i-test.false x e
