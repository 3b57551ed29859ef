-- `name_lists::scans::has_twice_with` meets its contract. The loop's invariant: the table has the names before the place. Assumes nothing.
use mathlib.Core.Path.{refl, sym, ◌∙◌}
use native.Mathlib.Omega.{arith}
use Rattle.name_lists.proofs.Heads.{placed_at}
use Rattle.name_lists.proofs.Behind.{left_over}
use Rattle.name_lists.proofs.Again.{met_start, met_done, met_again, met_more}
use Rattle.name_lists.proofs.scans.has_twice_with.Goals as goal

pub loop-i-init : goal.loop-i-init
loop-i-init c =
    let a = c.args in
    (met_start a.s.now _ a.from _ c.requires, refl)

pub shape_of-table-in_default : goal.shape_of-table-in_default
shape_of-table-in_default c =
    c.loop-i.invariant.1

pub returns-in_default : goal.returns-in_default
returns-in_default c =
    let a = c.args in
    met_done a.s.now c.loop-i.table a.from c.loop-i.n c.loop-i.i c.loop-i.invariant.0
    (sym c.in_default.is ∙ c.next_name.ensures.is)

pub shape_of-table-then-table-n : goal.shape_of-table-then-table-n
shape_of-table-then-table-n c =
    c.loop-i.invariant.1

pub returns-then-table-n : goal.returns-then-table-n
returns-then-table-n c = c.has_again.ensures

pub part_of-requires : goal.part_of-requires
part_of-requires c =
    let a = c.args in
    (placed_at a.s.now c.loop-i.i _ c.in-Some.is c.next_name.ensures.placed).inside

pub is_listed-requires : goal.is_listed-requires
is_listed-requires c =
    (c.loop-i.invariant.0.held.lists c.if-table-n.false).has

pub shape_of-table-then-is_listed : goal.shape_of-table-then-is_listed
shape_of-table-then-is_listed c =
    c.loop-i.invariant.1

pub returns-then-is_listed : goal.returns-then-is_listed
returns-then-is_listed c =
    let a = c.args in
    met_again a.s.now c.loop-i.table a.from c.loop-i.n c.loop-i.i c.loop-i.invariant.0 _
    (sym c.in-Some.is ∙ c.next_name.ensures.is)
    c.if-table-n.false _ (rw c.part_of.ensures at c.is_listed.ensures) c.if-is_listed.true

pub overflow_add-i : goal.overflow_add-i
overflow_add-i c =
    let a = c.args in
    omega (arith, c.well_formed, (placed_at a.s.now c.loop-i.i _ c.in-Some.is c.next_name.ensures.placed).inside)

pub loop-i-smaller : goal.loop-i-smaller
loop-i-smaller c =
    let a = c.args in
    let h = placed_at a.s.now c.loop-i.i _ c.in-Some.is c.next_name.ensures.placed in
    omega (arith, h.after, h.some)

pub loop-i-preserved : goal.loop-i-preserved
loop-i-preserved c =
    let a = c.args in (
      met_more a.s.now c.loop-i.table a.from c.loop-i.n c.loop-i.i c.loop-i.invariant.0 _
          (sym c.in-Some.is ∙ c.next_name.ensures.is)
          c.if-table-n.false _ (rw c.part_of.ensures at c.is_listed.ensures) c.if-is_listed.false _ _
          c.with_name-n.ensures,
      c.table-1.given ∙ c.loop-i.invariant.1,
    )

pub shape_of-table : goal.shape_of-table
shape_of-table c = c.loop-i.invariant.1

pub returns : goal.returns
returns c =
    let a = c.args in
    λ x e. left_over _ _ a.s.now a.from c.loop-i.i c.loop-i.invariant.0.left c.loop-i-test.false x e
