-- `name_lists::scans::count_names` meets its contract. Assumes nothing.
use Prim.Native.Nat.{◌+◌}
use mathlib.Core.List.{List}
use mathlib.Core.Path.{sym, ◌∙◌}
use native.Mathlib.Omega.{arith}
use lib.ListN.{length}
use Rattle.model.specs.Bytes.{Bytes}
use Rattle.name_lists.proofs.Heads.{placed_at}
use Rattle.name_lists.proofs.Behind.{left_next, left_done, left_over}
use Rattle.name_lists.proofs.scans.count_names.Goals as goal

pub loop-i-init : goal.loop-i-init
loop-i-init c = (omega arith, λ x e. (x, e, omega arith))

pub returns-in_default : goal.returns-in_default
returns-in_default c =
    let a = c.args in
    λ x e. let z = left_done length (λ (ns : List Bytes). c.loop-i.n + length ns) a.s.now a.from c.loop-i.i
    c.loop-i.invariant.1 (sym c.in_default.is ∙ c.next_name.ensures.is) x e in omega arith

pub overflow_add-n : goal.overflow_add-n
overflow_add-n c =
    omega (arith, c.loop-i.invariant.0)

pub overflow_add-i : goal.overflow_add-i
overflow_add-i c =
    let a = c.args in
    omega (
      arith,
      c.well_formed,
      (placed_at a.s.now c.loop-i.i _ c.in-Some.is
          c.next_name.ensures.placed).inside,
    )

pub loop-i-smaller : goal.loop-i-smaller
loop-i-smaller c =
    let a = c.args in
    let h = placed_at a.s.now c.loop-i.i _ c.in-Some.is c.next_name.ensures.placed in
    omega (arith, h.after, h.some)

pub loop-i-preserved : goal.loop-i-preserved
loop-i-preserved c =
    let a = c.args in
    let h = placed_at a.s.now c.loop-i.i _ c.in-Some.is c.next_name.ensures.placed in (
      omega (arith, h.after, h.some, c.loop-i.invariant.0),
      left_next length (λ (ns : List Bytes). c.loop-i.n + length ns) a.s.now a.from c.loop-i.i
          (λ (ns : List Bytes). c.loop-i.n + 1 + length ns) _ c.loop-i.invariant.1
          (sym c.in-Some.is ∙ c.next_name.ensures.is) (λ y e. omega arith),
    )

pub returns : goal.returns
returns c =
    let a = c.args in
    λ x e. left_over length (λ (ns : List Bytes). c.loop-i.n + length ns) a.s.now a.from c.loop-i.i c.loop-i.invariant.1
    c.loop-i-test.false x e
