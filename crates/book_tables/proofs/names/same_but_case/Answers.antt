use mathlib.Core.Path.{refl, sym, ◌∙◌}
use native.Mathlib.Omega.{arith}
use Rattle.model.specs.Names.{same_but_case}
use Rattle.book_tables.proofs.AlikeLaws.{case_lengths, case_over, case_step, case_differs}
use Rattle.book_tables.proofs.names.same_but_case.Goals as goal

pub returns-then-a-b : goal.returns-then-a-b
returns-then-a-b c = case_lengths c.args.a.now c.args.b.now c.if-a-b.true

pub loop-i-init : goal.loop-i-init
unfolding same_but_case
loop-i-init c = refl

pub returns-then-small : goal.returns-then-small
returns-then-small c =
    let a = c.args in
    let e = c.if-a-b.false in
    sym (case_differs a.a.now a.b.now c.loop-i.i (omega arith) (omega arith)
    (rw (c.small.ensures, c.small-in-loop-i.ensures) at c.if-small.true)) ∙ c.loop-i.invariant

pub loop-i-preserved : goal.loop-i-preserved
loop-i-preserved c =
    let a = c.args in
    let e = c.if-a-b.false in
    sym (case_step a.a.now a.b.now c.loop-i.i (omega arith) (omega arith)
    (rw (c.small.ensures, c.small-in-loop-i.ensures) at c.if-small.false)) ∙ c.loop-i.invariant

pub returns : goal.returns
returns c =
    let a = c.args in
    let e = c.if-a-b.false in
    sym (case_over a.a.now a.b.now c.loop-i.i (omega arith) (omega arith)) ∙ c.loop-i.invariant
