-- `compare::compare` meets its contract. The loop's invariant: what is left of the two texts stands as the whole texts do.
use Rattle.compare.proofs.CompareLaws.{compare_end, compare_shorter, compare_longer, compare_less, compare_greater, compare_step}
use Rattle.compare.specs.Compare.{order_of}
use mathlib.Core.Path.{sym, ◌∙◌}
use native.Mathlib.Omega.{arith}
use Rattle.compare.proofs.compare.Goals as goal

pub loop-i-init : goal.loop-i-init
loop-i-init c = (c.same_fours-i.ensures.within, c.same_fours-i.ensures.is)

pub returns-then-b-i : goal.returns-then-b-i
unfolding order_of
returns-then-b-i c =
    let p = c.args in
    let l = c.loop-i in
    sym (compare_longer p.a.now p.b.now l.i (omega arith) c.if-b-i.true) ∙ l.invariant.1

pub returns-then-a-i : goal.returns-then-a-i
unfolding order_of
returns-then-a-i c =
    sym (compare_less c.args.a.now c.args.b.now c.loop-i.i (omega arith)
    c.if-b-i.false (omega arith)) ∙ c.loop-i.invariant.1

pub returns-then-b-i-2 : goal.returns-then-b-i-2
unfolding order_of
returns-then-b-i-2 c =
    sym (compare_greater c.args.a.now c.args.b.now c.loop-i.i (omega arith) c.if-b-i.false
    c.if-b-i-2.true) ∙ c.loop-i.invariant.1

pub loop-i-preserved : goal.loop-i-preserved
loop-i-preserved c = (
  omega arith,
  sym (compare_step c.args.a.now c.args.b.now c.loop-i.i (omega arith) c.if-b-i.false
      c.if-a-i.false c.if-b-i-2.false) ∙ c.loop-i.invariant.1,
)

pub returns-then-a-b : goal.returns-then-a-b
unfolding order_of
returns-then-a-b c =
    let p = c.args in
    let l = c.loop-i in
    sym (compare_shorter p.a.now p.b.now l.i (omega arith) (omega arith)) ∙ l.invariant.1

pub returns : goal.returns
unfolding order_of
returns c =
    let p = c.args in
    let l = c.loop-i in
    sym (compare_end p.a.now p.b.now l.i (omega arith) (omega arith)) ∙ l.invariant.1
