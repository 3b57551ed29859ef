-- `later_names::later_marks` meets its contract. The loop's invariant: the marks of the nodes before it are set, and no others.
use native.Mathlib.Omega.{arith}
use Rattle.later_names.proofs.MarkLaws.{marks_none, marks_more, marks_all, names_counted}
use Rattle.later_names.proofs.later_marks.Goals as goal

pub loop-node-init : goal.loop-node-init
loop-node-init c = (omega arith, marks_none _)

pub earlier_alike-requires : goal.earlier_alike-requires
earlier_alike-requires c = (c.requires, c.loop-node-test.true)

pub bounds-marks-node : goal.bounds-marks-node
bounds-marks-node c = omega (arith, c.requires.within.nodes, c.loop-node-test.true)

pub loop-node-preserved : goal.loop-node-preserved
loop-node-preserved c =
    let l = c.loop-node in (
      omega (arith, c.loop-node-test.true),
      marks_more _ l.marks l.node _ (omega (arith, c.requires.within.nodes, c.loop-node-test.true)) l.invariant.1 c.earlier_alike.ensures.later,
    )

pub returns : goal.returns
returns c =
    let l = c.loop-node in
    let a = c.args in
    marks_all _ l.marks l.node
    (omega (arith, names_counted a.text.now a.words.now a.counts c.requires, l.invariant.0, c.loop-node-test.false)) l.invariant.1
