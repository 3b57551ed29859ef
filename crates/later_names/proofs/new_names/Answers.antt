-- `later_names::new_names` meets its contract. The loop's invariant: the later names of the nodes before it have their new ones, and the size is the length
-- of the text with them.
use Prim.Native.Nat.{◌+◌, ◌*◌}
use mathlib.Core.Path.{ap}
use native.Mathlib.Omega.{arith}
use Rattle.later_names.proofs.EndLaws.{ends_small}
use Rattle.later_names.proofs.StuckLaws.{going_first, going_other, going_later, going_stuck, going_over}
use Rattle.later_names.proofs.new_names.Goals as goal
use Rattle.later_names.proofs.new_names.Goals.{else-above-gt0, then-above-gt0+else-is_stuck}

pub count_ends-ends-requires : goal.count_ends-ends-requires
count_ends-ends-requires c = (c.requires.fits.room, c.requires.fits.within.relationships)

pub loop-node-init : goal.loop-node-init
loop-node-init c = going_first c.args.text.now c.args.words.now c.args.counts c.requires

pub earlier_alike-above-requires : goal.earlier_alike-above-requires
earlier_alike-above-requires c = (c.requires.fits, c.loop-node-test.true)

pub bounds-ends-node : goal.bounds-ends-node
bounds-ends-node c =
    omega (arith, c.requires.fits.within.nodes, c.loop-node-test.true, c.count_ends-ends.ensures.long)

pub overflow_add-longer : goal.overflow_add-longer
overflow_add-longer c =
    omega (
      arith,
      ends_small c.args.text.now _ c.args.counts _ c.requires.fits c.count_ends-ends.ensures _
          c.loop-node-test.true,
    )

pub overflow_mul-longer : goal.overflow_mul-longer
overflow_mul-longer c =
    omega (
      arith,
      ends_small c.args.text.now _ c.args.counts _ c.requires.fits c.count_ends-ends.ensures _
          c.loop-node-test.true,
    )

pub overflow_add-longer-then-above-gt0 : goal.overflow_add-longer-then-above-gt0
overflow_add-longer-then-above-gt0 c =
    omega (
      arith,
      ends_small c.args.text.now _ c.args.counts _ c.requires.fits c.count_ends-ends.ensures _
          c.loop-node-test.true,
      c.loop-node.invariant.short,
    )

pub is_stuck-requires : goal.is_stuck-requires
is_stuck-requires c = (c.requires.fits, c.loop-node-test.true)

pub returns-then-is_stuck : goal.returns-then-is_stuck
returns-then-is_stuck c =
    let a = c.args in
    let there = c.loop-node-test.true in
    going_stuck a.text.now a.words.now a.counts c.requires c.loop-node.node c.loop-node.size there c.loop-node.invariant _
    c.earlier_alike-above.ensures c.if-above-gt0.true _
    (ap (λ e. c.loop-node.size + 2 * (1 + e)) (c.count_ends-ends.ensures.each c.loop-node.node (omega (arith, c.requires.fits.within.nodes, there))))
    _ c.is_stuck.ensures c.if-is_stuck.true

pub loop-node-preserved : goal.loop-node-preserved
loop-node-preserved c =
    let a = c.args in
    let there = c.loop-node-test.true in
    elim c.if-above-gt0.branch [
      | then-above-gt0+else-is_stuck w ↦ rw w.size-is (going_later a.text.now a.words.now a.counts c.requires c.loop-node.node c.loop-node.size there c.loop-node.invariant _
          c.earlier_alike-above.ensures w.if-above-gt0.true _
          (ap (λ e. c.loop-node.size + 2 * (1 + e)) (c.count_ends-ends.ensures.each c.loop-node.node (omega (arith, c.requires.fits.within.nodes, there))))
          _ w.is_stuck.ensures w.if-is_stuck.false)
      | else-above-gt0 w ↦ rw w.size-is (going_other a.text.now a.words.now a.counts c.requires c.loop-node.node c.loop-node.size there c.loop-node.invariant _
          c.earlier_alike-above.ensures w.if-above-gt0.false)
    ]

pub returns : goal.returns
returns c =
    going_over c.args.text.now c.args.words.now c.args.counts c.requires _ _ c.loop-node.invariant c.loop-node-test.false
