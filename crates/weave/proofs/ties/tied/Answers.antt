-- `tied` meets its contract. The loop's invariant: the steps that are left lead where all lead from the first marks. Assumes nothing.
use Rattle.weave.proofs.TieLaws.{tied_start, tied_more, tied_unchanged, tied_end}
use native.Mathlib.Omega.{arith}
use Prim.Native.Nat.{◌-◌}
use Rattle.weave.proofs.ties.tied.Goals as goal

pub loop-round-init : goal.loop-round-init
loop-round-init c = (
  omega arith,
  tied_start c.args.words.now c.args.vertices c.args.edges c.args.mask
      c.requires.3,
)

pub step-next-requires : goal.step-next-requires
step-next-requires c =
    (c.requires.1, c.requires.2, λ i h. let l = c.requires.3 i h in (omega (arith, l.0, c.requires.0), omega (arith, l.1, c.requires.0)))

pub returns-then-next-marked : goal.returns-then-next-marked
returns-then-next-marked c =
    tied_unchanged c.args.words.now c.args.vertices c.args.edges c.args.mask c.requires.3
    c.loop-round.marked c.step-next.result c.loop-round.round c.if-next-marked.true c.step-next.ensures c.loop-round.invariant.1

pub loop-round-preserved : goal.loop-round-preserved
loop-round-preserved c = (
  omega arith,
  tied_more c.args.words.now c.args.vertices c.args.edges c.args.mask c.requires.3
      c.loop-round.marked c.step-next.result c.loop-round.round c.loop-round-test.true c.step-next.ensures
      c.loop-round.invariant.1,
)

pub returns : goal.returns
returns c =
    tied_end c.args.words.now c.args.vertices c.args.edges c.args.mask c.requires.3 c.loop-round.marked
    c.loop-round.round c.loop-round-test.false c.loop-round.invariant.1
