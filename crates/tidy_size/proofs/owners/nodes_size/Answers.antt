-- `tidy_size::owners::nodes_size` meets its contract. The loop's invariant: the size is that of the lines of the nodes before `i`. The measure is the
-- number of nodes left. Assumes nothing.
use Prim.Native.Nat.{◌-◌}
use native.Mathlib.Omega.{arith}
use Rattle.tidy_size.proofs.SizeLaws.{no_lines, more_lines, all_lines}
use Rattle.tidy_size.proofs.owners.nodes_size.Goals as goal

pub loop-i-init : goal.loop-i-init
loop-i-init c = (omega arith, no_lines _ _)

pub node_size-size-requires : goal.node_size-size-requires
node_size-size-requires c = (c.requires, c.loop-i-test.true)

pub overflow_add-size : goal.overflow_add-size
overflow_add-size c =
    omega (
      arith,
      c.node_size-size.ensures.small,
      c.loop-i.invariant.1.small,
      c.loop-i-test.true,
      c.requires.fits.within.nodes,
    )

pub loop-i-preserved : goal.loop-i-preserved
loop-i-preserved c =
    let l = c.loop-i in
    (omega (arith, c.loop-i-test.true), more_lines _ _ l.i l.size _ l.invariant.1 c.node_size-size.ensures)

pub returns : goal.returns
returns c = all_lines _ _ c.loop-i.i _ _ (omega (arith, c.loop-i.invariant.0, c.loop-i-test.false)) c.loop-i.invariant.1
