-- `renamed_text::blocks::copy` meets its contract. The loop's invariant: the first i bytes are put. Assumes nothing.
use native.Mathlib.Omega.{arith}
use Rattle.putting.proofs.PuttingLaws.{puts_keeps_length}
use Rattle.renamed_text.proofs.BlockLaws.{none_stored, one_stored, all_stored}
use Rattle.renamed_text.proofs.blocks.copy.Goals as goal

pub loop-i-init : goal.loop-i-init
loop-i-init c = let a = c.args in (omega arith, none_stored a.out.now a.bytes.now a.at)

pub bounds-out-at : goal.bounds-out-at
bounds-out-at c = omega (arith, puts_keeps_length c.loop-i.invariant.1)

pub loop-i-preserved : goal.loop-i-preserved
loop-i-preserved c =
    let a = c.args in
    (omega arith, one_stored a.out.now a.bytes.now a.at _ c.loop-i.i (omega arith) (omega arith) c.loop-i.invariant.1)

pub shape_of-out : goal.shape_of-out
shape_of-out c = puts_keeps_length c.loop-i.invariant.1

pub returns : goal.returns
returns c =
    let a = c.args in
    all_stored a.out.now a.bytes.now a.at _ c.loop-i.i c.loop-i.invariant.0 (omega arith) c.loop-i.invariant.1
