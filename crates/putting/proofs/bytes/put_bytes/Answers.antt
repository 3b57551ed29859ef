-- `put_bytes` meets its contract. The loop's invariant: the first i bytes are put. Assumes nothing.
use native.Mathlib.Omega.{arith}
use Rattle.putting.proofs.PuttingLaws.{puts_nothing, puts_more, puts_all, puts_keeps_length}
use Rattle.putting.proofs.bytes.put_bytes.Goals as goal

pub loop-byte-init : goal.loop-byte-init
loop-byte-init c = let a = c.args in (omega arith, puts_nothing a.out.now a.at)

pub loop-byte-preserved : goal.loop-byte-preserved
loop-byte-preserved c =
    (omega arith, puts_more c.args.bytes.now c.loop-byte.byte-index (omega arith) c.loop-byte.invariant.1 c.put_byte-next.ensures)

pub shape_of-out : goal.shape_of-out
shape_of-out c = puts_keeps_length c.loop-byte.invariant.1

pub returns : goal.returns
returns c = puts_all c.args.bytes.now c.loop-byte.byte-index (omega arith) c.loop-byte.invariant.1
