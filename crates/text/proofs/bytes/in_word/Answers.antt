-- `text::bytes::in_word` meets its contract: the bit of every byte says whether a word may have it.
use native.Mathlib.Omega.{arith}
use Prim.Native.Nat.{◌<◌}
use Rattle.text.proofs.WordBytes.{low_says, high_says}
use Rattle.text.proofs.bytes.in_word.Goals as goal
use Rattle.text.proofs.bytes.in_word.Goals.{then-b-lt64, else-b-lt64}

pub returns : goal.returns
returns c =
    let b = c.args.b in
    let bits = c.if-b-lt64.bits in
    let byte : b < 256 = omega (arith, c.ranges.b.fits) in
    elim c.if-b-lt64.branch [
      | then-b-lt64 w ↦ low_says b bits w.bits-is w.if-b-lt64.true
      | else-b-lt64 w ↦ high_says b bits w.bits-is (omega (arith, w.if-b-lt64.false)) byte
    ]
