-- `chains::slots::eight` meets its contract: the bits of four bytes and of the next four. Assumes nothing.
use lib.Bits.{and_le_r}
use Prim.Native.Nat.{◌+◌, ◌*◌}
use Rattle.chains.proofs.SlotLaws.{eight_of}
use Rattle.chains.proofs.slots.eight.Goals as goal

pub returns : goal.returns
returns c =
    let a = c.args in
    let x = c.four_bytes in
    let y = c.four_bytes-2 in
    (eight_of a.name.now a.i _ _ x.ensures.0 x.ensures.1 y.ensures.1, and_le_r (x.result + y.result * 4294967296) 2242545357980376863)
