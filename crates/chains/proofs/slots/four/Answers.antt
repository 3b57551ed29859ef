-- `chains::slots::four` meets its contract. Assumes nothing.
use lib.Bits.{and_le_r}
use Rattle.chains.proofs.slots.four.Goals as goal

pub returns : goal.returns
returns c = (c.four_bytes.ensures.1, and_le_r c.four_bytes.result 522133279)
