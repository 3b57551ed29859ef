-- `put_part` meets its contract. Assumes nothing.
use Rattle.putting.proofs.PuttingLaws.{puts_same}
use Rattle.putting.proofs.bytes.put_part.Goals as goal

pub returns : goal.returns
returns c = puts_same c.part_of.ensures c.put_bytes.ensures
