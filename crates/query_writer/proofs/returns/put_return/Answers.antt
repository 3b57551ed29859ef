-- `put_return` meets its contract. Assumes nothing.
use Rattle.putting.proofs.PuttingLaws.{puts_then}
use Rattle.query_writer.proofs.returns.put_return.Goals as goal

pub returns : goal.returns
returns c = puts_then c.put_before-at.ensures c.put_part.ensures
