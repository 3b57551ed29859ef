-- `put_exclusion` meets its contract. Assumes nothing.
use Rattle.putting.proofs.PuttingLaws.{puts_then}
use Rattle.query_writer.proofs.conditions.put_exclusion.Goals as goal

pub returns : goal.returns
returns c =
    puts_then (puts_then c.put_part-at.ensures c.put_bytes-at.ensures) c.put_part.ensures
