-- `put_relationship` meets its contract. Assumes nothing.
use Rattle.putting.proofs.PuttingLaws.{puts_then}
use Rattle.tidy_text.specs.Pieces.{relationship_piece}
use Rattle.tidy_text.proofs.owners.put_relationship.Goals as goal

pub returns : goal.returns
unfolding relationship_piece
returns c =
    puts_then (puts_then (puts_then (puts_then
    (puts_then c.put_bytes-at.ensures c.put_declared-at.ensures) c.put_bytes-at-2.ensures)
    c.put_declared-at-2.ensures) c.put_bytes-at-3.ensures) c.put_declared.ensures
