-- `put_owner` meets its contract. Assumes nothing.
use Rattle.putting.proofs.PuttingLaws.{puts_then}
use Rattle.tidy_text.specs.Pieces.{owner_piece}
use Rattle.tidy_text.proofs.owners.put_owner.Goals as goal

pub returns : goal.returns
unfolding owner_piece
returns c =
    puts_then (puts_then c.put_head-at.ensures c.put_entries-at.ensures) c.put_bytes.ensures
