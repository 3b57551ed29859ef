-- `put_attr` meets its contract. Assumes nothing.
use Rattle.putting.proofs.PuttingLaws.{puts_then}
use Rattle.tidy_text.specs.Pieces.{attr_piece}
use Rattle.tidy_text.proofs.declarations.put_attr.Goals as goal

pub returns : goal.returns
unfolding attr_piece
returns c =
    puts_then (puts_then c.put_bytes-at.ensures c.put_declared-at.ensures) c.put_type.ensures
