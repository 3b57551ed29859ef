-- `put_label` meets its contract. Assumes nothing.
use Rattle.putting.proofs.PuttingLaws.{puts_then}
use Rattle.tidy_text.specs.Pieces.{label_piece}
use Rattle.tidy_text.proofs.declarations.put_label.Goals as goal

pub returns : goal.returns
unfolding label_piece
returns c =
    puts_then (puts_then c.put_bytes-at.ensures c.put_declared-at.ensures) c.put_bytes.ensures
