use Rattle.putting.proofs.PuttingLaws.{puts_then, puts_keeps_length}
use Rattle.list_lines.specs.Printing.{header_text}
use Rattle.list_lines.proofs.put_header.Goals as goal

pub shape_of-out : goal.shape_of-out
shape_of-out c =
    puts_keeps_length (puts_then (puts_then c.put_bytes-at.ensures c.put_digits-at.ensures) c.put_bytes.ensures)

pub returns : goal.returns
unfolding header_text
returns c =
    puts_then (puts_then c.put_bytes-at.ensures c.put_digits-at.ensures) c.put_bytes.ensures
