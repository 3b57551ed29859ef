-- `put_vertex` meets its contract. Assumes nothing.
use Rattle.query_writer.specs.Pieces.{vertex_piece}
use Rattle.putting.proofs.PuttingLaws.{puts_then}
use Rattle.query_writer.proofs.matches.put_vertex.Goals as goal

pub returns : goal.returns
unfolding vertex_piece
returns c =
    puts_then c.put_before-at.ensures
    (puts_then (puts_then c.put_bytes-at.ensures c.put_part-at.ensures) c.put_bytes.ensures)
