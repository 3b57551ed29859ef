-- `put_edge` meets its contract. Assumes nothing.
use Rattle.query_writer.specs.Pieces.{vertex_at, edge_piece}
use Rattle.putting.proofs.PuttingLaws.{puts_then, puts_keeps_length}
use Rattle.query_writer.proofs.matches.put_edge.Goals as goal

pub put_declared-at-requires : goal.put_declared-at-requires
put_declared-at-requires c =
    c.requires.label

pub put_part-at-requires-3 : goal.put_part-at-requires-3
put_part-at-requires-3 c =
    c.requires.to.1

pub shape_of-out : goal.shape_of-out
shape_of-out c =
    puts_keeps_length (puts_then (puts_then (puts_then
    (puts_then (puts_then (puts_then (puts_then (puts_then c.put_bytes-at.ensures c.put_part-at.ensures)
    c.put_bytes-at-2.ensures) c.put_part-at-2.ensures) c.put_bytes-at-3.ensures)
    c.put_declared-at.ensures) c.put_bytes-at-4.ensures) c.put_part-at-3.ensures)
    c.put_bytes.ensures)

pub returns : goal.returns
unfolding vertex_at edge_piece
returns c =
    puts_then (puts_then (puts_then (puts_then
    (puts_then (puts_then (puts_then (puts_then c.put_bytes-at.ensures c.put_part-at.ensures)
    c.put_bytes-at-2.ensures) c.put_part-at-2.ensures) c.put_bytes-at-3.ensures)
    c.put_declared-at.ensures) c.put_bytes-at-4.ensures) c.put_part-at-3.ensures)
    c.put_bytes.ensures
