-- `put_requirement` meets its contract. Assumes nothing.
use Rattle.model.specs.Writing.{demand_text}
use Rattle.query_writer.specs.Pieces.{requirement_piece}
use Rattle.putting.proofs.PuttingLaws.{puts_then}
use Rattle.query_writer.proofs.conditions.put_requirement.Goals as goal

pub put_value-requires : goal.put_value-requires
put_value-requires c =
    c.requires.1.value

pub returns : goal.returns
unfolding demand_text requirement_piece
returns c =
    puts_then (puts_then (puts_then (puts_then
    (puts_then (puts_then c.put_part-at.ensures c.put_bytes-at.ensures) c.put_declared-at.ensures)
    c.put_bytes-at-2.ensures) c.put_relation-at.ensures) c.put_bytes-at-3.ensures)
    c.put_value.ensures
