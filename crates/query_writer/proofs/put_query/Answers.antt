-- `put_query` meets its contract. Assumes nothing.
use Rattle.query_writer.specs.Pieces.{pattern_text}
use Rattle.putting.proofs.PuttingLaws.{puts_then}
use Rattle.query_writer.proofs.put_query.Goals as goal

pub put_returns-requires : goal.put_returns-requires
put_returns-requires c =
    c.requires.returns

pub returns : goal.returns
unfolding pattern_text
returns c =
    puts_then (puts_then (puts_then (puts_then c.put_vertices-at.ensures c.put_edges-at.ensures)
    c.put_conditions-at.ensures) c.put_bytes-at.ensures) c.put_returns.ensures
