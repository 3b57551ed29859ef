use Rattle.putting.proofs.PuttingLaws.{puts_then, puts_same, puts_keeps_length}
use Rattle.list_lines.specs.Printing.{name_in}
use Rattle.list_lines.proofs.PrintingLaws.{no_name}
use Rattle.list_lines.proofs.put_node.Goals as goal

pub shape_of-out-then-node-counts : goal.shape_of-out-then-node-counts
shape_of-out-then-node-counts c =
    puts_keeps_length (puts_then c.put_bytes-at.ensures c.put_bytes.ensures)

pub returns-then-node-counts : goal.returns-then-node-counts
unfolding name_in
returns-then-node-counts c =
    let a = c.args in puts_then c.put_bytes-at.ensures
    (puts_same (c.node_name.ensures a.counts c.if-node-counts.true) c.put_bytes.ensures)

pub returns : goal.returns
returns c =
    let a = c.args in puts_same (no_name a.book.now a.words.now a.counts a.node c.if-node-counts.false) c.put_bytes-at.ensures
