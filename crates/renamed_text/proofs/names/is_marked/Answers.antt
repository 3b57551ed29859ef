-- `renamed_text::names::is_marked` meets its contract. Assumes nothing.
use Rattle.renamed_text.proofs.MarkLaws.{mark_of, no_mark}
use Rattle.renamed_text.proofs.names.is_marked.Goals as goal

pub returns-then-node-counts : goal.returns-then-node-counts
returns-then-node-counts c =
    let a = c.args in
    mark_of a.text.now a.words.now a.counts a.marked.now a.name.now _ c.find_node-node.ensures c.if-node-counts.true

pub returns-else-node-counts : goal.returns-else-node-counts
returns-else-node-counts c =
    let a = c.args in
    no_mark a.text.now a.words.now a.counts a.marked.now a.name.now _ c.find_node-node.ensures c.if-node-counts.false
