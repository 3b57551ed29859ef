-- `book_tables::names::find_alike` meets its contract. The loop's invariant: no node that the walk has passed is taken for the name. Assumes nothing.
use Rattle.chains.specs.Walks.{OnChain}
use Rattle.book_tables.specs.Layout.{node_links}
use Rattle.book_tables.proofs.Walks.{NodeWalk}
use Rattle.book_tables.proofs.names.find_alike.Given as goal

abbrev pub invariant-loop-node : goal.invariant-loop-node
invariant-loop-node l =
    (goal.iterator-loop-node).can_next l.node-iterator × (goal.iterator-loop-node).is_finite l.node-iterator
    × OnChain l.words node_links l.node-iterator.entry l.node-iterator × NodeWalk l.rule l.text l.words l.name l.counts.nodes l.node-iterator.entry
