-- `book_tables::relationships::is_related` meets its contract. The loop's invariant: no relationship that the walk has passed is the one.
-- Assumes nothing.
use Rattle.chains.specs.Walks.{OnChain}
use Rattle.book_tables.specs.Layout.{from_links}
use Rattle.book_tables.proofs.Walks.{RelWalk}
use Rattle.book_tables.proofs.relationships.is_related.Given as goal

abbrev pub invariant-loop-i : goal.invariant-loop-i
invariant-loop-i l =
    (goal.iterator-loop-i).can_next l.i-iterator × (goal.iterator-loop-i).is_finite l.i-iterator
    × OnChain l.words from_links l.i-iterator.entry l.i-iterator × RelWalk l.text l.words l.label l.from l.to l.fn.counts.relationships l.i-iterator.entry
