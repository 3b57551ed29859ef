-- `later_names::above::earlier_alike` meets its contract. The loop's invariant: the names alike that the walk has passed are counted, and are at most one.
use Rattle.chains.specs.Slots.{slot_of}
use Rattle.chains.specs.Walks.{OnChain}
use Rattle.model.specs.Names.{same_but_case}
use Rattle.book_tables.specs.Layout.{node_names as nodes_at, node_links}
use Rattle.book_tables.specs.View.{name_of, node_slot}
use Rattle.later_names.proofs.WalkLaws.{Counting}
use Rattle.later_names.proofs.above.earlier_alike.Given as goal

abbrev pub invariant-loop-other : goal.invariant-loop-other
invariant-loop-other l =
    (goal.iterator-loop-other).can_next l.other-iterator × (goal.iterator-loop-other).is_finite l.other-iterator
    × OnChain l.words node_links l.other-iterator.entry l.other-iterator
    × Counting (node_slot l.text l.words) (slot_of l.name) (λ j. same_but_case l.name (name_of l.text l.words nodes_at j)) l.fn.node l.other-iterator.entry l.found
