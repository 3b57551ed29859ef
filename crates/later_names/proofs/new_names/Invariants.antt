-- `later_names::new_names` meets its contract. The loop's invariant: the later names of the nodes before it have their new ones, and the size is the length
-- of the text with them.
use Rattle.later_names.proofs.StuckLaws.{Going}
use Rattle.later_names.proofs.new_names.Given as goal

abbrev pub invariant-loop-node : goal.invariant-loop-node
invariant-loop-node l = Going l.text l.words l.counts l.node l.size
