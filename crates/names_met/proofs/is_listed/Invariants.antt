-- `names_met::is_listed` meets its contract. The loop's invariant: no name that the walk has passed is this one. Assumes nothing.
use Rattle.chains.specs.Walks.{OnChain}
use Rattle.names_met.proofs.TableLaws.{NameWalk}
use Rattle.names_met.proofs.is_listed.Given as goal

abbrev pub invariant-loop-k : goal.invariant-loop-k
invariant-loop-k l =
    (goal.iterator-loop-k).can_next l.k-iterator × (goal.iterator-loop-k).is_finite l.k-iterator
    × OnChain l.table 256 l.k-iterator.entry l.k-iterator × NameWalk l.s l.table l.fn.n l.name l.k-iterator.entry
