-- `request::stores::identities` meets its contract. Assumes nothing.
use Prim.Native.Nat.{◌-◌}
use lib.ListN.{length}
use Rattle.book_tables.specs.View.{book_at}
use Rattle.rules_tables.specs.View.{actors_at}
use Rattle.request.proofs.StoreLaws.{Storing}
use Rattle.request.proofs.stores.identities.Given as goal

-- the identities before the place are stored
abbrev pub invariant-loop-i : goal.invariant-loop-i
invariant-loop-i l =
    Storing (book_at l.book l.words l.counts) l.counts.nodes (actors_at l.rules l.table l.k) l.s l.from l.list l.count l.i

abbrev pub decreases-loop-i : goal.decreases-loop-i
decreases-loop-i l = length l.s - l.i
