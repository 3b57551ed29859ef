-- `request::faults::has_unknown` meets its contract. Assumes nothing.
use Prim.Native.Nat.{◌-◌}
use lib.ListN.{length}
use Rattle.model.specs.Book.{node_names}
use Rattle.model.specs.Lists.{any}
use Rattle.book_tables.specs.View.{book_at}
use Rattle.rules_tables.specs.View.{actors_at}
use Rattle.request.specs.Claims.{is_unknown, Left}
use Rattle.request.proofs.faults.has_unknown.Given as goal

abbrev pub invariant-loop-i : goal.invariant-loop-i
invariant-loop-i l = Left (any (is_unknown (actors_at l.rules l.table l.k) (node_names (book_at l.book l.words l.counts))))
    (any (is_unknown (actors_at l.rules l.table l.k) (node_names (book_at l.book l.words l.counts)))) l.s l.from l.i

abbrev pub decreases-loop-i : goal.decreases-loop-i
decreases-loop-i l = length l.s - l.i
