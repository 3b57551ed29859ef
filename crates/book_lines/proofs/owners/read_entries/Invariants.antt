-- `book_lines::owners::read_entries` meets its contract.
use Rattle.book_lines.proofs.EntryForms.{Reading}
use lib.ListN.{length}
use Prim.Native.Nat.{◌-◌}
use Rattle.book_lines.proofs.owners.read_entries.Given as goal

abbrev pub invariant-loop-found : goal.invariant-loop-found
invariant-loop-found l =
    Reading (record { inner = l.inner; closes = l.closes }) l.text l.line l.initial.words l.words l.counts l.offset l.declared l.from l.at l.known

abbrev pub decreases-loop-found : goal.decreases-loop-found
decreases-loop-found l = length l.line - l.at
