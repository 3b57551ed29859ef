-- `query_faults::walk::fault_with` meets its contract. Assumes nothing.
use mathlib.Core.Path.{◌≡◌}
use lib.ListN.{length}
use Rattle.query_survey.specs.Names.{found_at}
use Rattle.book_tables.specs.View.{book_at}
use Rattle.query_faults.proofs.WalkLaws.{Walked}
use Rattle.query_faults.proofs.walk.fault_with.Given as goal

abbrev pub invariant-loop-x : goal.invariant-loop-x
invariant-loop-x l = Walked (book_at l.book l.words l.counts) l.s l.vertices l.edges
    l.returned l.place l.i l.t × (length l.vertices ≡ length l.initial.vertices) × (length l.edges ≡ length l.initial.edges) × (length l.returned ≡ length l.initial.returned)

abbrev pub decreases-loop-x : goal.decreases-loop-x
decreases-loop-x l = length (found_at l.s l.place)
