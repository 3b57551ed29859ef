use lib.ListN.{length}
use Rattle.query_survey.specs.Names.{found_at}
use Rattle.query_pieces.specs.Steps.{walk_at}
use mathlib.Core.Path.{◌≡◌}
use Rattle.query_faults.proofs.walk.is_whole_from.Given as goal

abbrev pub invariant-loop-x : goal.invariant-loop-x
invariant-loop-x l = (walk_at l.s l.place).whole ≡ (walk_at l.s l.initial.place).whole

abbrev pub decreases-loop-x : goal.decreases-loop-x
decreases-loop-x l = length (found_at l.s l.place)
