-- `pattern_of` meets its contract. The loop's invariant: what is found so far is what the pieces before the place name. Assumes nothing.
use lib.ListN.{length}
use Rattle.query_survey.specs.Names.{found_at}
use Rattle.query.proofs.WalkLaws.{PatternSoFar}
use Rattle.query.proofs.pattern.pattern_of.Given as goal

abbrev pub invariant-loop-x : goal.invariant-loop-x
invariant-loop-x l =
    PatternSoFar l.book l.words l.counts l.s l.place l.last l.found l.links l.conditions l.returned

abbrev pub decreases-loop-x : goal.decreases-loop-x
decreases-loop-x l = length (found_at l.s l.place)
