-- `rules::tests::lacks_actor` meets its contract. Assumes nothing.
use Rattle.rules.proofs.tests.lacks_actor.Goals as goal

pub returns-then-has_name : goal.returns-then-has_name
returns-then-has_name c = λ x y ex ey. rw (← c.has_name.ensures x ex, c.if-has_name.true) (c.lacks_lower.ensures x y ex ey)

pub returns : goal.returns
returns c = λ x y ex ey. rw (← c.has_name.ensures x ex, c.if-has_name.false)
