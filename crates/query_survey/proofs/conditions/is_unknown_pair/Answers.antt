use Rattle.query_survey.proofs.conditions.is_unknown_pair.Goals as goal

pub returns-then-stands_before : goal.returns-then-stands_before
returns-then-stands_before c = rw (← c.stands_before.ensures, ← c.stands_before-then-stands_before.ensures, c.if-stands_before.true)

pub returns : goal.returns
returns c = rw (← c.stands_before.ensures, c.if-stands_before.false)
