use Rattle.query_survey.specs.Survey.{verdict}
use Rattle.query_survey.proofs.tallies.fault_at_end.Goals as goal

pub returns-then-not-whole : goal.returns-then-not-whole
unfolding verdict
returns-then-not-whole c = rw (c.if-not-whole.true)

pub returns-then-t : goal.returns-then-t
unfolding verdict
returns-then-t c = rw (c.if-not-whole.false, c.if-t.true)

pub returns-then-t-2 : goal.returns-then-t-2
unfolding verdict
returns-then-t-2 c = rw (c.if-not-whole.false, c.if-t.false, c.if-t-2.true)

pub returns-then-t-3 : goal.returns-then-t-3
unfolding verdict
returns-then-t-3 c =
    rw (c.if-not-whole.false, c.if-t.false, c.if-t-2.false, c.if-t-3.true)

pub returns-then-is_over : goal.returns-then-is_over
unfolding verdict
returns-then-is_over c =
    rw (
      ← c.is_over.ensures,
      c.if-not-whole.false,
      c.if-t.false,
      c.if-t-2.false,
      c.if-t-3.false,
      c.if-is_over.true,
    )

pub returns-then-t-4 : goal.returns-then-t-4
unfolding verdict
returns-then-t-4 c =
    rw (
      ← c.is_over.ensures,
      c.if-not-whole.false,
      c.if-t.false,
      c.if-t-2.false,
      c.if-t-3.false,
      c.if-is_over.false,
      c.if-t-4.true,
    )

pub returns-else-t-4 : goal.returns-else-t-4
unfolding verdict
returns-else-t-4 c =
    rw (
      ← c.is_over.ensures,
      c.if-not-whole.false,
      c.if-t.false,
      c.if-t-2.false,
      c.if-t-3.false,
      c.if-is_over.false,
      c.if-t-4.false,
    )
