-- `text::lines::feed_count` meets its contract.
use Rattle.text.specs.Lines.{feed_count}
use borrow.Author.Tests.{eq-eqb, ne_eqb}
use Rattle.text.proofs.lines.feed_count.Goals as goal

pub returns-then-b-eq10 : goal.returns-then-b-eq10
unfolding feed_count
returns-then-b-eq10 c = simp (eq-eqb _ 10 c.if-b-eq10.true)

pub returns-else-b-eq10 : goal.returns-else-b-eq10
unfolding feed_count
returns-else-b-eq10 c = simp (ne_eqb _ 10 c.if-b-eq10.false)
