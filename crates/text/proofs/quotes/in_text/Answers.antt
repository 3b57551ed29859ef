-- `text::quotes::in_text` meets its contract.
use Rattle.text.specs.Places.{is_in_text}
use borrow.Author.Tests.{eq-eqb, ne_eqb}
use Rattle.text.proofs.quotes.in_text.Goals as goal

pub returns-then-b-eq39 : goal.returns-then-b-eq39
unfolding is_in_text
returns-then-b-eq39 c = simp (eq-eqb _ 39 c.if-b-eq39.true)

pub returns-then-b-eq34 : goal.returns-then-b-eq34
unfolding is_in_text
returns-then-b-eq34 c = simp (ne_eqb _ 39 c.if-b-eq39.false, eq-eqb _ 34 c.if-b-eq34.true)

pub returns : goal.returns
unfolding is_in_text
returns c = simp (ne_eqb _ 39 c.if-b-eq39.false, ne_eqb _ 34 c.if-b-eq34.false)
