use Rattle.query_signs.specs.Marks.{is_pair}
use borrow.Author.Tests.{eq-eqb, ne_eqb}
use Rattle.query_signs.proofs.marks.is_pair.Goals as goal

pub returns-then-code-eq-DIFFERS : goal.returns-then-code-eq-DIFFERS
unfolding is_pair
returns-then-code-eq-DIFFERS c = simp (eq-eqb _ 15422 c.if-code-eq-DIFFERS.true)

pub returns-then-code-eq-AT_MOST : goal.returns-then-code-eq-AT_MOST
unfolding is_pair
returns-then-code-eq-AT_MOST c = simp (ne_eqb _ 15422 c.if-code-eq-DIFFERS.false, eq-eqb _ 15421 c.if-code-eq-AT_MOST.true)

pub returns : goal.returns
unfolding is_pair
returns c = simp (ne_eqb _ 15422 c.if-code-eq-DIFFERS.false, ne_eqb _ 15421 c.if-code-eq-AT_MOST.false)
