use Rattle.query_signs.specs.Marks.{is_arrow}
use borrow.Author.Tests.{eq-eqb, ne_eqb}
use Rattle.query_signs.proofs.marks.is_arrow.Goals as goal

pub returns-then-not-chain : goal.returns-then-not-chain
returns-then-not-chain c = simp (c.if-not-chain.true)

pub returns-then-code-eq-LEFTWARD : goal.returns-then-code-eq-LEFTWARD
unfolding is_arrow
returns-then-code-eq-LEFTWARD c = simp (c.if-not-chain.false, eq-eqb _ 15405 c.if-code-eq-LEFTWARD.true)

pub returns : goal.returns
unfolding is_arrow
returns c = simp (c.if-not-chain.false, ne_eqb _ 15405 c.if-code-eq-LEFTWARD.false)
