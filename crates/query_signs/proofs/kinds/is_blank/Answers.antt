use Rattle.query_signs.specs.Reads.{is_blank}
use borrow.Author.Tests.{eq-eqb, ne_eqb}
use Rattle.query_signs.proofs.kinds.is_blank.Goals as goal

pub returns-then-b-eq-SPACE : goal.returns-then-b-eq-SPACE
unfolding is_blank
returns-then-b-eq-SPACE c = simp (eq-eqb _ 32 c.if-b-eq-SPACE.true)

pub returns : goal.returns
unfolding is_blank
returns c = simp (ne_eqb _ 32 c.if-b-eq-SPACE.false)
