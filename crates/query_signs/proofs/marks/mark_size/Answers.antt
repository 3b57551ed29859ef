use Rattle.query_signs.specs.Marks.{mark_size}
use borrow.Author.Tests.{lt-ltb, le-ltb}
use Rattle.query_signs.proofs.marks.mark_size.Goals as goal

pub returns-then-code-lt256 : goal.returns-then-code-lt256
unfolding mark_size
returns-then-code-lt256 c = simp (lt-ltb _ 256 c.if-code-lt256.true)

pub returns : goal.returns
unfolding mark_size
returns c = simp (le-ltb _ 256 c.if-code-lt256.false)
