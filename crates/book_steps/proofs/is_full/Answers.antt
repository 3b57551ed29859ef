use borrow.Author.Tests.{le-leb, lt-leb}
use Rattle.book_steps.proofs.is_full.Goals as goal

pub returns-then-limit-count : goal.returns-then-limit-count
returns-then-limit-count c = rw (le-leb _ _ c.if-limit-count.true)

pub returns : goal.returns
returns c = rw (lt-leb _ _ c.if-limit-count.false)
