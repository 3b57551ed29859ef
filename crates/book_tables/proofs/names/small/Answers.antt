use borrow.Author.Tests.{lt-leb, le-leb}
use Rattle.model.specs.Names.{lowered}
use Rattle.book_tables.proofs.names.small.Goals as goal

pub returns-then-b-lt65 : goal.returns-then-b-lt65
unfolding lowered
returns-then-b-lt65 c = rw (lt-leb _ _ c.if-b-lt65.true)

pub returns-then-b-gt90 : goal.returns-then-b-gt90
unfolding lowered
returns-then-b-gt90 c = rw (le-leb _ _ c.if-b-lt65.false, lt-leb _ _ c.if-b-gt90.true)

pub returns : goal.returns
unfolding lowered
returns c = rw (le-leb _ _ c.if-b-lt65.false, le-leb _ _ c.if-b-gt90.false)
