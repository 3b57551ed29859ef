-- `text::bytes::is_digit` meets its contract.
use Rattle.model.specs.Words.{is_digit, between}
use borrow.Author.Tests.{le-leb, lt-leb}
use Rattle.text.proofs.bytes.is_digit.Goals as goal

pub returns-then-b-lt-ZERO : goal.returns-then-b-lt-ZERO
unfolding is_digit between
returns-then-b-lt-ZERO c = simp (lt-leb 48 _ c.if-b-lt-ZERO.true)

pub returns : goal.returns
unfolding is_digit between
returns c = simp (le-leb 48 _ c.if-b-lt-ZERO.false)
