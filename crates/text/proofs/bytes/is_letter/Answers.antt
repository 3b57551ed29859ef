-- `text::bytes::is_letter` meets its contract.
use Rattle.model.specs.Words.{is_letter, between}
use borrow.Author.Tests.{le-leb, lt-leb}
use native.Mathlib.Omega.{arith}
use Rattle.text.proofs.bytes.is_letter.Goals as goal

pub returns-then-b-lt65 : goal.returns-then-b-lt65
unfolding is_letter between
returns-then-b-lt65 c = simp (lt-leb 65 _ c.if-b-lt65.true, lt-leb 97 c.args.b (omega arith))

pub returns-then-b-le90 : goal.returns-then-b-le90
unfolding is_letter between
returns-then-b-le90 c = simp (le-leb 65 _ c.if-b-lt65.false, le-leb _ 90 c.if-b-le90.true)

pub returns-then-b-lt97 : goal.returns-then-b-lt97
unfolding is_letter between
returns-then-b-lt97 c = simp (le-leb 65 _ c.if-b-lt65.false, lt-leb _ 90 c.if-b-le90.false, lt-leb 97 _ c.if-b-lt97.true)

pub returns : goal.returns
unfolding is_letter between
returns c = simp (le-leb 65 _ c.if-b-lt65.false, lt-leb _ 90 c.if-b-le90.false, le-leb 97 _ c.if-b-lt97.false)
