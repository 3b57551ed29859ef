-- `rules::tests::is_past_limit` meets its contract. Assumes nothing.
use borrow.Author.Tests.{le-leb, lt-leb}
use Rattle.rules.proofs.tests.is_past_limit.Goals as goal

pub returns-then-count-ge-MAX_CATEGORIES : goal.returns-then-count-ge-MAX_CATEGORIES
returns-then-count-ge-MAX_CATEGORIES c = λ x ex. rw (le-leb 16 c.args.count c.if-count-ge-MAX_CATEGORIES.true)

pub returns : goal.returns
returns c = λ x ex. rw (lt-leb 16 c.args.count c.if-count-ge-MAX_CATEGORIES.false, ← c.count_names.ensures x ex)
