-- `later_names::is_stuck` meets its contract.
use borrow.Author.Tests.{lt-ltb, le-ltb}
use Rattle.later_names.proofs.is_stuck.Goals as goal

pub returns-then-above-gt1 : goal.returns-then-above-gt1
returns-then-above-gt1 c = rw (lt-ltb 1 _ c.if-above-gt1.true)

pub returns-then-longer-gt-MAX_BOOK_BYTES : goal.returns-then-longer-gt-MAX_BOOK_BYTES
returns-then-longer-gt-MAX_BOOK_BYTES c = rw (le-ltb 1 _ c.if-above-gt1.false, lt-ltb 65536 _ c.if-longer-gt-MAX_BOOK_BYTES.true)

pub returns : goal.returns
returns c = rw (le-ltb 1 _ c.if-above-gt1.false, le-ltb 65536 _ c.if-longer-gt-MAX_BOOK_BYTES.false) c.is_taken.ensures
