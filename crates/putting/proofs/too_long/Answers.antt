-- `too_long` meets its contract. Assumes nothing.
use borrow.Author.Tests.{lt-ltb, le-ltb}
use Rattle.putting.proofs.too_long.Goals as goal

pub returns-then-room-end : goal.returns-then-room-end
returns-then-room-end c = rw (lt-ltb _ _ c.if-room-end.true)

pub returns-else-room-end : goal.returns-else-room-end
returns-else-room-end c = rw (le-ltb _ _ c.if-room-end.false)
