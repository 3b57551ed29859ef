use Rattle.book_entries.specs.Faults.{entry_fault}
use Rattle.book_entries.proofs.entry_fault.Goals as goal

pub returns-then-seen : goal.returns-then-seen
unfolding entry_fault
returns-then-seen c = rw c.if-seen.true

pub returns-then-suited : goal.returns-then-suited
unfolding entry_fault
returns-then-suited c = rw (c.if-seen.false, c.if-suited.true)

pub returns : goal.returns
unfolding entry_fault
returns c = rw (c.if-seen.false, c.if-suited.false)
