use Rattle.book_steps.specs.Steps.{owner_fault}
use Rattle.book_steps.proofs.owner_fault.Goals.{else-is_none-via-then-is_none+else-full, else-is_none-via-else-is_none}
use Rattle.book_steps.proofs.owner_fault.Goals as goal

pub returns-then-eq : goal.returns-then-eq
unfolding owner_fault
returns-then-eq c = rw (← c.if-eq.ensures)

pub returns-then-there : goal.returns-then-there
unfolding owner_fault
returns-then-there c = rw (← c.if-eq.ensures, c.if-there.true)

pub returns-then-full : goal.returns-then-full
unfolding owner_fault
returns-then-full c = rw (← c.if-eq.ensures, c.if-there.false, c.if-is_none.ensures, c.if-full.true)

pub returns : goal.returns
unfolding owner_fault
returns c = elim c.else-is_none.branch [
  | else-is_none-via-then-is_none+else-full w ↦ rw (← c.if-eq.ensures, c.if-there.false, w.if-is_none.ensures, w.if-full.false)
  | else-is_none-via-else-is_none w ↦ rw (← c.if-eq.ensures, c.if-there.false, w.if-is_none.ensures)
]
