use Rattle.book_entries.specs.Faults.{lower}
use Rattle.book_entries.proofs.lower_fault.Goals as goal

pub returns-in-Some-Some : goal.returns-in-Some-Some
unfolding lower
returns-in-Some-Some c = rw (c.in-Some-Some.is-0, c.in-Some-Some.is-1, c.min.ensures)

pub returns-in-Some-None : goal.returns-in-Some-None
unfolding lower
returns-in-Some-None c = rw (c.in-Some-None.is-0, c.in-Some-None.is-1)

pub returns-in-None-default : goal.returns-in-None-default
unfolding lower
returns-in-None-default c = rw c.in-None-default.is-0
