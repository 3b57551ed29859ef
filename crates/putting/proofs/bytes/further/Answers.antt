-- `further` meets its contract. Assumes nothing.
use mathlib.Core.Path.{sym}
use Rattle.putting.proofs.PuttingLaws.{further_on, further_past}
use Rattle.putting.proofs.bytes.further.Goals as goal

pub returns-then-at-lt-LAST_PLACE : goal.returns-then-at-lt-LAST_PLACE
returns-then-at-lt-LAST_PLACE c = sym (further_on _ c.if-at-lt-LAST_PLACE.true)

pub returns-else-at-lt-LAST_PLACE : goal.returns-else-at-lt-LAST_PLACE
returns-else-at-lt-LAST_PLACE c = sym (further_past _ c.if-at-lt-LAST_PLACE.false)
