-- `query_signs::kinds::adjoins` meets its contract.
use mathlib.Core.Path.{sym, ◌∙◌}
use Rattle.query_signs.proofs.kinds.adjoins.Goals as goal

pub returns-then-not-touches : goal.returns-then-not-touches
returns-then-not-touches c = rw (sym c.touches.ensures ∙ c.if-not-touches.true)

pub returns : goal.returns
returns c = rw (sym c.touches.ensures ∙ c.if-not-touches.false) c.is_wordy.ensures
