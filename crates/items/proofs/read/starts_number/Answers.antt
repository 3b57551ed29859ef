-- `items::read::starts_number` meets its contract.
use mathlib.Core.Path.{sym, ◌∙◌}
use Rattle.items.proofs.read.starts_number.Goals as goal

pub returns-then-is_digit : goal.returns-then-is_digit
returns-then-is_digit c = simp (sym c.is_digit.ensures ∙ c.if-is_digit.true)

pub returns : goal.returns
returns c = simp (sym c.is_digit.ensures ∙ c.if-is_digit.false)
