-- `text::numbers::whole` meets its contract.
use Rattle.text.proofs.NumberLaws.{whole_minus, whole_plain}
use mathlib.Core.Path.{sym, ◌∙◌}
use Rattle.text.proofs.numbers.whole.Goals as goal

pub returns-then-peek-eq-MINUS : goal.returns-then-peek-eq-MINUS
returns-then-peek-eq-MINUS c =
    c.negative.ensures ∙ whole_minus c.args.s.now c.args.at (sym c.peek.ensures ∙ c.if-peek-eq-MINUS.true)

pub returns : goal.returns
returns c =
    c.plain.ensures ∙ whole_plain c.args.s.now c.args.at (λ h. c.if-peek-eq-MINUS.false (c.peek.ensures ∙ h))
