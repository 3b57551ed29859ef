use Rattle.query_signs.proofs.SignLaws.{number_digit, number_none, number_minus}
use mathlib.Core.Path.{sym, ◌∙◌}
use Rattle.query_signs.proofs.kinds.starts_number.Goals as goal

pub returns-then-is_digit : goal.returns-then-is_digit
returns-then-is_digit c =
    number_digit c.args.s.now c.args.at c.peek-b.result c.peek-b.ensures
    (sym c.is_digit.ensures ∙ c.if-is_digit.true)

pub returns-then-b-ne-MINUS : goal.returns-then-b-ne-MINUS
returns-then-b-ne-MINUS c =
    number_none c.args.s.now c.args.at c.peek-b.result c.peek-b.ensures
    (sym c.is_digit.ensures ∙ c.if-is_digit.false) c.if-b-ne-MINUS.true

pub returns : goal.returns
returns c =
    number_minus c.args.s.now c.args.at c.peek-b.result c.peek-b.ensures
    (sym c.is_digit.ensures ∙ c.if-is_digit.false) c.if-b-ne-MINUS.false c.peek.result
    c.peek.ensures c.is_digit-2.result c.is_digit-2.ensures
