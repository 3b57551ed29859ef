use Rattle.query_signs.proofs.PlacedLaws.{text_part}
use Rattle.query_signs.proofs.SignLaws.{text_found, text_none, text_behind}
use native.Mathlib.Omega.{arith}
use mathlib.Core.Path.{sym, ◌∙◌}
use Rattle.query_signs.proofs.reading.text_sign.Goals as goal

pub returns-in_err-q : goal.returns-in_err-q
returns-in_err-q c =
    rw c.from_residual.ensures
    (record { got = text_none c.args.s.now c.args.at (sym c.in_err-q.was ∙ c.text_value.ensures); part = tt })

pub overflow_sub-result : goal.overflow_sub-result
overflow_sub-result c =
    omega (
      arith,
      text_behind c.args.s.now c.args.at c.in_ok-q.q
          (sym c.in_ok-q.was ∙ c.text_value.ensures),
    )

pub overflow_sub-result-2 : goal.overflow_sub-result-2
overflow_sub-result-2 c =
    omega (
      arith,
      text_behind c.args.s.now c.args.at c.in_ok-q.q
          (sym c.in_ok-q.was ∙ c.text_value.ensures),
    )

pub returns : goal.returns
returns c =
    record {
      got = text_found c.args.s.now c.args.at c.in_ok-q.q
          (sym c.in_ok-q.was ∙ c.text_value.ensures);
      part = text_part c.args.s.now c.args.at
          c.in_ok-q.q (sym c.in_ok-q.was ∙ c.text_value.ensures);
    }
