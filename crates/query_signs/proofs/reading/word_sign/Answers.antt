use Rattle.query_signs.proofs.PlacedLaws.{word_part}
use Rattle.query_signs.proofs.SignLaws.{word_found, word_none, end_behind}
use mathlib.Core.Path.{sym, ◌∙◌}
use Rattle.query_signs.proofs.reading.word_sign.Goals as goal

pub returns-in_err-q : goal.returns-in_err-q
returns-in_err-q c =
    rw c.from_residual.ensures
    (record { got = word_none c.args.s.now c.args.at (sym c.in_err-q.was ∙ c.word.ensures); part = tt })

pub overflow_sub-result : goal.overflow_sub-result
overflow_sub-result c =
    end_behind c.args.at c.in_ok-q.q _ (sym c.in_ok-q.was ∙ c.word.ensures)

pub returns : goal.returns
returns c =
    record {
      got = word_found c.args.s.now c.args.at c.in_ok-q.q
          (sym c.in_ok-q.was ∙ c.word.ensures);
      part = word_part c.args.s.now c.args.at
          c.in_ok-q.q (sym c.in_ok-q.was ∙ c.word.ensures);
    }
