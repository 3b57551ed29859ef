use Rattle.query_signs.proofs.SignLaws.{whole_found, whole_none}
use mathlib.Core.Path.{sym, ◌∙◌}
use Rattle.query_signs.proofs.reading.number_sign.Goals as goal

pub returns-in_err-n : goal.returns-in_err-n
returns-in_err-n c =
    rw c.from_residual.ensures
    (record { got = whole_none c.args.s.now c.args.at (sym c.in_err-n.was ∙ c.whole.ensures); part = tt })

pub returns : goal.returns
returns c =
    record {
      got = whole_found c.args.s.now c.args.at c.in_ok-n.n c.in_ok-n.q
          (sym c.in_ok-n.was ∙ c.whole.ensures);
      part = tt;
    }
