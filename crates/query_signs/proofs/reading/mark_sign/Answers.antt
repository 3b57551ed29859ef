use Rattle.query_signs.proofs.SignLaws.{mark_found, mark_missing, mark_small}
use Rattle.query_signs.specs.Marks.{mark_got, code_or, IsCode}
use Prim.Native.Nat.{◌<◌}
use native.Mathlib.Omega.{arith}
use mathlib.Core.Path.{sym, ap, subst, ◌∙◌}
use Rattle.query_signs.proofs.reading.mark_sign.Goals as goal

pub returns-in_err-m : goal.returns-in_err-m
returns-in_err-m c =
    rw c.from_residual.ensures
    (record { got = mark_missing c.args.s.now c.args.at c.args.chain (ap (λ r. mark_got (code_or r)) (sym c.in_err-m.was) ∙ c.mark_at.ensures.reads); part = tt })

pub overflow_add-result : goal.overflow_add-result
overflow_add-result c = omega (arith, c.mark_size.ensures, mark_small c.in_ok-m.m)

pub returns : goal.returns
returns c =
    let some : 0 < c.in_ok-m.m = subst IsCode c.in_ok-m.was c.mark_at.ensures.some in
    record {
      got = mark_found c.args.s.now c.args.at c.args.chain c.in_ok-m.m c.mark_size.result
          (ap (λ r. mark_got (code_or r)) (sym c.in_ok-m.was) ∙ c.mark_at.ensures.reads) c.mark_size.ensures (λ z. omega arith);
      part = tt;
    }
