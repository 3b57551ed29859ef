use Rattle.std.specs.Prelude.{ℕ, Option}
use Rattle.query_signs.specs.declared.Sign.{Sign}
use Rattle.query_signs.proofs.PlacedLaws.{next_found}
use Rattle.query_signs.proofs.SignLaws.{none_left, sign_none, sign_close}
use Rattle.query_signs.specs.Reads.{got_of, ReadPartAt, first_of}
use mathlib.Core.Path.{sym, ap, ◌∙◌, subst}
use Rattle.query_signs.proofs.reading.next_sign.Goals as goal

pub returns-then-s-at : goal.returns-then-s-at
unfolding first_of
returns-then-s-at c =
    record {
      reads = none_left c.args.chain c.args.close c.args.s.now c.args.from c.blanks_end-at.result
          c.blanks_end-at.ensures c.if-s-at.true;
      moves = tt;
      inside = tt;
      stands = λ o. tt;
    }

pub returns-in_err-t : goal.returns-in_err-t
unfolding first_of
returns-in_err-t c =
    rw c.from_residual.ensures
    (record {
      reads = sign_none c.args.chain c.args.close c.args.s.now c.args.from
          c.blanks_end-at.result c.blanks_end-at.ensures c.if-s-at.false
          (ap (got_of c.args.s.now c.blanks_end-at.result) (sym c.in_err-t.was) ∙ c.sign_at.ensures.got);
      moves = tt;
      inside = tt;
      stands = λ o. tt;
    })

pub returns-then-adjoins : goal.returns-then-adjoins
unfolding first_of
returns-then-adjoins c =
    record {
      reads = sign_close c.args.chain c.args.close c.args.s.now c.args.from
          c.blanks_end-at.result c.blanks_end-at.ensures c.if-s-at.false c.in_ok-t.t c.in_ok-t.q
          (ap (got_of c.args.s.now c.blanks_end-at.result) (sym c.in_ok-t.was) ∙ c.sign_at.ensures.got)
          (sym c.adjoins.ensures ∙ c.if-adjoins.true);
      moves = tt;
      inside = tt;
      stands = λ o. tt;
    }

pub returns : goal.returns
returns c =
    next_found c.args.chain c.args.close c.args.s.now c.args.from c.blanks_end-at.result
    c.blanks_end-at.ensures c.if-s-at.false c.in_ok-t.t c.in_ok-t.q
    (ap (got_of c.args.s.now c.blanks_end-at.result) (sym c.in_ok-t.was) ∙ c.sign_at.ensures.got)
    (sym c.adjoins.ensures ∙ c.if-adjoins.false)
    (subst (λ (r : Option (Sign × ℕ)). ReadPartAt c.args.s.now c.blanks_end-at.result r) c.in_ok-t.was
    c.sign_at.ensures.part)
