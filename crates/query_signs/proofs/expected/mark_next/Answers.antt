-- `query_signs::expected::mark_next` meets its contract.
use Rattle.query_signs.proofs.ExpectLaws.{mark_end}
use Rattle.query_signs.proofs.FrontLaws.{mark_other, mark_number, mark_next}
use Rattle.query_signs.proofs.SignLaws.{none_left, mark_small}
use Rattle.query_signs.specs.Marks.{mark_got, code_or}
use native.Mathlib.Omega.{arith}
use mathlib.Core.Path.{sym, ap, ◌∙◌}
use Rattle.query_signs.proofs.expected.mark_next.Goals as goal

pub returns-then-s-at : goal.returns-then-s-at
returns-then-s-at c =
    mark_end c.args.chain c.args.close c.args.s.now c.args.from c.args.code
    (none_left c.args.chain c.args.close c.args.s.now c.args.from c.blanks_end-at.result
    c.blanks_end-at.ensures c.if-s-at.true)

pub returns-in_err-found : goal.returns-in_err-found
returns-in_err-found c =
    rw c.from_residual.ensures
    (mark_other c.args.chain c.args.close c.args.s.now c.args.from c.blanks_end-at.result
    c.blanks_end-at.ensures c.if-s-at.false c.args.code 0
    (ap (λ r. mark_got (code_or r)) (sym c.in_err-found.was) ∙ c.mark_at.ensures.reads) (λ z. omega (arith, c.requires)))

pub returns-then-found-code : goal.returns-then-found-code
returns-then-found-code c =
    mark_other c.args.chain c.args.close c.args.s.now c.args.from c.blanks_end-at.result
    c.blanks_end-at.ensures c.if-s-at.false c.args.code c.in_ok-found.found
    (ap (λ r. mark_got (code_or r)) (sym c.in_ok-found.was) ∙ c.mark_at.ensures.reads) c.if-found-code.true

pub returns-then-starts_number : goal.returns-then-starts_number
returns-then-starts_number c =
    mark_number c.args.chain c.args.close c.args.s.now c.args.from c.blanks_end-at.result
    c.blanks_end-at.ensures c.if-s-at.false c.args.code (sym c.starts_number.ensures ∙ c.if-starts_number.true)

pub overflow_add-result : goal.overflow_add-result
overflow_add-result c = omega (arith, c.mark_size.ensures, mark_small c.args.code)

pub returns : goal.returns
returns c =
    mark_next c.args.chain c.args.close c.args.s.now c.args.from c.blanks_end-at.result
    c.blanks_end-at.ensures c.if-s-at.false c.args.code c.requires c.mark_size.result
    (ap mark_got (sym c.if-found-code.false) ∙ ap (λ r. mark_got (code_or r)) (sym c.in_ok-found.was) ∙ c.mark_at.ensures.reads)
    (sym c.starts_number.ensures ∙ c.if-starts_number.false) c.mark_size.ensures
