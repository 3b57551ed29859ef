use Rattle.query_signs.proofs.ExpectLaws.{relation_end, relation_met}
use Rattle.query_signs.specs.Expected.{RelationNext}
use mathlib.Core.Path.{sym, subst}
use Rattle.query_signs.proofs.expected.relation_next.Goals as goal

pub returns-in_err-t : goal.returns-in_err-t
returns-in_err-t c =
    rw c.from_residual.ensures
    (relation_end c.args.close c.args.s.now c.args.from c.next_sign.result
    c.next_sign.ensures c.in_err-t.was)

pub returns : goal.returns
returns c =
    subst (λ r. RelationNext c.args.close c.args.s.now c.args.from r)
    (sym c.relation_or.ensures)
    (relation_met c.args.close c.args.s.now c.args.from c.next_sign.result
    c.next_sign.ensures c.in_ok-t.t c.in_ok-t.q c.in_ok-t.was)
