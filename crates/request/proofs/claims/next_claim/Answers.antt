-- `request::claims::next_claim` meets its contract. Assumes nothing.
use mathlib.Core.Path.{sym, ap, subst, ◌∙◌}
use Rattle.request.specs.Claims.{claim_at, ClaimPlaced}
use Rattle.request.proofs.ClaimLaws.{claim_placed}
use Rattle.request.proofs.claims.next_claim.Goals as goal

pub returns : goal.returns
returns c = let a = c.args in let e = c.claim_at.ensures ∙ ap claim_at c.claim.ensures in
    record { is = e; placed = subst (ClaimPlaced a.s.now a.from) (sym e) (claim_placed a.s.now a.from) }
