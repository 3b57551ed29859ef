-- `request::claims::are_claims` meets its contract. Assumes nothing.
use Rattle.std.specs.Prelude.{Some}
use mathlib.Core.Path.{refl, sym, ap, ◌∙◌}
use native.Mathlib.Omega.{arith}
use Rattle.request.specs.Claims.{claim_at}
use Rattle.request.proofs.ClaimLaws.{claim_placed, placed_at, read_on, read_closed, read_broken, read_over}
use Rattle.request.proofs.claims.are_claims.Goals as goal

pub loop-i-init : goal.loop-i-init
loop-i-init c = refl

pub loop-i-smaller : goal.loop-i-smaller
loop-i-smaller c =
    let h = placed_at c.args.s.now c.loop-i.i _
    (ap claim_at (sym c.claim.ensures ∙ c.in-Some-Item.is ∙ ap Some c.in-Some-Item.field-0-is))
    (claim_placed c.args.s.now c.loop-i.i) in omega (arith, h.onward)

pub loop-i-preserved : goal.loop-i-preserved
loop-i-preserved c =
    read_on c.args.s.now c.loop-i.i (ap Some (sym c.in-Some-Item.field-0-is) ∙ sym c.in-Some-Item.is ∙ c.claim.ensures) ∙ c.loop-i.invariant

pub returns-in-Some-Close : goal.returns-in-Some-Close
returns-in-Some-Close c =
    c.form_ends.ensures ∙ read_closed c.args.s.now c.loop-i.i (ap Some (sym c.in-Some-Close.field-0-is) ∙ sym c.in-Some-Close.is ∙ c.claim.ensures)
    ∙ c.loop-i.invariant

pub returns-in-None : goal.returns-in-None
returns-in-None c =
    read_broken c.args.s.now c.loop-i.i (sym c.in-None.is ∙ c.claim.ensures) ∙ c.loop-i.invariant

pub returns : goal.returns
returns c = read_over c.args.s.now c.loop-i.i c.loop-i-test.false ∙ c.loop-i.invariant
