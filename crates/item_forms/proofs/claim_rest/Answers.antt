-- `item_forms::claim_rest` meets its contract.
use Rattle.item_forms.proofs.ListLaws.{at_node}
use Rattle.item_forms.proofs.EndLaws.{ends_shut, claim_nowhere, claim_there, claim_past}
use Rattle.item_forms.specs.Forms.{claim_rest, claim_actor, claim_node}
use native.Mathlib.Omega.{arith}
use mathlib.Core.Bool.{false}
use mathlib.Core.Path.{sym, ap, ◌∙◌}
use Rattle.item_forms.proofs.claim_rest.Goals as goal

pub returns-in_err-next : goal.returns-in_err-next
returns-in_err-next c = c.from_residual.ensures ∙ claim_nowhere c.args.depth c.args.s.now c.args.from c.in_err-next.ensures

pub returns-in_err-actor : goal.returns-in_err-actor
unfolding claim_rest claim_actor
returns-in_err-actor c = c.from_residual-in_err-actor.ensures ∙ ap (claim_actor c.args.depth c.args.s.now) c.in_err-actor.ensures.is

pub overflow_add-actor : goal.overflow_add-actor
overflow_add-actor c = omega (arith, c.in_ok-actor.ensures.placed)

pub returns-in_err-node : goal.returns-in_err-node
unfolding claim_node
returns-in_err-node c =
    let a = c.args in
    c.from_residual-in_err-node.ensures
    ∙ at_node a.depth a.s.now a.from _ c.in_ok-actor.ensures.is _ c.in_err-node.ensures.is

pub overflow_add-node : goal.overflow_add-node
overflow_add-node c = omega (arith, c.well_formed, c.in_ok-node.ensures.placed)

pub only_closes-requires : goal.only_closes-requires
only_closes-requires c =
    let a = c.args in
    (ends_shut a.depth false a.s.now a.from c.in_ok-next.next c.in_ok-next.ensures).0

pub returns-then-only_closes : goal.returns-then-only_closes
returns-then-only_closes c =
    let a = c.args in
    claim_there a.depth a.s.now a.from _ c.in_ok-actor.ensures.is _ c.in_ok-node.ensures.is c.in_ok-next.next
    c.in_ok-next.ensures (sym c.if-only_closes.true ∙ c.only_closes.ensures)

pub returns : goal.returns
returns c =
    let a = c.args in
    claim_past a.depth a.s.now a.from _ c.in_ok-actor.ensures.is _ c.in_ok-node.ensures.is c.in_ok-next.next
    c.in_ok-next.ensures (sym c.if-only_closes.false ∙ c.only_closes.ensures)
