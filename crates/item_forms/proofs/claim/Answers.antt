-- `item_forms::claim` meets its contract.
use Rattle.std.specs.Prelude.{Some, option_map}
use Rattle.items.specs.declared.Next.TheVariants.{Item}
use Rattle.items.proofs.ReadLaws.{mapped}
use Rattle.item_forms.proofs.ListLaws.{at_claim, claim_yes, claim_no}
use Rattle.item_forms.specs.Forms.{claim_head, claim_after, claim_next}
use native.Mathlib.Omega.{arith}
use mathlib.Core.Path.{sym, ap, ◌∙◌}
use Rattle.item_forms.proofs.claim.Goals as goal

pub returns-in_err-i : goal.returns-in_err-i
unfolding claim_next claim_after
returns-in_err-i c = c.from_residual.ensures ∙ ap (claim_after c.args.depth c.args.s.now) c.in_err-i.ensures

pub returns-in_err-word-in-Item : goal.returns-in_err-word-in-Item
unfolding claim_head
returns-in_err-word-in-Item c =
    let a = c.args in
    c.from_residual-in_err-word-in-Item.ensures ∙ at_claim a.depth a.s.now a.from c.in-Item.i
    (ap Some (sym c.in-Item.is) ∙ c.in_ok-i.ensures) _ c.in_err-word-in-Item.ensures.is

pub part_of-requires : goal.part_of-requires
part_of-requires c = c.in_ok-word-in-Item.ensures.placed.inside

pub overflow_add-word : goal.overflow_add-word
overflow_add-word c = omega (arith, c.in_ok-word-in-Item.ensures.placed)

pub returns-then-same_bytes : goal.returns-then-same_bytes
returns-then-same_bytes c =
    let a = c.args in
    mapped _ _ _ c.map.ensures.cases ∙ ap (option_map Item) c.claim_rest.ensures ∙ claim_yes a.depth a.s.now c.in_ok-word-in-Item.word
    (sym (rw c.part_of.ensures at c.same_bytes.ensures) ∙ c.if-same_bytes.true)
    ∙ at_claim a.depth a.s.now a.from c.in-Item.i (ap Some (sym c.in-Item.is) ∙ c.in_ok-i.ensures) _ c.in_ok-word-in-Item.ensures.is

pub returns-else-same_bytes : goal.returns-else-same_bytes
returns-else-same_bytes c =
    let a = c.args in
    claim_no a.depth a.s.now c.in_ok-word-in-Item.word (sym (rw c.part_of.ensures at c.same_bytes.ensures) ∙ c.if-same_bytes.false)
    ∙ at_claim a.depth a.s.now a.from c.in-Item.i (ap Some (sym c.in-Item.is) ∙ c.in_ok-i.ensures) _ c.in_ok-word-in-Item.ensures.is

pub returns-in-Close : goal.returns-in-Close
unfolding claim_next claim_after
returns-in-Close c = ap (claim_after c.args.depth c.args.s.now) (ap Some (sym c.in-Close.is) ∙ c.in_ok-i.ensures)
