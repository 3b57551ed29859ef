-- `item_forms::entry` meets its contract.
use Rattle.std.specs.Prelude.{Some}
use Rattle.item_forms.proofs.ListLaws.{at_entry, entry_value_law}
use Rattle.item_forms.proofs.EndLaws.{ends_shut, entry_nowhere, entry_there, entry_past}
use Rattle.item_forms.proofs.PlacedLaws.{placed_at, name_placed, told_entry}
use Rattle.item_forms.specs.Pieces.{item_place}
use Rattle.item_forms.specs.Forms.{entry_named, entry_valued, entry_next, entry_after}
use native.Mathlib.Omega.{arith}
use mathlib.Core.Bool.{true}
use mathlib.Core.Path.{sym, ap, ◌∙◌}
use Rattle.item_forms.proofs.entry.Goals as goal

pub returns-in_err-i : goal.returns-in_err-i
unfolding entry_next entry_after
returns-in_err-i c = told_entry (c.from_residual.ensures ∙ ap (entry_after c.args.depth c.args.s.now) c.in_err-i.ensures)

pub returns-in_err-next-in-Item : goal.returns-in_err-next-in-Item
returns-in_err-next-in-Item c =
    let a = c.args in
    told_entry (c.from_residual-in_err-next-in-Item.ensures ∙ entry_nowhere a.depth a.s.now a.from c.in-Item.i
    (ap Some (sym c.in-Item.is) ∙ c.in_ok-i.ensures) c.in_err-next-in-Item.ensures)

pub returns-in_err-next_name-in-Item : goal.returns-in_err-next_name-in-Item
unfolding entry_named
returns-in_err-next_name-in-Item c =
    let a = c.args in
    told_entry (c.from_residual-in_err-next_name-in-Item.ensures ∙ at_entry a.depth a.s.now a.from c.in-Item.i
    (ap Some (sym c.in-Item.is) ∙ c.in_ok-i.ensures) _ (ap item_place c.in_err-next_name-in-Item.ensures))

pub returns-in_err-name-in-Item : goal.returns-in_err-name-in-Item
unfolding entry_named
returns-in_err-name-in-Item c =
    let a = c.args in
    told_entry (c.from_residual-in_err-name-in-Item.ensures ∙ at_entry a.depth a.s.now a.from c.in-Item.i
    (ap Some (sym c.in-Item.is) ∙ c.in_ok-i.ensures) _ (c.in_err-name-in-Item.ensures ∙ ap item_place c.in_ok-next_name-in-Item.ensures))

pub overflow_add-name : goal.overflow_add-name
overflow_add-name c =
    let a = c.args in
    omega (arith, placed_at a.s.now c.in-Item.i _ (sym (c.in_ok-name-in-Item.ensures ∙ ap item_place c.in_ok-next_name-in-Item.ensures)) (name_placed a.depth true a.s.now c.in-Item.i))

pub returns-in_err-value-in-Item : goal.returns-in_err-value-in-Item
unfolding entry_valued
returns-in_err-value-in-Item c =
    let a = c.args in
    told_entry (c.from_residual-in_err-value-in-Item.ensures ∙ entry_value_law a.depth a.s.now a.from c.in-Item.i
    (ap Some (sym c.in-Item.is) ∙ c.in_ok-i.ensures) _ (c.in_ok-name-in-Item.ensures ∙ ap item_place c.in_ok-next_name-in-Item.ensures) _ c.in_err-value-in-Item.ensures)

pub only_closes-requires : goal.only_closes-requires
only_closes-requires c =
    let a = c.args in
    (ends_shut a.depth true a.s.now c.in-Item.i c.in_ok-next-in-Item.next c.in_ok-next-in-Item.ensures).0

pub returns-then-only_closes : goal.returns-then-only_closes
returns-then-only_closes c =
    let a = c.args in
    told_entry (entry_there a.depth a.s.now a.from c.in-Item.i (ap Some (sym c.in-Item.is) ∙ c.in_ok-i.ensures) _ (c.in_ok-name-in-Item.ensures ∙ ap item_place c.in_ok-next_name-in-Item.ensures) _ _
    c.in_ok-value-in-Item.ensures c.in_ok-next-in-Item.next c.in_ok-next-in-Item.ensures (sym c.if-only_closes.true ∙ c.only_closes.ensures))

pub returns-else-only_closes : goal.returns-else-only_closes
returns-else-only_closes c =
    let a = c.args in
    told_entry (entry_past a.depth a.s.now a.from c.in-Item.i (ap Some (sym c.in-Item.is) ∙ c.in_ok-i.ensures) _ (c.in_ok-name-in-Item.ensures ∙ ap item_place c.in_ok-next_name-in-Item.ensures) _ _
    c.in_ok-value-in-Item.ensures c.in_ok-next-in-Item.next c.in_ok-next-in-Item.ensures (sym c.if-only_closes.false ∙ c.only_closes.ensures))

pub returns-in-Close : goal.returns-in-Close
unfolding entry_next entry_after
returns-in-Close c =
    told_entry (ap (entry_after c.args.depth c.args.s.now) (ap Some (sym c.in-Close.is) ∙ c.in_ok-i.ensures))
