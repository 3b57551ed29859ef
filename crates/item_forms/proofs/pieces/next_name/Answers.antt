-- `item_forms::pieces::next_name` meets its contract.
use Rattle.std.specs.Prelude.{Some}
use Rattle.item_forms.proofs.PieceTests.{word_of_law, at_name, name_yes, name_no, word_within}
use Rattle.item_forms.specs.Pieces.{after_end, name_piece, name_next, name_after}
use native.Mathlib.Omega.{arith}
use mathlib.Core.Path.{sym, ap, ◌∙◌}
use Rattle.item_forms.proofs.pieces.next_name.Goals as goal

pub returns-in_err-q-in-Item : goal.returns-in_err-q-in-Item
unfolding after_end name_piece
returns-in_err-q-in-Item c =
    let a = c.args in
    c.from_residual-in_err-q-in-Item.ensures ∙ at_name a.depth a.free a.s.now a.from c.in-Item.p (ap Some (sym c.in-Item.is) ∙ c.in_ok-p.ensures) _
    (c.in_err-q-in-Item.ensures ∙ word_of_law a.s.now c.in-Item.p a.depth)

pub overflow_sub-name : goal.overflow_sub-name
overflow_sub-name c =
    let a = c.args in
    let z = c.in_ok-q-in-Item.ensures ∙ word_of_law a.s.now c.in-Item.p a.depth in
    omega (arith, word_within a.depth a.s.now c.in-Item.p c.in_ok-q-in-Item.q z)

pub part_of-requires : goal.part_of-requires
part_of-requires c =
    let a = c.args in
    let z = c.in_ok-q-in-Item.ensures ∙ word_of_law a.s.now c.in-Item.p a.depth in
    omega (arith, word_within a.depth a.s.now c.in-Item.p c.in_ok-q-in-Item.q z)

pub returns-then-is_name : goal.returns-then-is_name
unfolding after_end
returns-then-is_name c =
    let a = c.args in
    name_yes a.s.now _ (sym (rw c.part_of.ensures at c.is_name.ensures) ∙ c.if-is_name.true)
    ∙ at_name a.depth a.free a.s.now a.from c.in-Item.p (ap Some (sym c.in-Item.is) ∙ c.in_ok-p.ensures) _
    (c.in_ok-q-in-Item.ensures ∙ word_of_law a.s.now c.in-Item.p a.depth)

pub returns-else-is_name : goal.returns-else-is_name
unfolding after_end
returns-else-is_name c =
    let a = c.args in
    name_no a.s.now _ (sym (rw c.part_of.ensures at c.is_name.ensures) ∙ c.if-is_name.false)
    ∙ at_name a.depth a.free a.s.now a.from c.in-Item.p (ap Some (sym c.in-Item.is) ∙ c.in_ok-p.ensures) _
    (c.in_ok-q-in-Item.ensures ∙ word_of_law a.s.now c.in-Item.p a.depth)

pub returns-in-Close : goal.returns-in-Close
unfolding name_next name_after
returns-in-Close c =
    let a = c.args in
    ap (name_after a.depth a.s.now) (ap Some (sym c.in-Close.is) ∙ c.in_ok-p.ensures)

pub returns-in_err-p : goal.returns-in_err-p
unfolding name_next name_after
returns-in_err-p c = c.from_residual.ensures ∙ ap (name_after c.args.depth c.args.s.now) c.in_err-p.ensures
