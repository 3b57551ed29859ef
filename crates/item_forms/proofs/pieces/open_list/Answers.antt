-- `item_forms::pieces::open_list` meets its contract.
use Rattle.std.specs.Prelude.{Some}
use Rattle.item_forms.proofs.PieceTests.{open_yes, open_no}
use Rattle.item_forms.specs.Pieces.{open_next, open_after}
use Rattle.text.proofs.PlaceLaws.{peek_in}
use native.Mathlib.Omega.{arith}
use mathlib.Core.Path.{sym, ap, ◌∙◌}
use Rattle.item_forms.proofs.pieces.open_list.Goals as goal

pub overflow_add-result : goal.overflow_add-result
overflow_add-result c =
    omega (arith, peek_in c.args.s.now c.in-Item.p (omega (arith, c.peek.ensures, c.if-peek-eq-OPENING_BRACKET.true)))

pub returns-then-peek-eq-OPENING_BRACKET : goal.returns-then-peek-eq-OPENING_BRACKET
unfolding open_next
returns-then-peek-eq-OPENING_BRACKET c =
    open_yes c.args.s.now c.in-Item.p (sym c.peek.ensures ∙ c.if-peek-eq-OPENING_BRACKET.true)
    ∙ ap (open_after c.args.s.now) (ap Some (sym c.in-Item.is) ∙ c.in_ok-p.ensures)

pub returns-else-peek-eq-OPENING_BRACKET : goal.returns-else-peek-eq-OPENING_BRACKET
unfolding open_next
returns-else-peek-eq-OPENING_BRACKET c =
    open_no c.args.s.now c.in-Item.p (λ h. c.if-peek-eq-OPENING_BRACKET.false (c.peek.ensures ∙ h))
    ∙ ap (open_after c.args.s.now) (ap Some (sym c.in-Item.is) ∙ c.in_ok-p.ensures)

pub returns-in-Close : goal.returns-in-Close
unfolding open_next open_after
returns-in-Close c = ap (open_after c.args.s.now) (ap Some (sym c.in-Close.is) ∙ c.in_ok-p.ensures)

pub returns-in_err-p : goal.returns-in_err-p
unfolding open_next open_after
returns-in_err-p c = c.from_residual.ensures ∙ ap (open_after c.args.s.now) c.in_err-p.ensures
