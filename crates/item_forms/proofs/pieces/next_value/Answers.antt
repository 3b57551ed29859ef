-- `item_forms::pieces::next_value` meets its contract.
use Rattle.item_forms.proofs.PieceTests.{no_value, at_value}
use Rattle.item_forms.specs.Pieces.{item_place}
use mathlib.Core.Path.{ap, ◌∙◌}
use Rattle.item_forms.proofs.pieces.next_value.Goals as goal

pub returns-in_err-next : goal.returns-in_err-next
returns-in_err-next c =
    let a = c.args in
    c.from_residual.ensures ∙ no_value a.depth a.free a.s.now a.from (ap item_place c.in_err-next.ensures)

pub returns-in_err-p : goal.returns-in_err-p
returns-in_err-p c =
    let a = c.args in
    c.from_residual-in_err-p.ensures ∙ no_value a.depth a.free a.s.now a.from (c.in_err-p.ensures ∙ ap item_place c.in_ok-next.ensures)

pub returns : goal.returns
returns c =
    let a = c.args in
    c.value.ensures ∙ at_value a.depth a.free a.s.now a.from c.in_ok-p.p (c.in_ok-p.ensures ∙ ap item_place c.in_ok-next.ensures)
