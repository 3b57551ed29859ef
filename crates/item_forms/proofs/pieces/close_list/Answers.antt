-- `item_forms::pieces::close_list` meets its contract.
use Rattle.std.specs.Prelude.{Some}
use Rattle.item_forms.specs.Pieces.{close_next, close_after}
use mathlib.Core.Path.{sym, ap, ◌∙◌}
use Rattle.item_forms.proofs.pieces.close_list.Goals as goal

pub returns-in_err-next : goal.returns-in_err-next
unfolding close_next close_after
returns-in_err-next c = c.from_residual.ensures ∙ ap close_after (sym c.in_err-next.was ∙ c.next.ensures)

pub returns-in-Item : goal.returns-in-Item
unfolding close_next close_after
returns-in-Item c = ap close_after (ap Some (sym c.in-Item.is) ∙ sym c.in_ok-next.was ∙ c.next.ensures)

pub returns-in-Close : goal.returns-in-Close
unfolding close_next close_after
returns-in-Close c = ap close_after (ap Some (sym c.in-Close.is) ∙ sym c.in_ok-next.was ∙ c.next.ensures)
