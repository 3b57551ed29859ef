-- `item_forms::places::next_name` meets its contract.
use mathlib.Core.Path.{ap, ◌∙◌}
use Rattle.item_forms.specs.Pieces.{item_place}
use Rattle.item_forms.proofs.PlacedLaws.{told_name}
use Rattle.item_forms.proofs.places.next_name.Goals as goal

pub returns-in_err-next_name : goal.returns-in_err-next_name
returns-in_err-next_name c = told_name (c.from_residual.ensures ∙ ap item_place c.in_err-next_name.ensures)

pub returns : goal.returns
returns c = told_name (c.item.ensures ∙ ap item_place c.in_ok-next_name.ensures)
