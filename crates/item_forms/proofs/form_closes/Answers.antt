-- `item_forms::form_closes` meets its contract.
use mathlib.Core.Bool.{false}
use mathlib.Core.Path.{sym, ap, ◌∙◌}
use Rattle.std.specs.Prelude.{ℕ, Option}
use Rattle.item_forms.specs.Ends.{ends_after}
use Rattle.item_forms.specs.Pieces.{after_end}
use Rattle.item_forms.proofs.form_closes.Goals as goal

pub returns-in_default : goal.returns-in_default
unfolding ends_after after_end
returns-in_default c =
    let a = c.args in
    ap (λ (r : Option ℕ). after_end r (λ e. ends_after a.closes a.s.now e) false) (sym c.in_default.is ∙ c.close_list.ensures)

pub returns : goal.returns
unfolding ends_after after_end
returns c =
    let a = c.args in
    c.form_ends.ensures ∙ ap (λ (r : Option ℕ). after_end r (λ e. ends_after a.closes a.s.now e) false)
    (sym c.in-Some.is ∙ c.close_list.ensures)
