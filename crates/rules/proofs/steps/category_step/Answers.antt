-- `rules::steps::category_step` meets its contract. Assumes nothing.
use mathlib.Core.Path.{sym, ap, ◌∙◌}
use Rattle.model.specs.Lines.{known}
use Rattle.rules.proofs.StepLaws.{step_fault, step_clear, step_known}
use Rattle.rules.proofs.steps.category_step.Goals as goal

pub returns-in-Some : goal.returns-in-Some
returns-in-Some c b x y ex ey = step_fault b _ _ _ _ (c.category_fault.ensures b x y ex ey) c.in-Some.is

pub add_category-requires : goal.add_category-requires
add_category-requires c = let g = c.requires in record {
  fits = g.fits;
  short = g.short;
  line = g.line;
  places = g.places;
  actors = g.actors;
  over = g.over;
  actors_are = g.actors_are;
  over_are = g.over_are;
  clear = λ b. step_clear b _ _ _ (c.category_fault.ensures b g.actors g.over g.actors_are g.over_are) c.in_default.is;
}

pub returns : goal.returns
returns c b x y ex ey =
    let e = c.category_fault.ensures b x y ex ey in
    let d = c.add_category.ensures in
    (step_known b _ _ (step_clear b _ _ _ e c.in_default.is) ∙ ap known (sym (d.is x y ex ey)), d.fits)
