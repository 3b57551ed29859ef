-- `rules::load::form_step` meets its contract. Assumes nothing.
use mathlib.Core.Path.{ap, ◌∙◌}
use Rattle.std.specs.Prelude.{Some}
use Rattle.rules.proofs.LoadLaws.{of_category, of_policy_law, of_none}
use Rattle.rules.proofs.load.form_step.Goals as goal

pub category_step-requires : goal.category_step-requires
category_step-requires c =
    let g = c.requires in
    let f = of_category _ _ _ c.rules_form.ensures _ _ _ (c.in-Some-Category.is ∙ ap Some c.in-Some-Category.field-0-is) in
    record {
      fits = g.fits;
      short = g.short;
      line = g.line;
      places = f.places;
      actors = f.actors;
      over = f.over;
      actors_are = f.actors_are;
      over_are = f.over_are;
    }

pub part_of-requires : goal.part_of-requires
part_of-requires c =
    (of_policy_law _ _ _ c.rules_form.ensures _ _ (c.in-Some-Policy.is ∙ ap Some c.in-Some-Policy.field-0-is)).inside

pub fault_of-fault-requires : goal.fault_of-fault-requires
fault_of-fault-requires c =
    c.requires.book_fits

pub policy_step-requires : goal.policy_step-requires
policy_step-requires c =
    let g = c.requires in
    let f = of_policy_law _ _ _ c.rules_form.ensures _ _ (c.in-Some-Policy.is ∙ ap Some c.in-Some-Policy.field-0-is) in
    record {
      fits = g.fits;
      short = g.short;
      line = g.line;
      places = f.places;
      inside = f.inside;
      book = _;
      is = rw c.part_of.ensures at c.fault_of-fault.ensures;
    }

pub returns-in-Some-Category : goal.returns-in-Some-Category
returns-in-Some-Category c =
    let f = of_category _ _ _ c.rules_form.ensures _ _ _ (c.in-Some-Category.is ∙ ap Some c.in-Some-Category.field-0-is) in
    rw f.is (c.category_step.ensures _ f.actors f.over f.actors_are f.over_are)

pub returns-in-Some-Policy : goal.returns-in-Some-Policy
returns-in-Some-Policy c =
    let f = of_policy_law _ _ _ c.rules_form.ensures _ _ (c.in-Some-Policy.is ∙ ap Some c.in-Some-Policy.field-0-is) in
    rw f.is (c.policy_step.ensures _ (rw c.part_of.ensures at c.fault_of-fault.ensures))

pub returns-in-None : goal.returns-in-None
returns-in-None c = of_none _ _ _ c.rules_form.ensures _ _ c.in-None.is
