-- `rules::steps::policy_step` meets its contract. Assumes nothing.
use mathlib.Core.Path.{sym, ◌∙◌}
use Rattle.rules.proofs.StepLaws.{number_fault, text_known}
use Rattle.rules.proofs.steps.policy_step.Goals as goal

pub returns-then-own-ne0 : goal.returns-then-own-ne0
returns-then-own-ne0 c b e = number_fault b _ _ _ (c.policy_fault-own.ensures b e) c.if-own-ne0.true

pub add_policy-requires : goal.add_policy-requires
add_policy-requires c = let g = c.requires in record {
  fits = g.fits;
  short = g.short;
  line = g.line;
  places = g.places;
  inside = g.inside;
  book = g.book;
  clear = sym (c.policy_fault-own.ensures g.book g.is) ∙ c.if-own-ne0.false;
}

pub returns : goal.returns
returns c b e =
    let d = c.add_policy.ensures in
    (text_known b _ _ _ _ (sym (c.policy_fault-own.ensures b e) ∙ c.if-own-ne0.false) d.is, d.fits)
