use mathlib.Core.Bool.{true}
use Rattle.model.specs.Choice.{pick}
use Rattle.query_survey.proofs.SeenLaws.{or_before, differ_is}
use mathlib.Core.Path.{ap, ◌∙◌}
use Rattle.query_survey.proofs.conditions.differ_seen.Goals as goal

pub returns : goal.returns
returns c =
    λ b rest. differ_is b _ c.args.t rest _ _ _ _ _
    (or_before c.is_unknown_pair.result c.args.t.undeclared ∙ ap (λ x. pick x true c.args.t.undeclared) c.is_unknown_pair.ensures)
    (or_before c.same_part.result c.args.t.itself ∙ ap (λ x. pick x true c.args.t.itself) c.same_part.ensures) c.saturating_sub.ensures
