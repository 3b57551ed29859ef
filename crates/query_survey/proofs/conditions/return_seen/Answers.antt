use mathlib.Core.Bool.{not, true}
use Rattle.model.specs.Choice.{pick}
use Rattle.query_survey.proofs.SeenLaws.{or_before, return_is}
use mathlib.Core.Path.{ap, ◌∙◌}
use Rattle.query_survey.proofs.conditions.return_seen.Goals as goal

pub returns : goal.returns
returns c =
    λ b rest. return_is b _ c.args.t rest _ _ _ _
    (or_before (not c.stands_before.result) c.args.t.undeclared ∙ ap (λ x. pick (not x) true c.args.t.undeclared)
    c.stands_before.ensures) c.seen_before.ensures c.saturating_sub.ensures
