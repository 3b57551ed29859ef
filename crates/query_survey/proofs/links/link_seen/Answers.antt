use mathlib.Core.Bool.{not, true}
use Rattle.model.specs.Choice.{pick}
use Rattle.query_survey.proofs.SeenLaws.{or_before, goes_is, comes_is}
use mathlib.Core.Path.{ap, ◌∙◌}
use Rattle.query_survey.proofs.links.link_seen.Goals as goal

pub returns : goal.returns
returns c =
    λ rest.
    let u = or_before (not c.label_known.result) c.args.t.undeclared
    ∙ ap (λ x. pick (not x) true c.args.t.undeclared) c.label_known.ensures in (
      goes_is _ _ c.args.t rest _ _ _ _ _ _ _ u c.link_twice.ensures c.vertices_left.ensures
          c.saturating_sub.ensures,
      comes_is _ _ c.args.t rest _ _ _ _ _ _ _ u c.link_twice.ensures
          c.vertices_left.ensures c.saturating_sub.ensures,
    )
