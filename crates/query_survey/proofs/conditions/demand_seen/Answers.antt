use Rattle.query_survey.proofs.SeenLaws.{or_before, demand_is}
use Rattle.query_survey.proofs.conditions.demand_seen.Goals as goal

pub returns : goal.returns
returns c =
    λ rest.
    let vertex = c.stands_before-vertex.ensures in
    let edge = c.stands_before-edge.ensures in
    let of_vertex = c.attr_seen-of_vertex.ensures in
    let of_edge = c.attr_seen-of_edge.ensures in
    demand_is _ _ c.args.t rest _ _ _ _ _ _ _
    (rw (← vertex, ← edge, ← of_vertex.known, ← of_edge.known, ← c.neither.ensures) (or_before c.neither.result c.args.t.undeclared))
    (rw (← vertex, ← edge, ← of_vertex.typed, ← of_edge.typed, ← c.neither-2.ensures) (or_before c.neither-2.result c.args.t.mistyped))
    c.saturating_sub.ensures
