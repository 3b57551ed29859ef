use Rattle.query_survey.proofs.SeenLaws.{start_is}
use Rattle.query_survey.proofs.links.start_seen.Goals as goal

pub seen_before-requires : goal.seen_before-requires
seen_before-requires c = (c.requires.0.edge_names, c.requires.1)

pub vertices_left-requires : goal.vertices_left-requires
vertices_left-requires c = (c.requires.0.vertex_names, c.requires.1)

pub returns : goal.returns
returns c = λ b rest. start_is b _ c.args.t rest _ _ _ c.seen_before.ensures c.vertices_left.ensures
