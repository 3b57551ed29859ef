-- `query_faults::walk::link_passed` meets its contract. Assumes nothing.
use Rattle.query_faults.proofs.BehindLaws.{behind_link}
use Rattle.query_faults.proofs.walk.link_passed.Goals as goal

pub returns : goal.returns
returns c =
    λ returned h. behind_link _ _ _ _ _ _ _ _ _ _ _ c.link_seen-r.ensures (c.with_name.ensures _ c.requires.1.vertex_names)
    (c.with_name-2.ensures _ c.requires.1.edge_names) h
