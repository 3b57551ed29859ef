-- One byte of the names: past the last node 0, else the node's own.
use Rattle.node_names.proofs.NameLaws.{past_names, name_byte_law}
use Rattle.node_names.proofs.byte_of.Goals as goal

pub returns-then-counts-node : goal.returns-then-counts-node
returns-then-counts-node c = past_names _ _ c.args.counts _ c.if-counts-node.true

pub returns : goal.returns
returns c =
    let a = c.args in
    name_byte_law _ _ a.k _ (c.node_name.ensures a.counts c.if-counts-node.false) c.byte_at.ensures
