-- `query_faults::walk::piece_passed` meets its contract. Assumes nothing.
use mathlib.Core.Path.{subst}
use Rattle.query_pieces.specs.Steps.{piece_of, PieceInside}
use Rattle.query_faults.proofs.BehindLaws.{behind_start, behind_linked, behind_asks, behind_return, behind_is}
use Rattle.query_faults.proofs.walk.piece_passed.Goals as goal

pub start_seen-r-requires : goal.start_seen-r-requires
start_seen-r-requires c =
    let inside = subst (PieceInside c.args.s.now) c.in-Start.is c.requires.3 in
    (c.requires.1, inside)

pub link_passed-requires : goal.link_passed-requires
link_passed-requires c =
    let inside = subst (PieceInside c.args.s.now) c.in-Linked.is c.requires.3 in
    (c.requires.0, c.requires.1, inside)

pub differ_seen-r-requires : goal.differ_seen-r-requires
differ_seen-r-requires c =
    let inside = subst (PieceInside c.args.s.now) c.in-Differ.is c.requires.3 in
    (c.requires.1, inside.0, inside.1)

pub demand_seen-r-requires : goal.demand_seen-r-requires
demand_seen-r-requires c =
    let inside = subst (PieceInside c.args.s.now) c.in-Asks.is c.requires.3 in
    (c.requires.0, c.requires.1, inside)

pub return_seen-r-requires : goal.return_seen-r-requires
return_seen-r-requires c =
    let inside = subst (PieceInside c.args.s.now) c.in-Returns.is c.requires.3 in
    (c.requires.1.vertex_names, c.requires.2, inside)

pub returns-in-Start : goal.returns-in-Start
unfolding piece_of
returns-in-Start c =
    behind_is _ _ _ _ _ _ _ _ _ _ c.in-Start.is
    (behind_start _ _ _ _ _ _ _ _ _ (c.start_seen-r.ensures _) (c.with_name.ensures _ c.requires.1.vertex_names)
    c.requires.1.edge_names c.requires.2)

pub returns-in-Linked : goal.returns-in-Linked
returns-in-Linked c =
    behind_is _ _ _ _ _ _ _ _ _ _ c.in-Linked.is (behind_linked _ _ _ _ _ _ _ _ _ (c.link_passed.ensures _ c.requires.2) _)

pub returns-in-Differ : goal.returns-in-Differ
unfolding piece_of
returns-in-Differ c =
    behind_is _ _ _ _ _ _ _ _ _ _ c.in-Differ.is
    (behind_asks _ _ _ _ _ _ _ _ _ (c.differ_seen-r.ensures _) c.requires.1.vertex_names c.requires.1.edge_names c.requires.2)

pub returns-in-Asks : goal.returns-in-Asks
unfolding piece_of
returns-in-Asks c =
    behind_is _ _ _ _ _ _ _ _ _ _ c.in-Asks.is
    (behind_asks _ _ _ _ _ _ _ _ _ c.demand_seen-r.ensures c.requires.1.vertex_names c.requires.1.edge_names c.requires.2)

pub returns-in-Returns : goal.returns-in-Returns
unfolding piece_of
returns-in-Returns c =
    behind_is _ _ _ _ _ _ _ _ _ _ c.in-Returns.is
    (behind_return _ _ _ _ _ _ _ _ _ (c.return_seen-r.ensures _) c.requires.1.vertex_names c.requires.1.edge_names
    (c.with_name-in-Returns.ensures _ c.requires.2))
