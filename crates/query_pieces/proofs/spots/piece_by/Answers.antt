use Rattle.query_pieces.proofs.SpotLaws.{step_same, by_spot}
use Rattle.query_pieces.proofs.spots.piece_by.Goals as goal

pub returns-in-AtStart : goal.returns-in-AtStart
returns-in-AtStart c =
    step_same _ _ c.args.s.now c.args.q c.first_piece.result
    (by_spot c.args.s.now c.args.t c.args.q c.in-AtStart.is) c.first_piece.ensures

pub returns-in-InChain : goal.returns-in-InChain
returns-in-InChain c =
    step_same _ _ c.args.s.now c.args.q c.chain_piece.result
    (by_spot c.args.s.now c.args.t c.args.q c.in-InChain.is) c.chain_piece.ensures

pub returns-in-InWhere : goal.returns-in-InWhere
returns-in-InWhere c =
    step_same _ _ c.args.s.now c.args.q c.where_piece.result
    (by_spot c.args.s.now c.args.t c.args.q c.in-InWhere.is) c.where_piece.ensures

pub returns-in-InReturn : goal.returns-in-InReturn
returns-in-InReturn c =
    step_same _ _ c.args.s.now c.args.q c.return_piece.result
    (by_spot c.args.s.now c.args.t c.args.q c.in-InReturn.is) c.return_piece.ensures
