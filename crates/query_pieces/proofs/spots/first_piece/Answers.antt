use Rattle.query_pieces.proofs.PartLaws.{step_stopped}
use Rattle.query_pieces.proofs.SpotLaws.{step_same, first_match, first_none}
use mathlib.Core.Path.{sym, ◌∙◌}
use Rattle.query_pieces.proofs.spots.first_piece.Goals as goal

pub returns-then-is_word : goal.returns-then-is_word
returns-then-is_word c =
    step_same _ _ c.args.s.now c.args.q c.start.result
    (first_match c.args.s.now c.args.t c.args.q (sym c.is_word.ensures ∙ c.if-is_word.true))
    c.start.ensures

pub returns : goal.returns
returns c =
    step_stopped (first_none c.args.s.now c.args.t c.args.q (sym c.is_word.ensures ∙ c.if-is_word.false))
