use Rattle.query_pieces.proofs.PartLaws.{step_stopped}
use Rattle.query_pieces.proofs.SpotLaws.{step_same, where_and, where_match, where_return, where_none}
use mathlib.Core.Path.{sym, ◌∙◌}
use Rattle.query_pieces.proofs.spots.where_piece.Goals as goal

pub returns-then-is_word : goal.returns-then-is_word
returns-then-is_word c =
    step_same _ _ c.args.s.now c.args.q c.condition.result
    (where_and c.args.s.now c.args.t c.args.q (sym c.is_word.ensures ∙ c.if-is_word.true))
    c.condition.ensures

pub returns-then-is_word-2 : goal.returns-then-is_word-2
returns-then-is_word-2 c =
    step_same _ _ c.args.s.now c.args.q c.start.result
    (where_match c.args.s.now c.args.t c.args.q (sym c.is_word-2.ensures ∙ c.if-is_word-2.true))
    c.start.ensures

pub returns-then-is_word-3 : goal.returns-then-is_word-3
returns-then-is_word-3 c =
    step_same _ _ c.args.s.now c.args.q c.returned.result
    (where_return c.args.s.now c.args.t c.args.q (sym c.is_word-3.ensures ∙ c.if-is_word-3.true))
    c.returned.ensures

pub returns : goal.returns
returns c =
    step_stopped (where_none c.args.s.now c.args.t c.args.q (sym c.is_word.ensures ∙ c.if-is_word.false)
    (sym c.is_word-2.ensures ∙ c.if-is_word-2.false) (sym c.is_word-3.ensures ∙ c.if-is_word-3.false))
