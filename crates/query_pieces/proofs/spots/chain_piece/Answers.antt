use Rattle.query_pieces.proofs.PartLaws.{step_stopped}
use Rattle.query_pieces.proofs.SpotLaws.{step_same, chain_link, no_link_law, chain_where, chain_match, chain_return, chain_none}
use mathlib.Core.Path.{sym, ap, subst, ◌∙◌}
use Rattle.query_signs.specs.Marks.{code_or, IsCode}
use native.Mathlib.Omega.{arith}
use Rattle.query_pieces.proofs.spots.chain_piece.Goals as goal

pub returns-in-Some : goal.returns-in-Some
returns-in-Some c =
    step_same _ _ c.args.s.now c.args.q c.link.result
    (chain_link c.args.s.now c.args.t c.args.q c.in-Some.arrow
    (ap code_or (sym c.in-Some.is) ∙ c.arrow_behind.ensures.reads) (λ z. let some = subst IsCode c.in-Some.is c.arrow_behind.ensures.some in omega arith)) c.link.ensures

pub returns-then-is_word : goal.returns-then-is_word
returns-then-is_word c =
    step_same _ _ c.args.s.now c.args.q c.condition.result
    (chain_where c.args.s.now c.args.t c.args.q (sym c.is_word.ensures ∙ c.if-is_word.true))
    c.condition.ensures

pub returns-then-is_word-2 : goal.returns-then-is_word-2
returns-then-is_word-2 c =
    step_same _ _ c.args.s.now c.args.q c.start.result
    (chain_match c.args.s.now c.args.t c.args.q (sym c.is_word-2.ensures ∙ c.if-is_word-2.true))
    c.start.ensures

pub returns-then-is_word-3 : goal.returns-then-is_word-3
returns-then-is_word-3 c =
    step_same _ _ c.args.s.now c.args.q c.returned.result
    (chain_return c.args.s.now c.args.t c.args.q (sym c.is_word-3.ensures ∙ c.if-is_word-3.true))
    c.returned.ensures

pub returns : goal.returns
returns c =
    let none = no_link_law c.args.s.now c.args.t c.args.q
    (sym c.arrow_behind.ensures.reads ∙ ap code_or c.in_default.is) in
    step_stopped (chain_none c.args.s.now c.args.t c.args.q none.0 none.1
    (sym c.is_word.ensures ∙ c.if-is_word.false) (sym c.is_word-2.ensures ∙ c.if-is_word-2.false)
    (sym c.is_word-3.ensures ∙ c.if-is_word-3.false))
