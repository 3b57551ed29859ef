-- `item_forms::places::next_word` meets its contract.
use Rattle.item_forms.proofs.PieceTests.{word_of_law, no_word, at_word, word_within}
use Rattle.item_forms.proofs.PlacedLaws.{told_word}
use Rattle.item_forms.specs.Pieces.{item_place, after_end}
use native.Mathlib.Omega.{arith}
use mathlib.Core.Path.{ap, ◌∙◌}
use Rattle.item_forms.proofs.places.next_word.Goals as goal

pub returns-in_err-next : goal.returns-in_err-next
returns-in_err-next c =
    let a = c.args in
    told_word (c.from_residual.ensures ∙ no_word a.depth a.free a.s.now a.from (ap item_place c.in_err-next.ensures))

pub returns-in_err-p : goal.returns-in_err-p
returns-in_err-p c =
    let a = c.args in
    told_word (c.from_residual-in_err-p.ensures
    ∙ no_word a.depth a.free a.s.now a.from (c.in_err-p.ensures ∙ ap item_place c.in_ok-next.ensures))

pub returns-in_err-q : goal.returns-in_err-q
unfolding after_end
returns-in_err-q c =
    let a = c.args in
    told_word (c.from_residual-in_err-q.ensures ∙ at_word a.depth a.free a.s.now a.from c.in_ok-p.p
    (c.in_ok-p.ensures ∙ ap item_place c.in_ok-next.ensures) _
    (c.in_err-q.ensures ∙ word_of_law a.s.now c.in_ok-p.p a.depth))

pub overflow_sub-result : goal.overflow_sub-result
overflow_sub-result c =
    let a = c.args in
    omega (arith, word_within a.depth a.s.now c.in_ok-p.p c.in_ok-q.q (c.in_ok-q.ensures ∙ word_of_law a.s.now c.in_ok-p.p a.depth))

pub returns : goal.returns
unfolding after_end
returns c =
    let a = c.args in
    told_word (at_word a.depth a.free a.s.now a.from c.in_ok-p.p
    (c.in_ok-p.ensures ∙ ap item_place c.in_ok-next.ensures) _
    (c.in_ok-q.ensures ∙ word_of_law a.s.now c.in_ok-p.p a.depth))
