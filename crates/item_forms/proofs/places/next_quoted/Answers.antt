-- `item_forms::places::next_quoted` meets its contract.
use Rattle.item_forms.proofs.PieceTests.{no_quoted, at_quoted, quoted_within}
use Rattle.item_forms.proofs.PlacedLaws.{told_quoted}
use Rattle.item_forms.specs.Pieces.{item_place, quoted_end, after_end}
use native.Mathlib.Omega.{arith}
use mathlib.Core.Bool.{false}
use mathlib.Core.Path.{ap, ◌∙◌}
use Rattle.item_forms.proofs.places.next_quoted.Goals as goal

pub returns-in_err-next : goal.returns-in_err-next
returns-in_err-next c =
    let a = c.args in
    told_quoted (c.from_residual.ensures ∙ no_quoted a.depth false a.s.now a.from (ap item_place c.in_err-next.ensures))

pub returns-in_err-p : goal.returns-in_err-p
returns-in_err-p c =
    let a = c.args in
    told_quoted (c.from_residual-in_err-p.ensures
    ∙ no_quoted a.depth false a.s.now a.from (c.in_err-p.ensures ∙ ap item_place c.in_ok-next.ensures))

pub returns-in_err-item : goal.returns-in_err-item
unfolding after_end
returns-in_err-item c =
    let a = c.args in
    told_quoted (c.from_residual-in_err-item.ensures ∙ at_quoted a.depth false a.s.now a.from c.in_ok-p.p
    (c.in_ok-p.ensures ∙ ap item_place c.in_ok-next.ensures) _ (ap quoted_end c.in_err-item.ensures))

pub returns-in_err-q : goal.returns-in_err-q
unfolding after_end
returns-in_err-q c =
    let a = c.args in
    told_quoted (c.from_residual-in_err-q.ensures ∙ at_quoted a.depth false a.s.now a.from c.in_ok-p.p
    (c.in_ok-p.ensures ∙ ap item_place c.in_ok-next.ensures) _ (c.in_err-q.ensures ∙ ap quoted_end c.in_ok-item.ensures))

pub overflow_add-result : goal.overflow_add-result
overflow_add-result c =
    omega (arith, quoted_within c.args.depth c.args.s.now c.in_ok-p.p c.in_ok-q.q (c.in_ok-q.ensures ∙ ap quoted_end c.in_ok-item.ensures))

pub overflow_sub-result : goal.overflow_sub-result
overflow_sub-result c =
    omega (arith, quoted_within c.args.depth c.args.s.now c.in_ok-p.p c.in_ok-q.q (c.in_ok-q.ensures ∙ ap quoted_end c.in_ok-item.ensures))

pub overflow_sub-result-2 : goal.overflow_sub-result-2
overflow_sub-result-2 c =
    omega (arith, quoted_within c.args.depth c.args.s.now c.in_ok-p.p c.in_ok-q.q (c.in_ok-q.ensures ∙ ap quoted_end c.in_ok-item.ensures))

pub returns : goal.returns
unfolding after_end
returns c =
    let a = c.args in
    told_quoted (at_quoted a.depth false a.s.now a.from c.in_ok-p.p
    (c.in_ok-p.ensures ∙ ap item_place c.in_ok-next.ensures) _ (c.in_ok-q.ensures ∙ ap quoted_end c.in_ok-item.ensures))
