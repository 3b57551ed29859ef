-- `name_lists::places::headed` meets its contract.
use native.Mathlib.Omega.{arith}
use mathlib.Core.Path.{sym, ap, ◌∙◌}
use Rattle.item_forms.specs.Pieces.{item_place}
use Rattle.name_lists.proofs.Heads.{headed_none, headed_no_word, headed_is, headed_other}
use Rattle.name_lists.proofs.places.headed.Goals as goal

pub returns-in_err-open_list : goal.returns-in_err-open_list
returns-in_err-open_list c =
    c.from_residual.ensures ∙ headed_none c.args.head.now c.args.s.now c.args.from (ap item_place c.in_err-open_list.ensures)

pub returns-in_err-i : goal.returns-in_err-i
returns-in_err-i c =
    let a = c.args in
    c.from_residual-in_err-i.ensures
    ∙ headed_none a.head.now a.s.now a.from (c.in_err-i.ensures ∙ ap item_place c.in_ok-open_list.ensures)

pub returns-in_err-word : goal.returns-in_err-word
returns-in_err-word c =
    let a = c.args in
    c.from_residual-in_err-word.ensures ∙ headed_no_word a.head.now a.s.now a.from _
    (c.in_ok-i.ensures ∙ ap item_place c.in_ok-open_list.ensures)
    (c.in_err-word.ensures.is)

pub part_of-requires : goal.part_of-requires
part_of-requires c =
    c.in_ok-word.ensures.placed.inside

pub overflow_add-result : goal.overflow_add-result
overflow_add-result c =
    let a = c.args in
    omega (arith, c.well_formed, c.in_ok-word.ensures.placed.inside)

pub returns-then-same_bytes : goal.returns-then-same_bytes
returns-then-same_bytes c =
    let a = c.args in
    headed_is a.head.now a.s.now a.from _
    (c.in_ok-i.ensures ∙ ap item_place c.in_ok-open_list.ensures)
    (c.in_ok-word.ensures.is)
    (sym (rw c.part_of.ensures at c.same_bytes.ensures) ∙ c.if-same_bytes.true)

pub returns : goal.returns
returns c =
    let a = c.args in
    headed_other a.head.now a.s.now a.from _
    (c.in_ok-i.ensures ∙ ap item_place c.in_ok-open_list.ensures)
    (c.in_ok-word.ensures.is)
    (sym (rw c.part_of.ensures at c.same_bytes.ensures) ∙ c.if-same_bytes.false)
