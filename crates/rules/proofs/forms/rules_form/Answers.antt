-- `rules::forms::rules_form` meets its contract. Assumes nothing.
use mathlib.Core.Path.{sym, ◌∙◌}
use native.Mathlib.Omega.{arith}
use Rattle.rules.proofs.FormLaws.{unopened, wordless, of_category, of_policy_law, of_neither, form_moved}
use Rattle.rules.proofs.forms.rules_form.Goals as goal

pub returns-in_err-i : goal.returns-in_err-i
returns-in_err-i c =
    let a = c.args in
    rw c.from_residual.ensures (unopened a.s.now c.in_err-i.ensures)

pub returns-in_err-word : goal.returns-in_err-word
returns-in_err-word c =
    let a = c.args in
    rw c.from_residual-in_err-word.ensures (wordless a.s.now c.in_ok-i.ensures c.in_err-word.ensures.is)

pub part_of-first-requires : goal.part_of-first-requires
part_of-first-requires c =
    c.in_ok-word.ensures.placed.inside

pub overflow_add-end : goal.overflow_add-end
overflow_add-end c =
    let a = c.args in
    omega (arith, c.well_formed, c.in_ok-word.ensures.placed.inside)

pub returns-then-same_bytes : goal.returns-then-same_bytes
returns-then-same_bytes c =
    let a = c.args in
    form_moved a.s.now _ _ c.category_form.result
    (of_category a.s.now c.in_ok-i.ensures c.in_ok-word.ensures.is
    (sym (rw c.part_of-first.ensures at c.same_bytes.ensures) ∙ c.if-same_bytes.true)) c.category_form.ensures

pub returns-then-same_bytes-2 : goal.returns-then-same_bytes-2
returns-then-same_bytes-2 c =
    let a = c.args in
    form_moved a.s.now _ _ c.policy_form.result
    (of_policy_law a.s.now c.in_ok-i.ensures c.in_ok-word.ensures.is
    (sym (rw c.part_of-first.ensures at c.same_bytes.ensures) ∙ c.if-same_bytes.false)
    (sym (rw c.part_of-first.ensures at c.same_bytes-2.ensures) ∙ c.if-same_bytes-2.true)) c.policy_form.ensures

pub returns : goal.returns
returns c =
    let a = c.args in
    of_neither a.s.now c.in_ok-i.ensures c.in_ok-word.ensures.is
    (sym (rw c.part_of-first.ensures at c.same_bytes.ensures) ∙ c.if-same_bytes.false)
    (sym (rw c.part_of-first.ensures at c.same_bytes-2.ensures) ∙ c.if-same_bytes-2.false)
