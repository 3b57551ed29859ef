-- `rules::forms::policy_form` meets its contract. Assumes nothing.
use mathlib.Core.Path.{sym, ◌∙◌}
use native.Mathlib.Omega.{arith}
use Rattle.rules.proofs.FormLaws.{policy_unnamed, policy_no_text, policy_read, policy_open}
use Rattle.rules.proofs.forms.policy_form.Goals as goal

pub returns-in_err-name : goal.returns-in_err-name
returns-in_err-name c =
    let a = c.args in
    rw c.from_residual.ensures (policy_unnamed a.s.now a.from c.in_err-name.ensures.is)

pub overflow_add-name : goal.overflow_add-name
overflow_add-name c =
    let a = c.args in
    omega (arith, c.well_formed, c.in_ok-name.ensures.placed.inside)

pub returns-in_err-query : goal.returns-in_err-query
returns-in_err-query c =
    let a = c.args in
    rw c.from_residual-in_err-query.ensures (policy_no_text a.s.now a.from c.in_ok-name.ensures.is c.in_err-query.ensures.is)

pub overflow_add-query : goal.overflow_add-query
overflow_add-query c =
    let a = c.args in
    omega (arith, c.well_formed, c.in_ok-query.ensures.placed)

pub overflow_add-query-2 : goal.overflow_add-query-2
overflow_add-query-2 c =
    let a = c.args in
    omega (arith, c.well_formed, c.in_ok-query.ensures.placed)

pub returns-then-form_closes : goal.returns-then-form_closes
returns-then-form_closes c =
    let a = c.args in
    policy_read a.s.now a.from c.in_ok-name.ensures.is
    c.in_ok-query.ensures.is
    c.in_ok-name.ensures.placed
    c.in_ok-query.ensures.placed (sym c.form_closes.ensures ∙ c.if-form_closes.true)

pub returns : goal.returns
returns c =
    let a = c.args in
    policy_open a.s.now a.from c.in_ok-name.ensures.is
    c.in_ok-query.ensures.is (sym c.form_closes.ensures ∙ c.if-form_closes.false)
