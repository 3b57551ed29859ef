-- `rules::forms::category_form` meets its contract. Assumes nothing.
use mathlib.Core.Path.{sym, ◌∙◌}
use native.Mathlib.Omega.{arith}
use Rattle.rules.proofs.FormLaws.{list_at_law, list_not, category_unnamed, category_no_actors, category_no_over, category_read, category_open}
use Rattle.rules.proofs.forms.category_form.Goals as goal

pub returns-in_err-name : goal.returns-in_err-name
returns-in_err-name c =
    let a = c.args in
    rw c.from_residual.ensures (category_unnamed a.s.now a.from c.in_err-name.ensures.is)

pub overflow_add-name : goal.overflow_add-name
overflow_add-name c =
    let a = c.args in
    omega (arith, c.well_formed, c.in_ok-name.ensures.placed.inside)

pub returns-in_err-a : goal.returns-in_err-a
returns-in_err-a c =
    let a = c.args in
    rw c.from_residual-in_err-a.ensures (category_no_actors a.s.now a.from c.in_ok-name.ensures.is
    (list_not _ _ _ _ c.in_err-a.was c.names_list.ensures))

pub returns-in_err-o : goal.returns-in_err-o
returns-in_err-o c =
    let a = c.args in
    rw c.from_residual-in_err-o.ensures (category_no_over a.s.now a.from c.in_ok-name.ensures.is
    (list_at_law _ _ _ _ c.in_ok-a.was c.names_list.ensures)
    (list_not _ _ _ _ c.in_err-o.was c.names_list-2.ensures))

pub returns-then-form_closes : goal.returns-then-form_closes
returns-then-form_closes c =
    let a = c.args in
    category_read a.s.now a.from c.in_ok-name.ensures.is
    (list_at_law _ _ _ _ c.in_ok-a.was c.names_list.ensures) (list_at_law _ _ _ _ c.in_ok-o.was c.names_list-2.ensures)
    c.in_ok-name.ensures.placed (sym c.form_closes.ensures ∙ c.if-form_closes.true)

pub returns : goal.returns
returns c =
    let a = c.args in
    category_open a.s.now a.from c.in_ok-name.ensures.is
    (list_at_law _ _ _ _ c.in_ok-a.was c.names_list.ensures) (list_at_law _ _ _ _ c.in_ok-o.was c.names_list-2.ensures)
    (sym c.form_closes.ensures ∙ c.if-form_closes.false)
