-- `book_lines::forms::read_attr` meets its contract.
use Rattle.book_lines.proofs.LineLaws.{attr_nameless, attr_kindless, attr_ends}
use Rattle.item_forms.proofs.PlacedLaws.{placed_at}
use Rattle.book_lines.specs.Forms.{on_attr}
use native.Mathlib.Omega.{arith}
use mathlib.Core.Path.{◌∙◌}
use Rattle.book_lines.proofs.forms.read_attr.Goals as goal

pub overflow_add-name : goal.overflow_add-name
overflow_add-name c =
    let a = c.args in
    omega (arith, c.well_formed, (placed_at a.line.now a.from _ c.in_ok-name.was c.next_name.ensures.placed).inside)

pub returns-then-form_closes-clause-form : goal.returns-then-form_closes-clause-form
unfolding on_attr
returns-then-form_closes-clause-form c make =
    let a = c.args in
    attr_ends _ a.line.now a.from make _ c.next_name.ensures _ c.in_ok-name.was _ c.next_kind.ensures _ _ c.in_ok-kind.was _
    c.form_closes.ensures ∙ rw c.if-form_closes.true

pub returns-clause-form : goal.returns-clause-form
unfolding on_attr
returns-clause-form c make =
    let a = c.args in
    attr_ends _ a.line.now a.from make _ c.next_name.ensures _ c.in_ok-name.was _ c.next_kind.ensures _ _ c.in_ok-kind.was _
    c.form_closes.ensures ∙ rw c.if-form_closes.false

pub returns-in_err-kind-clause-form : goal.returns-in_err-kind-clause-form
unfolding on_attr
returns-in_err-kind-clause-form c make =
    let a = c.args in
    rw c.from_residual-in_err-kind.ensures
    (attr_kindless _ a.line.now a.from make _ c.next_name.ensures _ c.in_ok-name.was _ c.next_kind.ensures c.in_err-kind.was)

pub returns-in_err-name-clause-form : goal.returns-in_err-name-clause-form
unfolding on_attr
returns-in_err-name-clause-form c make =
    rw c.from_residual.ensures (attr_nameless _ c.args.line.now c.args.from make _ c.next_name.ensures c.in_err-name.was)
