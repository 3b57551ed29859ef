-- `request::forms::request_form` meets its contract. Assumes nothing.
use mathlib.Core.Path.{sym, ◌∙◌}
use native.Mathlib.Omega.{arith}
use Rattle.request.proofs.FormLaws.{unopened, wordless, of_other_law, unnamed, unclaimed, line_read}
use Rattle.request.proofs.forms.request_form.Goals as goal

pub returns-in_err-i : goal.returns-in_err-i
returns-in_err-i c =
    let a = c.args in
    rw c.from_residual.ensures (unopened a.s.now c.in_err-i.ensures)

pub returns-in_err-word : goal.returns-in_err-word
returns-in_err-word c =
    let a = c.args in
    rw c.from_residual-in_err-word.ensures (wordless a.s.now c.in_ok-i.ensures c.in_err-word.ensures.is)

pub part_of-requires : goal.part_of-requires
part_of-requires c =
    let a = c.args in
    c.in_ok-word.ensures.placed.inside

pub returns-then-not-same_bytes : goal.returns-then-not-same_bytes
returns-then-not-same_bytes c =
    let a = c.args in
    of_other_law a.s.now c.in_ok-i.ensures c.in_ok-word.ensures.is
    (sym (rw c.part_of.ensures at c.same_bytes.ensures) ∙ c.if-not-same_bytes.true)

pub overflow_add-word : goal.overflow_add-word
overflow_add-word c =
    let a = c.args in
    omega (arith, c.well_formed, c.in_ok-word.ensures.placed.inside)

pub returns-in_err-name : goal.returns-in_err-name
returns-in_err-name c =
    let a = c.args in
    rw c.from_residual-in_err-name.ensures (unnamed a.s.now c.in_ok-i.ensures c.in_ok-word.ensures.is
    (sym (rw c.part_of.ensures at c.same_bytes.ensures) ∙ c.if-not-same_bytes.false) c.in_err-name.ensures.is)

pub overflow_add-name : goal.overflow_add-name
overflow_add-name c =
    let a = c.args in
    omega (arith, c.well_formed, c.in_ok-name.ensures.placed.inside)

pub returns-then-are_claims : goal.returns-then-are_claims
returns-then-are_claims c =
    let a = c.args in
    line_read a.s.now c.in_ok-i.ensures c.in_ok-word.ensures.is
    (sym (rw c.part_of.ensures at c.same_bytes.ensures) ∙ c.if-not-same_bytes.false)
    c.in_ok-name.ensures.is
    c.in_ok-name.ensures.placed (sym c.are_claims.ensures ∙ c.if-are_claims.true)

pub returns : goal.returns
returns c =
    let a = c.args in
    unclaimed a.s.now c.in_ok-i.ensures c.in_ok-word.ensures.is
    (sym (rw c.part_of.ensures at c.same_bytes.ensures) ∙ c.if-not-same_bytes.false)
    c.in_ok-name.ensures.is
    (sym c.are_claims.ensures ∙ c.if-are_claims.false)
