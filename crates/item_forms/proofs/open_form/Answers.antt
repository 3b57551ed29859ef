-- `item_forms::open_form` meets its contract.
use Rattle.item_forms.proofs.FormLaws.{form_opens_law, form_shut}
use Rattle.text.proofs.PlaceLaws.{peek_in}
use native.Mathlib.Omega.{arith}
use mathlib.Core.Path.{sym, ◌∙◌}
use Rattle.item_forms.proofs.open_form.Goals as goal

pub overflow_add-result : goal.overflow_add-result
overflow_add-result c =
    omega (arith, peek_in c.args.s.now c.spaces_end-p.result (omega (arith, c.peek.ensures, c.if-peek-eq-OPENING_BRACKET.true)))

pub returns-then-peek-eq-OPENING_BRACKET : goal.returns-then-peek-eq-OPENING_BRACKET
returns-then-peek-eq-OPENING_BRACKET c =
    form_opens_law c.args.s.now c.args.from c.spaces_end-p.result c.spaces_end-p.ensures
    (sym c.peek.ensures ∙ c.if-peek-eq-OPENING_BRACKET.true)

pub returns : goal.returns
returns c =
    form_shut c.args.s.now c.args.from c.spaces_end-p.result c.spaces_end-p.ensures
    (λ h. c.if-peek-eq-OPENING_BRACKET.false (c.peek.ensures ∙ h))
