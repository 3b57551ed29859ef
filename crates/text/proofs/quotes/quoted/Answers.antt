-- `text::quotes::quoted` meets its contract.
use Rattle.text.proofs.QuoteLaws.{quoted_past, quoted_open, quoted_shut}
use Rattle.text.proofs.PlaceLaws.{past_within}
use Rattle.text.specs.Places.{is_in_quoted}
use native.Mathlib.Omega.{arith}
use Prim.Native.Nat.{◌+◌}
use mathlib.Core.Path.{sym, ◌∙◌}
use Rattle.text.proofs.quotes.quoted.Goals as goal

pub returns-then-s-at : goal.returns-then-s-at
returns-then-s-at c = quoted_past c.args.s.now c.args.at c.if-s-at.true

pub returns-then-peek-ne-DOUBLE_QUOTE : goal.returns-then-peek-ne-DOUBLE_QUOTE
returns-then-peek-ne-DOUBLE_QUOTE c =
    quoted_open c.args.s.now c.args.at c.find-q.result c.find-q.ensures
    (λ h. c.if-peek-ne-DOUBLE_QUOTE.true (c.peek.ensures ∙ h))

pub overflow_add-result : goal.overflow_add-result
overflow_add-result c =
    omega (arith, c.find-q.ensures, past_within is_in_quoted c.args.s.now (c.args.at + 1) (omega arith))

pub returns : goal.returns
returns c =
    quoted_shut c.args.s.now c.args.at c.find-q.result c.find-q.ensures
    (sym c.peek.ensures ∙ c.if-peek-ne-DOUBLE_QUOTE.false)
