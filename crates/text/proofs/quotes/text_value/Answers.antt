-- `text::quotes::text_value` meets its contract.
use Rattle.text.proofs.QuoteLaws.{text_past, text_open, text_fits, text_long}
use Rattle.text.proofs.PlaceLaws.{past_on, past_within}
use Rattle.text.specs.Places.{is_in_text}
use native.Mathlib.Omega.{arith}
use Prim.Native.Nat.{◌+◌}
use mathlib.Core.Path.{sym, ◌∙◌}
use Rattle.text.proofs.quotes.text_value.Goals as goal

pub returns-then-s-at : goal.returns-then-s-at
returns-then-s-at c = text_past c.args.s.now c.args.at c.if-s-at.true

pub returns-then-peek-ne-APOSTROPHE : goal.returns-then-peek-ne-APOSTROPHE
returns-then-peek-ne-APOSTROPHE c =
    text_open c.args.s.now c.args.at c.text_end-q.result c.text_end-q.ensures
    (λ h. c.if-peek-ne-APOSTROPHE.true (c.peek.ensures ∙ h))

pub overflow_sub-q : goal.overflow_sub-q
overflow_sub-q c =
    omega (arith, c.text_end-q.ensures, past_on is_in_text c.args.s.now (c.args.at + 1))

pub overflow_add-result : goal.overflow_add-result
overflow_add-result c =
    omega (arith, c.text_end-q.ensures, past_within is_in_text c.args.s.now (c.args.at + 1) (omega arith))

pub returns-then-q-from-le-MAX_TEXT_BYTES : goal.returns-then-q-from-le-MAX_TEXT_BYTES
returns-then-q-from-le-MAX_TEXT_BYTES c =
    text_fits c.args.s.now c.args.at c.text_end-q.result c.text_end-q.ensures
    (sym c.peek.ensures ∙ c.if-peek-ne-APOSTROPHE.false) c.if-q-from-le-MAX_TEXT_BYTES.true

pub returns : goal.returns
returns c =
    text_long c.args.s.now c.args.at c.text_end-q.result c.text_end-q.ensures
    (sym c.peek.ensures ∙ c.if-peek-ne-APOSTROPHE.false) c.if-q-from-le-MAX_TEXT_BYTES.false
