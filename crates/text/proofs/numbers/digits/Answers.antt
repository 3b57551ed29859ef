-- `text::numbers::digits` meets its contract. The loop's invariant: v and the digits from i on write what all of them write, they end at the same place,
-- and v times 10 and a digit fits.
use Rattle.text.proofs.NumberLaws.{digit_at, decimal_step, no_digit, decimal_least, digits_large, digits_value}
use Rattle.text.proofs.PlaceLaws.{past_stop}
use Rattle.model.specs.Words.{is_digit, run, decimal}
use native.Mathlib.Omega.{arith}
use lib.ListN.{get_or, drop}
use Prim.Native.Nat.{◌+◌, ◌*◌, ◌-◌}
use mathlib.Core.Path.{refl, sym, ap, ◌∙◌}
use Rattle.text.proofs.numbers.digits.Goals as goal

pub loop-from-init : goal.loop-from-init
loop-from-init c = (refl, refl, omega arith)

pub returns-then-v-gt-BIAS_TENTH : goal.returns-then-v-gt-BIAS_TENTH
returns-then-v-gt-BIAS_TENTH c =
    let d = ap is_digit (sym c.peek.ensures) ∙ sym c.is_digit.ensures ∙ c.loop-from-test.true in
    digits_large c.args.s.now c.args.from
    (omega (
      arith,
      c.if-v-gt-BIAS_TENTH.true,
      c.loop-from.invariant.0,
      decimal_step c.args.s.now c.loop-from.i d c.loop-from.v,
      decimal_least
          (c.loop-from.v * 10 + (get_or c.args.s.now c.loop-from.i 0 - 48))
          (run is_digit (drop (c.loop-from.i + 1) c.args.s.now)),
    ))

pub bounds-s-i : goal.bounds-s-i
bounds-s-i c = omega (arith, digit_at c.args.s.now c.loop-from.i (ap is_digit (sym c.peek.ensures) ∙ sym c.is_digit.ensures ∙ c.loop-from-test.true))

pub overflow_sub-v : goal.overflow_sub-v
overflow_sub-v c = omega (arith, digit_at c.args.s.now c.loop-from.i (ap is_digit (sym c.peek.ensures) ∙ sym c.is_digit.ensures ∙ c.loop-from-test.true))

pub overflow_cast-v : goal.overflow_cast-v
overflow_cast-v c = omega (arith, digit_at c.args.s.now c.loop-from.i (ap is_digit (sym c.peek.ensures) ∙ sym c.is_digit.ensures ∙ c.loop-from-test.true))

pub overflow_add-v : goal.overflow_add-v
overflow_add-v c = omega (arith, digit_at c.args.s.now c.loop-from.i (ap is_digit (sym c.peek.ensures) ∙ sym c.is_digit.ensures ∙ c.loop-from-test.true))

pub overflow_add-i : goal.overflow_add-i
overflow_add-i c = omega (arith, digit_at c.args.s.now c.loop-from.i (ap is_digit (sym c.peek.ensures) ∙ sym c.is_digit.ensures ∙ c.loop-from-test.true))

pub loop-from-smaller : goal.loop-from-smaller
loop-from-smaller c = omega (arith, digit_at c.args.s.now c.loop-from.i (ap is_digit (sym c.peek.ensures) ∙ sym c.is_digit.ensures ∙ c.loop-from-test.true))

pub loop-from-preserved : goal.loop-from-preserved
loop-from-preserved c = (
  sym (decimal_step c.args.s.now c.loop-from.i (ap is_digit (sym c.peek.ensures) ∙ sym c.is_digit.ensures ∙ c.loop-from-test.true) c.loop-from.v) ∙ c.loop-from.invariant.0,
  sym (digit_at c.args.s.now c.loop-from.i (ap is_digit (sym c.peek.ensures) ∙ sym c.is_digit.ensures ∙ c.loop-from-test.true)).onward
      ∙ c.loop-from.invariant.1,
  omega (arith, digit_at c.args.s.now c.loop-from.i (ap is_digit (sym c.peek.ensures) ∙ sym c.is_digit.ensures ∙ c.loop-from-test.true)),
)

pub returns-then-v-le-BIAS : goal.returns-then-v-le-BIAS
unfolding decimal
returns-then-v-le-BIAS c =
    let n = ap is_digit (sym c.peek.ensures) ∙ sym c.is_digit.ensures ∙ c.loop-from-test.false in
    digits_value c.args.s.now c.args.from c.loop-from.v c.loop-from.i
    (ap (decimal c.loop-from.v) (sym (no_digit c.args.s.now c.loop-from.i n)) ∙ c.loop-from.invariant.0)
    (sym (past_stop is_digit c.args.s.now c.loop-from.i n) ∙ c.loop-from.invariant.1) c.if-v-le-BIAS.true

pub returns : goal.returns
unfolding decimal
returns c =
    let n = ap is_digit (sym c.peek.ensures) ∙ sym c.is_digit.ensures ∙ c.loop-from-test.false in
    digits_large c.args.s.now c.args.from
    (omega (arith, ap (decimal c.loop-from.v) (sym (no_digit c.args.s.now c.loop-from.i n)) ∙ c.loop-from.invariant.0, c.if-v-le-BIAS.false))
