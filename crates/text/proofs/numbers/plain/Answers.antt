-- `text::numbers::plain` meets its contract.
use Rattle.text.proofs.NumberLaws.{told, untold, large_not_whole, none_not_whole, zero_whole, zero_value, zeros_not_whole, whole_by_size}
use Rattle.text.proofs.NumberLaws.{not_number, is_number}
use Rattle.text.proofs.PlaceLaws.{run_head}
use Rattle.model.specs.Words.{is_digit, run, biased, decimal}
use borrow.Author.Tests.{le-leb, lt-leb}
use native.Mathlib.Omega.{arith}
use lib.ListN.{length, get_or, drop}
use Prim.Native.Nat.{◌-◌, ◌^◌, ◌<◌}
use mathlib.Core.Bool.{false}
use mathlib.Core.Path.{◌≡◌, sym, ◌∙◌}
use Rattle.text.proofs.numbers.plain.Goals as goal

pub returns-in_err-v : goal.returns-in_err-v
returns-in_err-v c =
    c.from_residual.ensures ∙ not_number false c.args.s.now c.args.at c.args.at
    (large_not_whole false _ (untold c.args.s.now c.args.at (sym c.digits.ensures ∙ c.in_err-v.was)))

pub returns-then-q-at : goal.returns-then-q-at
returns-then-q-at c =
    let t = told c.args.s.now c.args.at _ _ (sym c.digits.ensures ∙ c.in_ok-v.was) in
    not_number false c.args.s.now c.args.at c.args.at
    (none_not_whole false (run is_digit (drop c.args.at c.args.s.now)) (omega (arith, c.if-q-at.true, t.end)))

pub overflow_sub-q : goal.overflow_sub-q
overflow_sub-q c =
    let t = told c.args.s.now c.args.at _ _ (sym c.digits.ensures ∙ c.in_ok-v.was) in omega (arith, t.end)

pub returns-then-q-at-eq1 : goal.returns-then-q-at-eq1
unfolding biased
returns-then-q-at-eq1 c =
    let t = told c.args.s.now c.args.at _ _ (sym c.digits.ensures ∙ c.in_ok-v.was) in
    let n : length (run is_digit (drop c.args.at c.args.s.now)) ≡ 1 = omega (arith, c.if-q-at-eq1.true, t.end) in
    let h = run_head is_digit c.args.s.now c.args.at (omega arith) ∙ sym c.peek.ensures ∙ c.if-peek-eq-ZERO.true in
    is_number false c.args.s.now c.args.at c.args.at _ _ (zero_whole _ h n)
    (rw (zero_value (run is_digit (drop c.args.at c.args.s.now)) h n)) (omega (arith, t.end))

pub returns-then-peek-eq-ZERO : goal.returns-then-peek-eq-ZERO
returns-then-peek-eq-ZERO c =
    let t = told c.args.s.now c.args.at _ _ (sym c.digits.ensures ∙ c.in_ok-v.was) in
    let h = run_head is_digit c.args.s.now c.args.at (omega (arith, c.if-q-at.false, t.end))
    ∙ sym c.peek.ensures ∙ c.if-peek-eq-ZERO.true in
    not_number false c.args.s.now c.args.at c.args.at
    (zeros_not_whole (run is_digit (drop c.args.at c.args.s.now)) h (λ n. c.if-q-at-eq1.false (omega (arith, t.end))))

pub overflow_add-result : goal.overflow_add-result
overflow_add-result c = omega arith

pub returns-then-v-lt-BIAS : goal.returns-then-v-lt-BIAS
unfolding biased
returns-then-v-lt-BIAS c =
    let t = told c.args.s.now c.args.at _ _ (sym c.digits.ensures ∙ c.in_ok-v.was) in
    let n : 0 < length (run is_digit (drop c.args.at c.args.s.now)) = omega (arith, c.if-q-at.false, t.end) in
    let h : get_or (run is_digit (drop c.args.at c.args.s.now)) 0 256 ≡ 48 → ⊥ = λ e. c.if-peek-eq-ZERO.false
    (c.peek.ensures ∙ sym (run_head is_digit c.args.s.now c.args.at n) ∙ e) in
    is_number false c.args.s.now c.args.at c.args.at _ _
    (whole_by_size false _ h n ∙ le-leb (decimal 0 (run is_digit (drop c.args.at c.args.s.now))) (2 ^ 63 - 1)
    (omega (arith, c.if-v-lt-BIAS.true, t.value))) (omega (arith, t.value)) (omega (arith, t.end))

pub returns : goal.returns
returns c =
    let t = told c.args.s.now c.args.at _ _ (sym c.digits.ensures ∙ c.in_ok-v.was) in
    let n : 0 < length (run is_digit (drop c.args.at c.args.s.now)) = omega (arith, c.if-q-at.false, t.end) in
    let h : get_or (run is_digit (drop c.args.at c.args.s.now)) 0 256 ≡ 48 → ⊥ = λ e. c.if-peek-eq-ZERO.false
    (c.peek.ensures ∙ sym (run_head is_digit c.args.s.now c.args.at n) ∙ e) in
    not_number false c.args.s.now c.args.at c.args.at
    (whole_by_size false _ h n ∙ lt-leb (decimal 0 (run is_digit (drop c.args.at c.args.s.now))) (2 ^ 63 - 1)
    (omega (arith, c.if-v-lt-BIAS.false, t.value)))
