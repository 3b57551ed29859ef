-- `text::numbers::negative` meets its contract.
use Rattle.text.proofs.NumberLaws.{told, untold, large_not_whole, none_not_whole, minus_zero_not_whole, whole_by_size, not_number, is_number}
use Rattle.text.proofs.PlaceLaws.{run_head, run_none}
use Rattle.model.specs.Words.{is_digit, run, biased, decimal}
use borrow.Author.Tests.{le-leb}
use native.Mathlib.Omega.{arith}
use lib.ListN.{length, get_or, drop}
use Prim.Native.Nat.{◌+◌, ◌^◌, ◌<◌}
use mathlib.Core.Bool.{true}
use mathlib.Core.Path.{◌≡◌, sym, ◌∙◌}
use Rattle.text.proofs.numbers.negative.Goals as goal

pub returns-then-s-at : goal.returns-then-s-at
returns-then-s-at c =
    not_number true c.args.s.now c.args.at (c.args.at + 1)
    (none_not_whole true (run is_digit (drop (c.args.at + 1) c.args.s.now))
    (run_none is_digit c.args.s.now (c.args.at + 1) (omega (arith, c.if-s-at.true))))

pub returns-in_err-v : goal.returns-in_err-v
returns-in_err-v c =
    c.from_residual.ensures ∙ not_number true c.args.s.now c.args.at (c.args.at + 1)
    (large_not_whole true _ (untold c.args.s.now (c.args.at + 1) (sym c.digits.ensures ∙ c.in_err-v.was)))

pub returns-then-q-from : goal.returns-then-q-from
returns-then-q-from c =
    let t = told c.args.s.now (c.args.at + 1) _ _ (sym c.digits.ensures ∙ c.in_ok-v.was) in
    not_number true c.args.s.now c.args.at (c.args.at + 1)
    (none_not_whole true (run is_digit (drop (c.args.at + 1) c.args.s.now)) (omega (arith, c.if-q-from.true, t.end)))

pub returns-then-peek-eq-ZERO : goal.returns-then-peek-eq-ZERO
returns-then-peek-eq-ZERO c =
    let t = told c.args.s.now (c.args.at + 1) _ _ (sym c.digits.ensures ∙ c.in_ok-v.was) in
    let h = run_head is_digit c.args.s.now (c.args.at + 1) (omega (arith, c.if-q-from.false, t.end))
    ∙ sym c.peek.ensures ∙ c.if-peek-eq-ZERO.true in
    not_number true c.args.s.now c.args.at (c.args.at + 1)
    (minus_zero_not_whole (run is_digit (drop (c.args.at + 1) c.args.s.now)) h)

pub overflow_sub-result : goal.overflow_sub-result
overflow_sub-result c =
    let t = told c.args.s.now (c.args.at + 1) _ _ (sym c.digits.ensures ∙ c.in_ok-v.was) in omega (arith, t.small)

pub returns : goal.returns
unfolding biased
returns c =
    let t = told c.args.s.now (c.args.at + 1) _ _ (sym c.digits.ensures ∙ c.in_ok-v.was) in
    let n : 0 < length (run is_digit (drop (c.args.at + 1) c.args.s.now)) = omega (arith, c.if-q-from.false, t.end) in
    let h : get_or (run is_digit (drop (c.args.at + 1) c.args.s.now)) 0 256 ≡ 48 → ⊥ = λ e. c.if-peek-eq-ZERO.false
    (c.peek.ensures ∙ sym (run_head is_digit c.args.s.now (c.args.at + 1) n) ∙ e) in
    is_number true c.args.s.now c.args.at (c.args.at + 1) _ _
    (whole_by_size true _ h n ∙ le-leb (decimal 0 (run is_digit (drop (c.args.at + 1) c.args.s.now))) (2 ^ 63)
    (omega (arith, t.small, t.value))) (omega (arith, t.value)) (omega (arith, t.end))
