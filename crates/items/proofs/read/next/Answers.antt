-- `items::read::next` meets its contract.
use Rattle.items.proofs.NextLaws.{next_close, next_gap, next_item, next_none}
use Rattle.text.proofs.PlaceLaws.{peek_in}
use lib.Dec.{eqb}
use native.Mathlib.Omega.{arith}
use Prim.Native.Nat.{ℕ}
use mathlib.Core.Bool.{◌||◌}
use mathlib.Core.Path.{sym, ap, ◌∙◌}
use Rattle.items.proofs.read.next.Goals as goal

pub overflow_add-result : goal.overflow_add-result
overflow_add-result c =
    omega (arith, peek_in c.args.s.now c.spaces_end-p.result (omega (arith, c.peek-b.ensures, c.if-b-eq-CLOSING_BRACKET.true)))

pub returns-then-b-eq-CLOSING_BRACKET : goal.returns-then-b-eq-CLOSING_BRACKET
returns-then-b-eq-CLOSING_BRACKET c =
    next_close c.args.free c.args.s.now c.args.from c.spaces_end-p.result
    c.spaces_end-p.ensures (sym c.peek-b.ensures ∙ c.if-b-eq-CLOSING_BRACKET.true)

pub returns-then-from-p : goal.returns-then-from-p
returns-then-from-p c =
    next_gap c.args.free c.args.s.now c.args.from c.spaces_end-p.result
    c.spaces_end-p.ensures (λ h. c.if-b-eq-CLOSING_BRACKET.false (c.peek-b.ensures ∙ h)) c.if-from-p.true

pub returns-then-may_begin : goal.returns-then-may_begin
returns-then-may_begin c =
    next_item c.args.free c.args.s.now c.args.from c.spaces_end-p.result c.spaces_end-p.ensures
    (λ h. c.if-b-eq-CLOSING_BRACKET.false (c.peek-b.ensures ∙ h)) c.if-from-p.false
    (ap (λ (b : ℕ). c.args.free || eqb b 40) (sym c.peek-b.ensures) ∙ sym c.may_begin.ensures ∙ c.if-may_begin.true)

pub returns : goal.returns
returns c =
    next_none c.args.free c.args.s.now c.args.from c.spaces_end-p.result c.spaces_end-p.ensures
    (λ h. c.if-b-eq-CLOSING_BRACKET.false (c.peek-b.ensures ∙ h)) c.if-from-p.false
    (ap (λ (b : ℕ). c.args.free || eqb b 40) (sym c.peek-b.ensures) ∙ sym c.may_begin.ensures ∙ c.if-may_begin.false)
