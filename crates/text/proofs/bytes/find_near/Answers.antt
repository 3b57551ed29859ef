-- `text::bytes::find_near` meets its contract. The loop's invariant: the next such byte from i on is the next one from the start.
use Rattle.text.proofs.PlaceLaws.{past_step_in, past_stop_in, past_end}
use Rattle.text.specs.Places.{is_other}
use borrow.Author.Tests.{eq-eqb, ne_eqb}
use mathlib.Core.Bool.{not}
use native.Mathlib.Omega.{arith}
use mathlib.Core.Path.{◌≡◌, refl, sym, ap, ◌∙◌}
use Rattle.text.proofs.bytes.find_near.Goals as goal

pub loop-i-init : goal.loop-i-init
loop-i-init c = (omega arith, refl)

pub returns-then-s-i : goal.returns-then-s-i
unfolding is_other
returns-then-s-i c =
    sym (past_stop_in (is_other c.args.byte) c.args.s.now c.loop-i.i (omega arith)
    (ap not (eq-eqb _ c.args.byte c.if-s-i.true))) ∙ c.loop-i.invariant.1

pub loop-i-preserved : goal.loop-i-preserved
unfolding is_other
loop-i-preserved c = (
  omega arith,
  sym (past_step_in (is_other c.args.byte) c.args.s.now c.loop-i.i (omega arith)
      (ap not (ne_eqb _ c.args.byte c.if-s-i.false))) ∙ c.loop-i.invariant.1,
)

pub returns : goal.returns
returns c = (let e : c.max.result ≡ c.loop-i.i = omega arith in e) ∙ sym (past_end (is_other c.args.byte) c.args.s.now c.loop-i.i (omega arith))
    ∙ c.loop-i.invariant.1
