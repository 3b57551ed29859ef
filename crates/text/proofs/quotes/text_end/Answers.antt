-- `text::quotes::text_end` meets its contract. The loop's invariant: the run from i on ends where the one from the start ends.
use Rattle.text.proofs.PlaceLaws.{past_step_in, past_stop_in, past_end}
use Rattle.text.specs.Places.{is_in_text}
use native.Mathlib.Omega.{arith}
use mathlib.Core.Path.{◌≡◌, refl, sym, ◌∙◌}
use Rattle.text.proofs.quotes.text_end.Goals as goal

pub loop-i-init : goal.loop-i-init
loop-i-init c = (omega arith, refl)

pub returns-then-not-in_text : goal.returns-then-not-in_text
returns-then-not-in_text c =
    sym (past_stop_in is_in_text c.args.s.now c.loop-i.i (omega arith)
    (sym c.in_text.ensures ∙ c.if-not-in_text.true)) ∙ c.loop-i.invariant.1

pub loop-i-preserved : goal.loop-i-preserved
loop-i-preserved c = (
  omega arith,
  sym (past_step_in is_in_text c.args.s.now c.loop-i.i (omega arith)
      (sym c.in_text.ensures ∙ c.if-not-in_text.false)) ∙ c.loop-i.invariant.1,
)

pub returns : goal.returns
returns c = (let e : c.max.result ≡ c.loop-i.i = omega arith in e) ∙ sym (past_end is_in_text c.args.s.now c.loop-i.i (omega arith)) ∙ c.loop-i.invariant.1
