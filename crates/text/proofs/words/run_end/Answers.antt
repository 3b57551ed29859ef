-- `text::words::run_end` meets its contract. The loop's invariant: the run of word bytes from i on ends where the one from the start ends.
use Rattle.text.proofs.PlaceLaws.{past_step_in, past_stop_in, past_end}
use Rattle.model.specs.Words.{is_word_byte}
use native.Mathlib.Omega.{arith}
use mathlib.Core.Path.{◌≡◌, refl, sym, ◌∙◌}
use Rattle.text.proofs.words.run_end.Goals as goal

pub loop-i-init : goal.loop-i-init
loop-i-init c = (omega arith, refl)

pub returns-then-not-in_word : goal.returns-then-not-in_word
returns-then-not-in_word c =
    sym (past_stop_in is_word_byte c.args.s.now c.loop-i.i (omega arith)
    (sym c.in_word.ensures ∙ c.if-not-in_word.true)) ∙ c.loop-i.invariant.1

pub loop-i-preserved : goal.loop-i-preserved
loop-i-preserved c = (
  omega arith,
  sym (past_step_in is_word_byte c.args.s.now c.loop-i.i (omega arith)
      (sym c.in_word.ensures ∙ c.if-not-in_word.false)) ∙ c.loop-i.invariant.1,
)

pub returns : goal.returns
returns c = (let e : c.max.result ≡ c.loop-i.i = omega arith in e) ∙ sym (past_end is_word_byte c.args.s.now c.loop-i.i (omega arith)) ∙ c.loop-i.invariant.1
