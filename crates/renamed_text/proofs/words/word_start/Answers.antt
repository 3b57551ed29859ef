-- `renamed_text::words::word_start` meets its contract. The loop's invariant: the run of bytes in no word from i on ends where the one from the start ends.
use Rattle.text.proofs.PlaceLaws.{past_step_in, past_stop_in, past_end}
use Rattle.renamed_text.specs.Words.{is_between}
use mathlib.Core.Bool.{not}
use Prim.Native.Nat.{◌-◌}
use native.Mathlib.Omega.{arith}
use mathlib.Core.Path.{◌≡◌, refl, sym, ap, ◌∙◌}
use Rattle.renamed_text.proofs.words.word_start.Goals as goal

pub loop-i-init : goal.loop-i-init
loop-i-init c = (omega arith, refl)

pub returns-then-in_word : goal.returns-then-in_word
returns-then-in_word c =
    sym (past_stop_in is_between c.args.s.now c.loop-i.i (omega arith)
    (ap not (sym c.in_word.ensures ∙ c.if-in_word.true))) ∙ c.loop-i.invariant.1

pub loop-i-preserved : goal.loop-i-preserved
loop-i-preserved c = (
  omega arith,
  sym (past_step_in is_between c.args.s.now c.loop-i.i (omega arith)
      (ap not (sym c.in_word.ensures ∙ c.if-in_word.false))) ∙ c.loop-i.invariant.1,
)

pub returns : goal.returns
returns c = (let e : c.max.result ≡ c.loop-i.i = omega arith in e) ∙ sym (past_end is_between c.args.s.now c.loop-i.i (omega arith)) ∙ c.loop-i.invariant.1
