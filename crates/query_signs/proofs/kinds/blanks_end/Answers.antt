-- `query_signs::kinds::blanks_end` meets its contract. The loop's invariant: the run of blanks from i on ends where the one from the start ends.
use Rattle.text.proofs.PlaceLaws.{past_step_in, past_stop_in, past_end}
use Rattle.query_signs.specs.Reads.{is_blank}
use native.Mathlib.Omega.{arith}
use mathlib.Core.Path.{◌≡◌, refl, sym, ◌∙◌}
use Rattle.query_signs.proofs.kinds.blanks_end.Goals as goal

pub loop-i-init : goal.loop-i-init
loop-i-init c = (omega arith, refl)

pub returns-then-not-is_blank : goal.returns-then-not-is_blank
returns-then-not-is_blank c =
    sym (past_stop_in is_blank c.args.s.now c.loop-i.i (omega arith)
    (sym c.is_blank.ensures ∙ c.if-not-is_blank.true)) ∙ c.loop-i.invariant.1

pub loop-i-preserved : goal.loop-i-preserved
loop-i-preserved c = (
  omega arith,
  sym (past_step_in is_blank c.args.s.now c.loop-i.i (omega arith)
      (sym c.is_blank.ensures ∙ c.if-not-is_blank.false)) ∙ c.loop-i.invariant.1,
)

pub returns : goal.returns
returns c = (let e : c.max.result ≡ c.loop-i.i = omega arith in e) ∙ sym (past_end is_blank c.args.s.now c.loop-i.i (omega arith)) ∙ c.loop-i.invariant.1
