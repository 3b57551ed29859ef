-- `text::words::spaces_end` meets its contract. The loop's invariant: the run of spaces from i on ends where the one from the start ends.
use Rattle.text.proofs.PlaceLaws.{test_in, past_step, past_stop}
use Rattle.text.specs.Places.{is_space}
use borrow.Author.Tests.{eq-eqb, ne_eqb}
use native.Mathlib.Omega.{arith}
use mathlib.Core.Path.{refl, sym, ◌∙◌}
use Rattle.text.proofs.words.spaces_end.Goals as goal

pub loop-i-init : goal.loop-i-init
loop-i-init c = refl

pub overflow_add-i : goal.overflow_add-i
unfolding is_space
overflow_add-i c = omega (arith, test_in is_space c.args.s.now c.loop-i.i refl (eq-eqb _ 32 (sym c.peek.ensures ∙ c.loop-i-test.true)))

pub loop-i-smaller : goal.loop-i-smaller
unfolding is_space
loop-i-smaller c = omega (arith, test_in is_space c.args.s.now c.loop-i.i refl (eq-eqb _ 32 (sym c.peek.ensures ∙ c.loop-i-test.true)))

pub loop-i-preserved : goal.loop-i-preserved
unfolding is_space
loop-i-preserved c =
    sym (past_step is_space c.args.s.now c.loop-i.i refl (eq-eqb _ 32 (sym c.peek.ensures ∙ c.loop-i-test.true))) ∙ c.loop-i.invariant

pub returns : goal.returns
unfolding is_space
returns c =
    sym (past_stop is_space c.args.s.now c.loop-i.i (ne_eqb _ 32 (λ h. c.loop-i-test.false (c.peek.ensures ∙ h))))
    ∙ c.loop-i.invariant
