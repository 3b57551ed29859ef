-- `all_marked` meets its contract. The loop's invariant: all below v are marked. Assumes nothing.
use Rattle.weave.proofs.TieLaws.{all_marks, not_all_marks}
use Rattle.logic.specs.Tests.{either, equal_or_not}
use Rattle.bits.specs.Word.{bit}
use native.Mathlib.Omega.{arith}
use mathlib.Core.Bool.{true}
use mathlib.Core.Path.{◌≡◌, sym, ◌∙◌, subst}
use Prim.Native.Nat.{◌-◌}
use Rattle.weave.proofs.marks.all_marked.Goals as goal

pub loop-v-init : goal.loop-v-init
loop-v-init c = (omega arith, λ i h. absurd (omega arith))

pub loop-v-preserved : goal.loop-v-preserved
loop-v-preserved c = (
  omega arith,
  λ i h. either (equal_or_not i c.loop-v.v)
      (λ e. subst (λ z. bit c.args.marks z ≡ true) (sym e) (sym c.has.ensures ∙ c.if-not-has.false))
      (λ e. let d = e.1 in c.loop-v.invariant.1 i (omega arith)),
)

pub returns-then-not-has : goal.returns-then-not-has
returns-then-not-has c =
    sym (not_all_marks c.args.marks c.args.n c.loop-v.v (omega arith)
    (sym c.has.ensures ∙ c.if-not-has.true))

pub returns : goal.returns
returns c = sym (all_marks c.args.marks c.args.n c.loop-v.v c.loop-v.invariant.1 (omega arith))
