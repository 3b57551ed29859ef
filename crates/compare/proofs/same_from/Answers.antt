-- `compare::same_from` meets its contract. The loop's invariant: what is left of the two texts is the same exactly if they are the same from the
-- start on.
use Rattle.compare.proofs.CompareLaws.{same_end, same_step, same_differs}
use native.Mathlib.Omega.{arith}
use mathlib.Core.Path.{refl, sym, ◌∙◌}
use Rattle.compare.proofs.same_from.Goals as goal

pub loop-i-init : goal.loop-i-init
loop-i-init c = refl

pub returns-then-a-i : goal.returns-then-a-i
returns-then-a-i c =
    sym (same_differs c.args.a.now c.args.b.now c.loop-i.i (omega arith) (omega arith) c.if-a-i.true) ∙ c.loop-i.invariant

pub loop-i-preserved : goal.loop-i-preserved
loop-i-preserved c =
    sym (same_step c.args.a.now c.args.b.now c.loop-i.i (omega arith) (omega arith) c.if-a-i.false) ∙ c.loop-i.invariant

pub returns : goal.returns
returns c = sym (same_end c.args.a.now c.args.b.now c.loop-i.i (omega arith) (omega arith))
    ∙ c.loop-i.invariant
