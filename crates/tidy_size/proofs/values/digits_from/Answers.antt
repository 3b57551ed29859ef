-- `tidy_size::values::digits_from` meets its contract. The loop's invariant: there are at least `size` digits, and `power` is the power of ten that has one
-- more. The measure is how far the power is below the number. Assumes nothing.
use Prim.Native.Nat.{◌-◌}
use native.Mathlib.Omega.{arith}
use Rattle.tidy_size.proofs.DigitLaws.{power_small, counting_more, counting_over}
use Rattle.tidy_size.proofs.values.digits_from.Goals as goal

pub loop-power-init : goal.loop-power-init
loop-power-init c = c.requires.1

pub overflow_mul-power : goal.overflow_mul-power
overflow_mul-power c = omega (arith, power_small c.args.n _ _ c.loop-power.invariant c.loop-power-test.true c.requires.0)

pub loop-power-preserved : goal.loop-power-preserved
loop-power-preserved c = counting_more c.args.n _ _ c.loop-power.invariant c.loop-power-test.true c.requires.0

pub returns : goal.returns
returns c = (counting_over c.args.n _ _ c.loop-power.invariant c.loop-power-test.false, c.loop-power.invariant.few)
