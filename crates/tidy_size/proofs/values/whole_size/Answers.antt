-- `tidy_size::values::whole_size` meets its contract. Assumes nothing.
use native.Mathlib.Omega.{arith}
use Rattle.tidy_size.proofs.DigitLaws.{not_negative, negative}
use Rattle.tidy_size.proofs.values.whole_size.Goals as goal

pub returns-then-n-ge-BIAS : goal.returns-then-n-ge-BIAS
returns-then-n-ge-BIAS c = omega (arith, not_negative c.args.n c.if-n-ge-BIAS.true, c.digits_size.ensures.0, c.digits_size.ensures.1)

pub returns : goal.returns
returns c = omega (arith, negative c.args.n c.if-n-ge-BIAS.false, c.digits_size-2.ensures.0, c.digits_size-2.ensures.1)
