-- `tidy_size::values::digits_size` meets its contract. Assumes nothing.
use native.Mathlib.Omega.{arith}
use Rattle.tidy_size.proofs.DigitLaws.{counting_first, counting_from}
use Rattle.tidy_size.proofs.values.digits_size.Goals as goal

pub digits_from-requires : goal.digits_from-requires
digits_from-requires c = (c.requires, counting_from c.args.n 15 c.if-n-ge-TEN_TO_15.true (omega arith))

pub digits_from-requires-then-n-ge-TEN_TO_10 : goal.digits_from-requires-then-n-ge-TEN_TO_10
digits_from-requires-then-n-ge-TEN_TO_10 c = (c.requires, counting_from c.args.n 10 c.if-n-ge-TEN_TO_10.true (omega arith))

pub digits_from-requires-then-n-ge-TEN_TO_5 : goal.digits_from-requires-then-n-ge-TEN_TO_5
digits_from-requires-then-n-ge-TEN_TO_5 c = (c.requires, counting_from c.args.n 5 c.if-n-ge-TEN_TO_5.true (omega arith))

pub digits_from-requires-2 : goal.digits_from-requires-2
digits_from-requires-2 c = (c.requires, counting_first c.args.n)
