-- `tidy_size::values::digits_from` meets its contract. The loop's invariant: there are at least `size` digits, and `power` is the power of ten that has one
-- more. The measure is how far the power is below the number. Assumes nothing.
use Prim.Native.Nat.{◌+◌, ◌-◌}
use Rattle.tidy_size.specs.Counting.{Counting}
use Rattle.tidy_size.proofs.values.digits_from.Given as goal

abbrev pub invariant-loop-power : goal.invariant-loop-power
invariant-loop-power l = Counting l.n l.size l.power

abbrev pub decreases-loop-power : goal.decreases-loop-power
decreases-loop-power l = l.n + 1 - l.power
