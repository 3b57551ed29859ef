-- `text::numbers::digits` meets its contract. The loop's invariant: v and the digits from i on write what all of them write, they end at the same place,
-- and v times 10 and a digit fits.
use Rattle.text.specs.Places.{past}
use Rattle.model.specs.Words.{is_digit, run, decimal}
use lib.ListN.{length, drop}
use Prim.Native.Nat.{◌-◌, ◌≤◌}
use mathlib.Core.Path.{◌≡◌}
use Rattle.text.proofs.numbers.digits.Given as goal

abbrev pub invariant-loop-from : goal.invariant-loop-from
invariant-loop-from l = (decimal l.v (run is_digit (drop l.i l.s)) ≡ decimal 0 (run is_digit (drop l.from l.s))) × (past is_digit l.s l.i ≡ past is_digit l.s l.from)
    × (l.v ≤ 9223372036854775809)

abbrev pub decreases-loop-from : goal.decreases-loop-from
decreases-loop-from l = length l.s - l.i
