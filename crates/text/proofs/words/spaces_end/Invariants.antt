-- `text::words::spaces_end` meets its contract. The loop's invariant: the run of spaces from i on ends where the one from the start ends.
use Rattle.text.specs.Places.{past, is_space}
use lib.ListN.{length}
use Prim.Native.Nat.{◌-◌}
use mathlib.Core.Path.{◌≡◌}
use Rattle.text.proofs.words.spaces_end.Given as goal

abbrev pub invariant-loop-i : goal.invariant-loop-i
invariant-loop-i l = past is_space l.s l.i ≡ past is_space l.s l.from

abbrev pub decreases-loop-i : goal.decreases-loop-i
decreases-loop-i l = length l.s - l.i
