-- `text::bytes::find` meets its contract. The loop's invariant: the next such byte from i on, within the text, is the next one from the start.
use Rattle.text.specs.Places.{past, is_other}
use lib.ListN.{length}
use Prim.Native.Nat.{◌-◌, ◌≤◌}
use mathlib.Core.Path.{◌≡◌}
use Rattle.text.proofs.bytes.find.Given as goal

abbrev pub invariant-loop-i : goal.invariant-loop-i
invariant-loop-i l = (l.i ≤ length l.s) × (past (is_other l.byte) l.s l.i ≡ past (is_other l.byte) l.s l.from)

abbrev pub decreases-loop-i : goal.decreases-loop-i
decreases-loop-i l = length l.s - l.i
