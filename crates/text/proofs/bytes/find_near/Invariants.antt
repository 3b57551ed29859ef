-- `text::bytes::find_near` meets its contract. The loop's invariant: the next such byte from i on is the next one from the start.
use Rattle.text.specs.Places.{past, is_other}
use lib.ListN.{length}
use Prim.Native.Nat.{◌≤◌, max}
use mathlib.Core.Path.{◌≡◌}
use Rattle.text.proofs.bytes.find_near.Given as goal

abbrev pub invariant-loop-i : goal.invariant-loop-i
invariant-loop-i l = (l.i ≤ max l.from (length l.s)) × (past (is_other l.byte) l.s l.i ≡ past (is_other l.byte) l.s l.from)
