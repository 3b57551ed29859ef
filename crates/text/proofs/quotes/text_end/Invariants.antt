-- `text::quotes::text_end` meets its contract. The loop's invariant: the run from i on ends where the one from the start ends.
use Rattle.text.specs.Places.{past, is_in_text}
use lib.ListN.{length}
use Prim.Native.Nat.{◌≤◌, max}
use mathlib.Core.Path.{◌≡◌}
use Rattle.text.proofs.quotes.text_end.Given as goal

abbrev pub invariant-loop-i : goal.invariant-loop-i
invariant-loop-i l = (l.i ≤ max l.from (length l.s)) × (past is_in_text l.s l.i ≡ past is_in_text l.s l.from)
