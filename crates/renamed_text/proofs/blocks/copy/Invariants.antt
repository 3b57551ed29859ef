-- `renamed_text::blocks::copy` meets its contract. The loop's invariant: the first i bytes are put. Assumes nothing.
use Prim.Native.Nat.{◌+◌, ◌≤◌}
use lib.ListN.{length, take}
use Rattle.putting.specs.Putting.{Puts}
use Rattle.renamed_text.proofs.blocks.copy.Given as goal

abbrev pub invariant-loop-i : goal.invariant-loop-i
invariant-loop-i l = (l.i ≤ length l.bytes) × Puts l.initial.out l.at (take l.i l.bytes) l.out (l.at + l.i)
