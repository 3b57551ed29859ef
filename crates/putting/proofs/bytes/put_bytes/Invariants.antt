-- `put_bytes` meets its contract. The loop's invariant: the first i bytes are put. Assumes nothing.
use Prim.Native.Nat.{◌≤◌}
use lib.ListN.{length, take}
use Rattle.putting.specs.Putting.{Puts}
use Rattle.putting.proofs.bytes.put_bytes.Given as goal

abbrev pub invariant-loop-byte : goal.invariant-loop-byte
invariant-loop-byte l = (l.byte-index ≤ length l.bytes) × Puts l.initial.out l.at (take l.byte-index l.bytes) l.out l.next
