-- `compare::same_bytes` meets its contract. The loop's invariant: what is left of the two texts is the same exactly if the whole texts are.
use Rattle.model.specs.Bytes.{same}
use lib.ListN.{length, drop}
use Prim.Native.Nat.{◌-◌, ◌≤◌}
use mathlib.Core.Path.{◌≡◌}
use Rattle.compare.proofs.same_bytes.Given as goal

abbrev pub invariant-loop-i : goal.invariant-loop-i
invariant-loop-i l = (l.i ≤ length l.a) × (same (drop l.i l.a) (drop l.i l.b) ≡ same l.a l.b)

abbrev pub decreases-loop-i : goal.decreases-loop-i
decreases-loop-i l = length l.a - l.i
