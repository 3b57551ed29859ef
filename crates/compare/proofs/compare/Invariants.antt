-- `compare::compare` meets its contract. The loop's invariant: what is left of the two texts stands as the whole texts do.
use Rattle.model.specs.TextOrder.{byte_order}
use lib.ListN.{length, drop}
use Prim.Native.Nat.{◌≤◌}
use mathlib.Core.Path.{◌≡◌}
use Rattle.compare.proofs.compare.Given as goal

abbrev pub invariant-loop-i : goal.invariant-loop-i
invariant-loop-i l = (l.i ≤ length l.a) × (byte_order (drop l.i l.a) (drop l.i l.b) ≡ byte_order l.a l.b)
