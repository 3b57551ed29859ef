-- `all_marked` meets its contract. The loop's invariant: all below v are marked. Assumes nothing.
use Rattle.bits.specs.Word.{bit}
use mathlib.Core.Bool.{true}
use mathlib.Core.Path.{◌≡◌}
use Prim.Native.Nat.{ℕ, ◌-◌, ◌<◌, ◌≤◌}
use Rattle.weave.proofs.marks.all_marked.Given as goal

abbrev pub invariant-loop-v : goal.invariant-loop-v
invariant-loop-v l = (l.v ≤ l.n) × ((i : ℕ) → i < l.v → bit l.marks i ≡ true)
