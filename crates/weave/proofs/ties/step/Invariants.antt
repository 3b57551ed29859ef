-- `step` meets its contract. The loop's invariant: a step along the first i edges is done. Assumes nothing.
use Rattle.weave.specs.Identities.{Stepped}
use Prim.Native.Nat.{◌-◌, ◌≤◌}
use Rattle.weave.proofs.ties.step.Given as goal

abbrev pub invariant-loop-i : goal.invariant-loop-i
invariant-loop-i l = (l.i ≤ l.edges) × Stepped l.words l.i l.mask l.next
