-- `tied` meets its contract. The loop's invariant: the steps that are left lead where all lead from the first marks. Assumes nothing.
use Rattle.weave.proofs.TieLaws.{TiedSoFar}
use Prim.Native.Nat.{◌-◌, ◌≤◌}
use Rattle.weave.proofs.ties.tied.Given as goal

abbrev pub invariant-loop-round : goal.invariant-loop-round
invariant-loop-round l = (l.round ≤ l.vertices) × TiedSoFar l.words l.vertices l.edges l.mask l.marked l.round
