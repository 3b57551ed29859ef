-- `compare::same_from` meets its contract. The loop's invariant: what is left of the two texts is the same exactly if they are the same from the
-- start on.
use Rattle.model.specs.Bytes.{same}
use lib.ListN.{drop}
use mathlib.Core.Path.{◌≡◌}
use Rattle.compare.proofs.same_from.Given as goal

abbrev pub invariant-loop-i : goal.invariant-loop-i
invariant-loop-i l = same (drop l.i l.a) (drop l.i l.b) ≡ same (drop l.from l.a) (drop l.from l.b)
