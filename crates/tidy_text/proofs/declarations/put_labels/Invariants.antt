-- `put_labels` meets its contract. The loop's invariant: the first i are put. Assumes nothing.
use Prim.Native.Nat.{◌≤◌, ◌-◌}
use Rattle.putting.specs.Putting.{Puts}
use Rattle.tidy_text.specs.Pieces.{labels_text}
use Rattle.tidy_text.proofs.declarations.put_labels.Given as goal

abbrev pub invariant-loop-i : goal.invariant-loop-i
invariant-loop-i l = (l.i ≤ l.count) × Puts l.initial.out l.at (labels_text l.book l.words l.i) l.out l.next
