-- `renamed_text::put_renamed` meets its contract. The loop's invariant: once what waits and the lines left are put, the buffer holds what it is to hold.
-- Assumes nothing.
use Prim.Native.Nat.{◌-◌, ◌≤◌}
use mathlib.Core.Path.{◌≡◌}
use lib.ListN.{length, drop}
use Rattle.model.specs.Lines.{lines_of}
use Rattle.putting.specs.Putting.{with_text}
use Rattle.renamed_text.specs.Marks.{marked_in}
use Rattle.renamed_text.specs.Renamed.{lines_by}
use Rattle.renamed_text.specs.Progress.{to_come}
use Rattle.renamed_text.proofs.put_renamed.Given as goal

abbrev pub invariant-loop-progress : goal.invariant-loop-progress
invariant-loop-progress l =
    (length l.out ≡ length l.initial.out) × (l.progress.put ≤ l.progress.seen) × (l.progress.seen ≤ length l.text)
    × (to_come l.text l.out l.progress (lines_by (marked_in l.text l.words l.counts l.marked) (lines_of (drop l.progress.seen l.text)))
    ≡ with_text (record { bytes = l.initial.out; place = 0 }) (lines_by (marked_in l.text l.words l.counts l.marked) (lines_of l.text)))

abbrev pub decreases-loop-progress : goal.decreases-loop-progress
decreases-loop-progress l = length l.text - l.progress.seen
