-- `tidy_size::declarations::labels_size` meets its contract. The loop's invariant: the size is that of the lines of the labels before `i`. The measure is
-- the number of labels left. Assumes nothing.
use Prim.Native.Nat.{◌-◌, ◌≤◌}
use Rattle.book_tables.specs.Layout.{label_names}
use Rattle.book_tables.specs.Fits.{NamesFit}
use Rattle.tidy_size.specs.Pieces.{label_line}
use Rattle.tidy_size.specs.Sizes.{LinesSize}
use Rattle.tidy_size.proofs.declarations.labels_size.Given as goal

abbrev pub invariant-loop-i : goal.invariant-loop-i
invariant-loop-i l = (l.i ≤ l.count) × LinesSize (λ text. NamesFit text l.words label_names l.count) (λ text. label_line text l.words) l.i l.size
