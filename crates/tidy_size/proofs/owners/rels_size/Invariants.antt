-- `tidy_size::owners::rels_size` meets its contract. The loop's invariant: the size is that of the lines of the relationships before `i`. The measure is the
-- number of relationships left. Assumes nothing.
use Prim.Native.Nat.{◌-◌, ◌≤◌}
use Rattle.book_tables.specs.Fits.{Fits}
use Rattle.tidy_size.specs.Pieces.{rel_line}
use Rattle.tidy_size.specs.Sizes.{LinesSize}
use Rattle.tidy_size.proofs.owners.rels_size.Given as goal

abbrev pub invariant-loop-i : goal.invariant-loop-i
invariant-loop-i l =
    (l.i ≤ l.relationships) × LinesSize (λ text. Fits text l.words l.counts) (λ text. rel_line l.counts text l.words) l.i l.size
