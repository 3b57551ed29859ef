-- `tidy_size::owners::nodes_size` meets its contract. The loop's invariant: the size is that of the lines of the nodes before `i`. The measure is the
-- number of nodes left. Assumes nothing.
use Prim.Native.Nat.{◌-◌, ◌≤◌}
use Rattle.book_tables.specs.Fits.{Fits}
use Rattle.tidy_size.specs.Pieces.{node_line}
use Rattle.tidy_size.specs.Sizes.{LinesSize}
use Rattle.tidy_size.proofs.owners.nodes_size.Given as goal

abbrev pub invariant-loop-i : goal.invariant-loop-i
invariant-loop-i l = (l.i ≤ l.nodes) × LinesSize (λ text. Fits text l.words l.counts) (λ text. node_line l.counts text l.words) l.i l.size
