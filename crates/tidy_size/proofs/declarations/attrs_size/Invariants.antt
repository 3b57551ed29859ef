-- `tidy_size::declarations::attrs_size` meets its contract. The loop's invariant: the size is that of the lines of the attributes before `i`. The measure
-- is the number of attributes left. Assumes nothing.
use Prim.Native.Nat.{◌-◌, ◌≤◌}
use Rattle.book_tables.specs.declared.Owner.{Owner}
use Rattle.book_tables.specs.Fits.{NamesFit}
use Rattle.tidy_size.specs.Pieces.{attr_line}
use Rattle.tidy_size.specs.Sizes.{LinesSize}
use Rattle.tidy_size.proofs.declarations.attrs_size.Given as goal

abbrev pub invariant-loop-i : goal.invariant-loop-i
invariant-loop-i l =
    (l.i ≤ l.count) × ((owner : Owner) → LinesSize (λ text. NamesFit text l.words l.offset l.count) (λ text. attr_line owner text l.words l.offset) l.i l.size)
