-- `tidy_size::owners::rel_size` meets its contract. Assumes nothing.
use Prim.Native.Nat.{◌+◌}
use native.Mathlib.Omega.{arith}
use Rattle.book_tables.specs.Layout.{relationships}
use Rattle.tidy_size.proofs.OwnerLaws.{rel_short, rel_size}
use Rattle.tidy_size.proofs.owners.rel_size.Goals as goal

pub overflow_cast-word : goal.overflow_cast-word
overflow_cast-word c = omega (arith, c.type_inv.words (relationships + c.args.i))

pub overflow_add-word-2 : goal.overflow_add-word-2
overflow_add-word-2 c = omega (arith, (c.requires.0.fits.rels c.args.i c.requires.1).label, c.requires.0.fits.within.labels)

pub name_size-label-requires : goal.name_size-label-requires
name_size-label-requires c =
    omega (arith, (c.requires.0.fits.rels c.args.i c.requires.1).label, c.requires.0.fits.within.labels, c.requires.0.fits.room)

pub entries_size-entries-requires : goal.entries_size-entries-requires
entries_size-entries-requires c =
    rel_short c.args.words.now c.args.counts c.args.i c.requires.1 c.requires.0

pub returns : goal.returns
returns c =
    rel_size c.args.words.now c.args.counts c.args.i c.requires.1 _ _ _ _ c.name_size-label.ensures
    c.name_size-from.ensures c.name_size-to.ensures c.requires.0.fits.within.eattrs c.entries_size-entries.ensures
