-- `tidy_size::owners::node_size` meets its contract. Assumes nothing.
use Rattle.tidy_size.proofs.OwnerLaws.{node_short, node_size}
use Rattle.tidy_size.proofs.owners.node_size.Goals as goal

pub entries_size-entries-requires : goal.entries_size-entries-requires
entries_size-entries-requires c = node_short c.args.words.now c.args.counts c.args.i c.requires.1 c.requires.0

pub returns : goal.returns
returns c =
    node_size c.args.words.now c.args.counts c.args.i c.requires.1 _ _ c.name_size.ensures c.requires.0.fits.within.vattrs
    c.entries_size-entries.ensures
