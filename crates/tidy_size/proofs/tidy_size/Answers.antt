-- `tidy_size::tidy_size` meets its contract: the tidy text is the lines of five tables, and each size is that of one table's lines. Assumes nothing.
use native.Mathlib.Omega.{arith}
use Rattle.book_tables.specs.declared.Owner.TheVariants.{Node, Relationship}
use Rattle.tidy_size.proofs.TidyLaws.{tidy_length}
use Rattle.tidy_size.proofs.tidy_size.Goals as goal

-- the sum of all five fits, and so do the sums on the way to it
pub overflow_add-result-4 : goal.overflow_add-result-4
overflow_add-result-4 c =
    let w = c.requires.fits.within in
    omega (arith, (c.attrs_size-vattrs.ensures Node).small, (c.attrs_size-eattrs.ensures Node).small)

pub overflow_add-result : goal.overflow_add-result
overflow_add-result c = omega (arith, (c.attrs_size-vattrs.ensures Node).small, (c.attrs_size-eattrs.ensures Node).small, c.requires.fits.within)

pub overflow_add-result-2 : goal.overflow_add-result-2
overflow_add-result-2 c = omega (arith, (c.attrs_size-vattrs.ensures Node).small, (c.attrs_size-eattrs.ensures Node).small, c.requires.fits.within)

pub overflow_add-result-3 : goal.overflow_add-result-3
overflow_add-result-3 c = omega (arith, (c.attrs_size-vattrs.ensures Node).small, (c.attrs_size-eattrs.ensures Node).small, c.requires.fits.within)

pub returns : goal.returns
returns c =
    let a = c.args in
    λ text fits. omega (
      arith,
      tidy_length text a.words.now a.counts,
      (c.attrs_size-vattrs.ensures Node).is text fits.vattrs,
      (c.attrs_size-eattrs.ensures Relationship).is text fits.eattrs,
      c.labels_size-labels.ensures.is text fits.labels,
      c.nodes_size-nodes.ensures.is text fits,
      c.rels_size-rels.ensures.is text fits,
    )
