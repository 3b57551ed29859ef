use mathlib.Core.Path.{◌∙◌}
use native.Mathlib.Omega.{arith}
use lib.ListN.{length-set}
use Rattle.book_tables.specs.Stores.{owner_stored, with_owner}
use Rattle.book_tables.proofs.stores.store_owner.Goals as goal

pub bounds-words-entries : goal.bounds-words-entries
bounds-words-entries c = simp length-set (omega arith)

pub add-requires : goal.add-requires
add-requires c = simp length-set (omega arith)

pub shape_of-words : goal.shape_of-words
shape_of-words c = c.words-1.given ∙ simp length-set

pub returns : goal.returns
unfolding owner_stored with_owner
returns c = record { stored = rw (← c.tables-tables.ensures.is) c.add.ensures; counted = c.more_owners.ensures }
