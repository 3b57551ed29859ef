use native.Mathlib.Omega.{arith}
use lib.ListN.{length-set}
use Rattle.book_tables.specs.Stores.{with_attr}
use Rattle.book_tables.proofs.stores.store_attr.Goals as goal

pub bounds-words-offset-2 : goal.bounds-words-offset-2
bounds-words-offset-2 c = simp length-set (omega arith)

pub returns : goal.returns
unfolding with_attr
returns c = record { stored = rw (← c.tables-tables.ensures.is); counted = c.more_attrs.ensures }
