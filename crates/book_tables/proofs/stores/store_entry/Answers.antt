use native.Mathlib.Omega.{arith}
use lib.ListN.{length-set}
use Rattle.book_tables.specs.Stores.{with_entry}
use borrow.Author.Rules.{rules}
use Rattle.book_tables.proofs.stores.store_entry.Goals as goal

pub bounds-words-k-2 : goal.bounds-words-k-2
bounds-words-k-2 c = simp length-set (omega arith)

pub bounds-words-k-3 : goal.bounds-words-k-3
bounds-words-k-3 c = simp length-set (omega arith)

pub returns : goal.returns
unfolding with_entry
returns c = search rules
