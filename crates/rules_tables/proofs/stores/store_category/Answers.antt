-- `rules_tables::stores::store_category` meets its contract. Assumes nothing.
use native.Mathlib.Omega.{arith}
use lib.ListN.{length-set}
use borrow.Author.Rules.{rules}
use Rattle.rules_tables.specs.Stores.{with_category}
use Rattle.rules_tables.proofs.stores.store_category.Goals as goal

pub bounds-words-k-2 : goal.bounds-words-k-2
bounds-words-k-2 c = simp length-set (omega arith)

pub bounds-words-k-3 : goal.bounds-words-k-3
bounds-words-k-3 c = simp length-set (omega arith)

pub bounds-words-k-4 : goal.bounds-words-k-4
bounds-words-k-4 c = simp length-set (omega arith)

pub shape_of-words : goal.shape_of-words
shape_of-words c = simp length-set

pub returns : goal.returns
unfolding with_category
returns c = search rules
