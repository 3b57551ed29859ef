-- `find_vertex` meets its contract: none of the vertices passed is the same. Assumes nothing.
use Rattle.woven_tables.specs.Tables.{vertex_of_word}
use Rattle.book_tables.specs.Listed.{listed}
use Rattle.model.specs.Lists.{any}
use Rattle.model.specs.Weave.{same_vertex}
use lib.ListN.{get_or}
use Prim.Native.Nat.{◌-◌, ◌≤◌}
use mathlib.Core.Bool.{false}
use mathlib.Core.Path.{◌≡◌}
use borrow.Author.Rules.{rules}
use Rattle.woven_tables.proofs.names.find_vertex.Given as goal

abbrev pub invariant-loop-i : goal.invariant-loop-i
invariant-loop-i l = (l.i ≤ l.count)
    × (any (same_vertex (vertex_of_word l.query l.rules l.word)) (listed (λ j. vertex_of_word l.query l.rules (get_or l.words j 0)) l.i) ≡ false)
