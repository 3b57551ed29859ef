-- `is_actor` meets its contract: none of the names passed is the vertex's. Assumes nothing.
use Rattle.woven_tables.specs.Tables.{name_of}
use Rattle.book_tables.specs.View.{name_in}
use Rattle.book_tables.specs.Listed.{listed}
use Rattle.model.specs.Lists.{any}
use Rattle.model.specs.Bytes.{same}
use lib.ListN.{get_or}
use Prim.Native.Nat.{◌-◌, ◌≤◌}
use mathlib.Core.Bool.{false}
use mathlib.Core.Path.{◌≡◌}
use borrow.Author.Rules.{rules}
use Rattle.woven_tables.proofs.names.is_actor.Given as goal

abbrev pub invariant-loop-i : goal.invariant-loop-i
invariant-loop-i l = (l.i ≤ l.count) × (any (same (name_of l.query l.rules l.word)) (listed (λ j. name_in l.rules (get_or l.actors j 0)) l.i) ≡ false)
