-- `book_tables::names::find_name` meets its contract. The loop's invariant: no name before i is the name. Assumes nothing.
use Rattle.book_tables.specs.View.{name_of}
use Rattle.book_tables.specs.Listed.{listed}
use Rattle.model.specs.Lists.{any}
use Rattle.model.specs.Bytes.{same}
use mathlib.Core.Bool.{false}
use mathlib.Core.Path.{◌≡◌}
use Prim.Native.Nat.{◌≤◌}
use Rattle.book_tables.proofs.names.find_name.Given as goal

abbrev pub invariant-loop-i : goal.invariant-loop-i
invariant-loop-i l = (l.i ≤ l.count) × (any (same l.name) (listed (name_of l.text l.words l.offset) l.i) ≡ false)
