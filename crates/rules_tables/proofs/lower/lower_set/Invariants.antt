-- `rules_tables::lower::lower_set` meets its contract. Assumes nothing.
use Prim.Native.Nat.{ℕ, ◌≤◌, ◌-◌}
use mathlib.Core.Bool.{◌||◌}
use mathlib.Core.Path.{◌≡◌}
use lib.Dec.{eqb}
use Rattle.bits.specs.Word.{bit}
use Rattle.rules_tables.specs.Fits.{below_some}
use Rattle.rules_tables.specs.Layout.{over_from}
use Rattle.book_tables.specs.View.{names_at}
use Rattle.rules_tables.proofs.lower.lower_set.Given as goal

abbrev pub invariant-loop-i : goal.invariant-loop-i
invariant-loop-i l = (l.i ≤ l.over) × ((m : ℕ) → bit l.set m ≡ (eqb m l.k || below_some l.text l.words l.k m (names_at l.text l.words (over_from l.k) l.i)))
