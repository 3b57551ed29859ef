-- `rules::categories::store_names` meets its contract. Assumes nothing.
use Prim.Native.Nat.{◌≤◌, ◌-◌}
use mathlib.Core.Path.{◌≡◌}
use lib.ListN.{length}
use Rattle.model.specs.Choice.{just}
use Rattle.rules.specs.Stored.{Storing}
use Rattle.name_lists.specs.Names.{NamesRead, names_behind}
use Rattle.rules.proofs.categories.store_names.Given as goal

abbrev pub invariant-loop-i : goal.invariant-loop-i
invariant-loop-i l = (length l.words ≡ length l.initial.words) × (l.n ≤ l.i)
    × ((x : NamesRead) → names_behind l.s l.from ≡ just x → Storing l.initial.words l.words l.at l.s l.base l.i l.n x.names)

abbrev pub decreases-loop-i : goal.decreases-loop-i
decreases-loop-i l = length l.s - l.i
