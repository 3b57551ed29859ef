-- `rules::tests::lacks_one_of` meets its contract. Assumes nothing.
use Prim.Native.Nat.{◌≤◌}
use mathlib.Core.Bool.{true}
use mathlib.Core.Path.{◌≡◌}
use Rattle.model.specs.Names.{mem}
use Rattle.model.specs.Lists.{all}
use Rattle.model.specs.Choice.{just}
use Rattle.name_lists.specs.Names.{NamesRead, names_behind}
use Rattle.rules_tables.specs.Layout.{actors_from}
use Rattle.book_tables.specs.View.{name_of}
use Rattle.book_tables.specs.Listed.{listed}
use Rattle.rules.proofs.tests.lacks_one_of.Given as goal

abbrev pub invariant-loop-i : goal.invariant-loop-i
invariant-loop-i l = (l.i ≤ l.count)
    × ((x : NamesRead) → names_behind l.s l.a ≡ just x → all (λ w. mem w x.names) (listed (name_of l.text l.words (actors_from l.k)) l.i) ≡ true)
