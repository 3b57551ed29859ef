-- `rules::tests::lacks_lower` meets its contract. Assumes nothing.
use Prim.Native.Nat.{◌≤◌}
use mathlib.Core.Bool.{false}
use mathlib.Core.Path.{◌≡◌}
use Rattle.model.specs.Lists.{any}
use Rattle.model.specs.Choice.{just}
use Rattle.rules.proofs.TestLaws.{lacks_of}
use Rattle.name_lists.specs.Names.{NamesRead, names_behind}
use Rattle.book_tables.specs.Listed.{listed}
use Rattle.rules.proofs.tests.lacks_lower.Given as goal

abbrev pub invariant-loop-k : goal.invariant-loop-k
invariant-loop-k l = (l.k ≤ l.count)
    × ((x y : NamesRead) → names_behind l.s l.a ≡ just x → names_behind l.s l.o ≡ just y → any (lacks_of l.text l.words x.names y.names) (listed (λ i. i) l.k) ≡ false)
