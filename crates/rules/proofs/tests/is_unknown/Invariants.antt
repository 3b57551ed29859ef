-- `rules::tests::is_unknown` meets its contract. Assumes nothing.
use Prim.Native.Nat.{◌-◌}
use mathlib.Core.Bool.{not}
use lib.ListN.{length}
use Rattle.model.specs.Names.{mem}
use Rattle.model.specs.Lists.{all}
use Rattle.name_lists.specs.Names.{Left}
use Rattle.rules_tables.specs.Layout.{names}
use Rattle.book_tables.specs.View.{names_at}
use Rattle.rules.proofs.tests.is_unknown.Given as goal

abbrev pub invariant-loop-i : goal.invariant-loop-i
invariant-loop-i l = Left (λ ns. not (all (λ c. mem c (names_at l.text l.words names l.count)) ns))
    (λ ns. not (all (λ c. mem c (names_at l.text l.words names l.count)) ns)) l.s l.from l.i

abbrev pub decreases-loop-i : goal.decreases-loop-i
decreases-loop-i l = length l.s - l.i
