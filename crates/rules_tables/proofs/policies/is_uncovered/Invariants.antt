-- `rules_tables::policies::is_uncovered` meets its contract. Assumes nothing.
use Prim.Native.Nat.{◌≤◌, ◌-◌}
use mathlib.Core.Bool.{false}
use mathlib.Core.Path.{◌≡◌}
use Rattle.model.specs.Lists.{any}
use Rattle.rules_tables.specs.Enforced.{uncovered}
use Rattle.book_tables.specs.Listed.{listed}
use Rattle.rules_tables.proofs.policies.is_uncovered.Given as goal

abbrev pub invariant-loop-k : goal.invariant-loop-k
invariant-loop-k l = (l.k ≤ l.count) × (any (uncovered l.words l.counts) (listed (λ i. i) l.k) ≡ false)
