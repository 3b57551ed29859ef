-- `rules_tables::policies::policy_place` meets its contract. Assumes nothing.
use Prim.Native.Nat.{◌≤◌, ◌-◌}
use mathlib.Core.Bool.{false}
use mathlib.Core.Path.{◌≡◌}
use lib.Dec.{eqb}
use Rattle.model.specs.Lists.{any}
use Rattle.rules_tables.specs.View.{policy_category}
use Rattle.book_tables.specs.Listed.{listed}
use Rattle.rules_tables.proofs.policies.policy_place.Given as goal

abbrev pub invariant-loop-i : goal.invariant-loop-i
invariant-loop-i l = (l.i ≤ l.count) × (any (λ w. eqb w l.m) (listed (policy_category l.words) l.i) ≡ false)
