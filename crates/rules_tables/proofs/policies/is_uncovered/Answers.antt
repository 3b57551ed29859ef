-- `rules_tables::policies::is_uncovered` meets its contract. Assumes nothing.
use Prim.Native.Nat.{◌-◌}
use mathlib.Core.Bool.{false}
use mathlib.Core.Path.{◌≡◌, sym, ◌∙◌}
use native.Mathlib.Omega.{arith}
use Rattle.rules_tables.specs.Enforced.{uncovered, uncovered_in}
use Rattle.book_tables.proofs.ListedLaws.{scan_none, scan_on, scan_found}
use Rattle.rules_tables.proofs.policies.is_uncovered.Goals as goal

pub loop-k-init : goal.loop-k-init
loop-k-init c = (omega arith, scan_none (uncovered c.args.words.now c.args.counts) (λ i. i))

pub lacks_policy-requires : goal.lacks_policy-requires
lacks_policy-requires c = (c.requires, omega (arith, c.requires.few))

pub returns-then-lacks_policy : goal.returns-then-lacks_policy
unfolding uncovered_in
returns-then-lacks_policy c =
    sym (scan_found (uncovered c.args.words.now c.args.counts) (λ i. i) c.args.counts.categories
    c.loop-k.k c.loop-k-test.true (sym c.lacks_policy.ensures ∙ c.if-lacks_policy.true))

pub loop-k-preserved : goal.loop-k-preserved
loop-k-preserved c = (
  omega arith,
  scan_on (uncovered c.args.words.now c.args.counts) (λ i. i) c.loop-k.k
      c.loop-k.invariant.1 (sym c.lacks_policy.ensures ∙ c.if-lacks_policy.false),
)

pub returns : goal.returns
unfolding uncovered_in
returns c = let e : c.loop-k.k ≡ c.args.counts.categories = omega arith in sym (rw e at c.loop-k.invariant.1)
