-- `rules_tables::policies::policy_place` meets its contract. Assumes nothing.
use Prim.Native.Nat.{◌+◌, ◌-◌, ◌*◌}
use mathlib.Core.Bool.{false}
use mathlib.Core.Path.{◌≡◌, sym}
use native.Mathlib.Omega.{arith}
use lib.Dec.{eqb}
use borrow.Author.Tests.{eq-eqb, ne_eqb}
use Rattle.rules_tables.specs.Enforced.{policy_place}
use Rattle.rules_tables.specs.View.{policy_category}
use Rattle.book_tables.proofs.ListedLaws.{scan_none, scan_on, scan_place, scan_absent}
use Rattle.rules_tables.proofs.policies.policy_place.Goals as goal

pub loop-i-init : goal.loop-i-init
loop-i-init c = (omega arith, scan_none (λ w. eqb w c.args.m) (policy_category c.args.words.now))

pub overflow_mul-i : goal.overflow_mul-i
overflow_mul-i c = omega (arith, c.requires.few_policies)

pub offset_bounds-words-i : goal.offset_bounds-words-i
offset_bounds-words-i c = omega (arith, c.requires.few_policies)

pub bounds-words-i : goal.bounds-words-i
bounds-words-i c = omega (arith, c.requires.few_policies, c.requires.room)

pub overflow_cast-words : goal.overflow_cast-words
overflow_cast-words c = omega (arith, c.type_inv.words (448 + 3 * c.loop-i.i))

pub returns-then-words-i : goal.returns-then-words-i
unfolding policy_place
returns-then-words-i c =
    sym (scan_place (λ w. eqb w c.args.m) (policy_category c.args.words.now) c.args.counts.policies
    c.loop-i.i c.loop-i-test.true c.loop-i.invariant.1 (eq-eqb _ _ c.if-words-i.true))

pub loop-i-preserved : goal.loop-i-preserved
loop-i-preserved c = (
  omega arith,
  scan_on (λ w. eqb w c.args.m) (policy_category c.args.words.now) c.loop-i.i
      c.loop-i.invariant.1 (ne_eqb _ _ c.if-words-i.false),
)

pub returns : goal.returns
unfolding policy_place
returns c =
    let e : c.loop-i.i ≡ c.args.counts.policies = omega arith in
    sym (scan_absent (λ w. eqb w c.args.m) (policy_category c.args.words.now) c.args.counts.policies
    (rw e at c.loop-i.invariant.1))
