-- `count_exclusions` meets its contract. The loop's invariant: n of the first i clauses are exclusions. Assumes nothing.
use Rattle.model.specs.PlainData.{no_clause}
use lib.ListN.{get_or, length}
use Rattle.woven_tables.proofs.ClauseTable.{counted_none, counted_more, one_at_most}
use Rattle.woven_tables.specs.ClauseSteps.{ExclusionsCounted}
use native.Mathlib.Omega.{arith}
use mathlib.Core.Path.{◌≡◌, subst}
use Prim.Native.Nat.{◌-◌}
use borrow.Author.Rules.{rules}
use Rattle.woven_tables.proofs.clauses.count_exclusions.Goals as goal

pub loop-i-init : goal.loop-i-init
loop-i-init c = (omega arith, counted_none c.args.clauses)

pub overflow_add-n : goal.overflow_add-n
overflow_add-n c =
    omega (
      arith,
      c.loop-i.invariant.1.some,
      c.one_if_excluded-n.ensures,
      one_at_most
          (get_or c.args.clauses c.loop-i.i no_clause).condition,
    )

pub loop-i-preserved : goal.loop-i-preserved
loop-i-preserved c =
    let all : length c.args.clauses ≡ 32 = search rules in (
      omega arith,
      counted_more c.args.clauses c.loop-i.i c.loop-i.n
          c.one_if_excluded-n.result (omega arith) c.one_if_excluded-n.ensures c.loop-i.invariant.1,
    )

pub returns : goal.returns
returns c =
    let e : c.loop-i.i ≡ c.args.count = omega arith in
    subst (λ i. ExclusionsCounted c.args.clauses i c.loop-i.n) e c.loop-i.invariant.1
