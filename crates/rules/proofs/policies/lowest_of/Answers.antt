-- `rules::policies::lowest_of` meets its contract. Assumes nothing.
use borrow.Author.Tests.{eq-eqb, ne_eqb}
use Rattle.rules.specs.Policies.{combined}
use Rattle.rules.proofs.policies.lowest_of.Goals as goal

pub returns-then-fault-eq-BROKEN : goal.returns-then-fault-eq-BROKEN
unfolding combined
returns-then-fault-eq-BROKEN c = rw (eq-eqb c.args.fault 3 c.if-fault-eq-BROKEN.true)

pub returns-then-unknown : goal.returns-then-unknown
unfolding combined
returns-then-unknown c = rw (ne_eqb c.args.fault 3 c.if-fault-eq-BROKEN.false, c.if-unknown.true)

pub returns-then-fault-eq-NOT_DECLARED : goal.returns-then-fault-eq-NOT_DECLARED
unfolding combined
returns-then-fault-eq-NOT_DECLARED c = rw (
  ne_eqb c.args.fault 3 c.if-fault-eq-BROKEN.false,
  c.if-unknown.false,
  eq-eqb
      c.args.fault 4 c.if-fault-eq-NOT_DECLARED.true,
)

pub returns-then-second : goal.returns-then-second
unfolding combined
returns-then-second c =
    rw (
      ne_eqb c.args.fault 3 c.if-fault-eq-BROKEN.false,
      c.if-unknown.false,
      ne_eqb c.args.fault 4
          c.if-fault-eq-NOT_DECLARED.false,
      c.if-second.true,
    )

pub returns-then-fault-eq-SECOND_TIME : goal.returns-then-fault-eq-SECOND_TIME
unfolding combined
returns-then-fault-eq-SECOND_TIME c =
    rw (
      ne_eqb c.args.fault 3 c.if-fault-eq-BROKEN.false,
      c.if-unknown.false,
      ne_eqb c.args.fault 4
          c.if-fault-eq-NOT_DECLARED.false,
      c.if-second.false,
      eq-eqb c.args.fault 5 c.if-fault-eq-SECOND_TIME.true,
    )

pub returns-then-fault-eq-OTHER_TYPE : goal.returns-then-fault-eq-OTHER_TYPE
unfolding combined
returns-then-fault-eq-OTHER_TYPE c =
    rw (
      ne_eqb c.args.fault 3 c.if-fault-eq-BROKEN.false,
      c.if-unknown.false,
      ne_eqb c.args.fault 4 c.if-fault-eq-NOT_DECLARED.false,
      c.if-second.false,
      ne_eqb c.args.fault 5 c.if-fault-eq-SECOND_TIME.false,
      eq-eqb c.args.fault 6 c.if-fault-eq-OTHER_TYPE.true,
    )

pub returns-then-long : goal.returns-then-long
unfolding combined
returns-then-long c =
    rw (
      ne_eqb c.args.fault 3 c.if-fault-eq-BROKEN.false,
      c.if-unknown.false,
      ne_eqb c.args.fault 4
          c.if-fault-eq-NOT_DECLARED.false,
      c.if-second.false,
      ne_eqb c.args.fault 5 c.if-fault-eq-SECOND_TIME.false,
      ne_eqb
          c.args.fault 6 c.if-fault-eq-OTHER_TYPE.false,
      c.if-long.true,
    )

pub returns : goal.returns
unfolding combined
returns c =
    rw (
      ne_eqb c.args.fault 3 c.if-fault-eq-BROKEN.false,
      c.if-unknown.false,
      ne_eqb c.args.fault 4
          c.if-fault-eq-NOT_DECLARED.false,
      c.if-second.false,
      ne_eqb c.args.fault 5 c.if-fault-eq-SECOND_TIME.false,
      ne_eqb
          c.args.fault 6 c.if-fault-eq-OTHER_TYPE.false,
      c.if-long.false,
    )
