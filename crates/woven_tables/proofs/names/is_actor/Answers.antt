-- `is_actor` meets its contract: none of the names passed is the vertex's. Assumes nothing.
use Rattle.woven_tables.specs.Tables.{name_of, actors_at}
use Rattle.book_tables.specs.View.{name_in}
use Rattle.book_tables.proofs.ListedLaws.{scan_none, scan_on, scan_found}
use Rattle.book_tables.specs.Listed.{listed}
use Rattle.model.specs.Names.{mem}
use Rattle.model.specs.Lists.{any}
use Rattle.model.specs.Bytes.{same}
use Rattle.model.specs.Answers.{name_at}
use lib.ListN.{get_or}
use native.Mathlib.Omega.{arith}
use Prim.Native.Nat.{◌-◌}
use mathlib.Core.Bool.{false}
use mathlib.Core.Path.{◌≡◌, sym, ap, ◌∙◌}
use borrow.Author.Rules.{rules}
use Rattle.woven_tables.proofs.names.is_actor.Goals as goal

pub loop-i-init : goal.loop-i-init
loop-i-init c = (
  omega arith,
  scan_none (same (name_of c.args.query.now c.args.rules.now c.args.word))
      (λ j. name_in c.args.rules.now (get_or c.args.actors.now j 0)),
)

pub overflow_cast-w : goal.overflow_cast-w
overflow_cast-w c = omega (arith, c.type_inv.actors c.loop-i.i)

pub part_of-requires : goal.part_of-requires
part_of-requires c =
    c.requires.1 c.loop-i.i c.loop-i-test.true

pub returns-then-says : goal.returns-then-says
unfolding mem actors_at name_in name_at
returns-then-says c =
    sym (scan_found (same (name_of c.args.query.now c.args.rules.now c.args.word))
    (λ j. name_in c.args.rules.now (get_or c.args.actors.now j 0)) c.args.count c.loop-i.i
    c.loop-i-test.true (ap (same (name_of c.args.query.now c.args.rules.now c.args.word))
    (sym c.part_of.ensures) ∙ sym c.says.ensures ∙ c.if-says.true))

pub loop-i-preserved : goal.loop-i-preserved
unfolding name_in name_at
loop-i-preserved c = (
  omega arith,
  scan_on (same (name_of c.args.query.now c.args.rules.now c.args.word))
      (λ j. name_in c.args.rules.now (get_or c.args.actors.now j 0)) c.loop-i.i c.loop-i.invariant.1
      (ap (same (name_of c.args.query.now c.args.rules.now c.args.word)) (sym c.part_of.ensures)
      ∙ sym c.says.ensures ∙ c.if-says.false),
)

pub returns : goal.returns
unfolding mem actors_at name_in
returns c =
    let e : c.loop-i.i ≡ c.args.count = omega arith in
    sym (ap (λ n. any (same (name_of c.args.query.now c.args.rules.now c.args.word))
    (listed (λ j. name_in c.args.rules.now (get_or c.args.actors.now j 0)) n)) (sym e) ∙ c.loop-i.invariant.1)
