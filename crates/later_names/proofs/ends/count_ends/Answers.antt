-- `later_names::ends::count_ends` meets its contract. The loop's invariant: the ends of the relationships before i are counted.
use Prim.Native.Nat.{◌+◌}
use mathlib.Core.Path.{refl}
use native.Mathlib.Omega.{arith}
use Rattle.book_tables.specs.Layout.{relationships}
use Rattle.book_tables.specs.View.{from_part, to_part, rel_word}
use Rattle.later_names.proofs.EndLaws.{ends_none, ends_few, one_few, ends_more, ends_whole}
use Rattle.later_names.proofs.ends.count_ends.Goals as goal

pub loop-i-init : goal.loop-i-init
loop-i-init c = (omega arith, ends_none c.args.words.now)

pub overflow_cast-word : goal.overflow_cast-word
overflow_cast-word c = omega (arith, c.type_inv.words (relationships + c.loop-i.i))

pub overflow_add-ends : goal.overflow_add-ends
overflow_add-ends c =
    let l = c.loop-i in
    omega (arith, ends_few c.args.words.now l.i l.ends l.invariant.1 (from_part (rel_word c.args.words.now l.i)) (omega arith), c.requires.1)

pub overflow_add-ends-in-loop-i : goal.overflow_add-ends-in-loop-i
overflow_add-ends-in-loop-i c =
    let l = c.loop-i in
    let w = rel_word c.args.words.now l.i in
    omega (arith, one_few c.args.words.now l.i l.ends l.invariant.1 (from_part w) (omega arith) (to_part w) (omega arith), c.requires.1)

pub loop-i-preserved : goal.loop-i-preserved
loop-i-preserved c =
    let l = c.loop-i in
    let w = rel_word c.args.words.now l.i in (
      omega (arith, c.loop-i-test.true),
      ends_more c.args.words.now l.i l.ends l.invariant.1 (from_part w) (omega arith) (to_part w) (omega arith) refl refl,
    )

pub returns : goal.returns
returns c =
    let l = c.loop-i in
    ends_whole c.args.words.now l.i l.ends l.invariant.1 c.args.counts.relationships (omega (arith, l.invariant.0, c.loop-i-test.false))
