-- `book_tables::relationships::is_related` meets its contract. The loop's invariant: no relationship that the walk has passed is the one.
-- Assumes nothing.
use native.Mathlib.Omega.{arith}
use Rattle.chains.proofs.WalkLaws.{begins_falling, begins_on, still_falling, stands_behind, still_on}
use Rattle.book_tables.specs.Layout.{from_links}
use Rattle.book_tables.proofs.Walks.{rels_first, rels_fall, rels_inside, rels_next, rel_found, rel_absent}
use Rattle.book_tables.proofs.relationships.is_related.Goals as goal

pub numbers-i-items-requires : goal.numbers-i-items-requires
numbers-i-items-requires c =
    let a = c.args in
    let m = c.requires.0.within in
    (omega (arith, c.requires.0.room), rels_fall a.text.now a.words.now a.counts c.requires.0 a.label a.from a.to c.requires.1 c.requires.2 c.requires.3)

pub loop-i-init : goal.loop-i-init
loop-i-init c =
    let a = c.args in
    let o = c.numbers-i-items.ensures in
    rw c.into_iter-i-iterator.ensures.into_iter_gives (
      begins_falling _ _ _ _ o (rels_fall a.text.now a.words.now a.counts c.requires.0 a.label a.from a.to c.requires.1 c.requires.2 c.requires.3),
      tt,
      begins_on _ _ _ _ o,
      rels_first a.text.now a.words.now a.counts c.requires.0 a.label a.from a.to c.requires.1 c.requires.2 c.requires.3 _ o.stands,
    )

pub overflow_add-i : goal.overflow_add-i
overflow_add-i c =
    let a = c.args in
    let m = c.requires.0.within in
    let i = rels_inside a.text.now a.words.now a.counts c.requires.0 a.label a.from a.to c.requires.1 c.requires.2 c.requires.3 c.in-Some.i
    (rw c.in-Some.ensures.steps.0 at c.loop-i.invariant.3) in
    omega (arith, c.requires.0.room)

pub offset_bounds-words-i : goal.offset_bounds-words-i
offset_bounds-words-i c =
    let a = c.args in
    let m = c.requires.0.within in
    let i = rels_inside a.text.now a.words.now a.counts c.requires.0 a.label a.from a.to c.requires.1 c.requires.2 c.requires.3 c.in-Some.i
    (rw c.in-Some.ensures.steps.0 at c.loop-i.invariant.3) in
    omega (arith, c.requires.0.room)

pub bounds-words-i : goal.bounds-words-i
bounds-words-i c =
    let a = c.args in
    let m = c.requires.0.within in
    let i = rels_inside a.text.now a.words.now a.counts c.requires.0 a.label a.from a.to c.requires.1 c.requires.2 c.requires.3 c.in-Some.i
    (rw c.in-Some.ensures.steps.0 at c.loop-i.invariant.3) in
    omega (arith, c.requires.0.room)

pub returns-then-words-i : goal.returns-then-words-i
returns-then-words-i c =
    let a = c.args in
    let s = c.in-Some.ensures.steps in
    rel_found a.text.now a.words.now a.counts c.requires.0 a.label a.from a.to c.requires.1 c.requires.2 c.requires.3 c.in-Some.i
    (rw s.0 at c.loop-i.invariant.3) c.if-words-i.true

pub loop-i-preserved : goal.loop-i-preserved
loop-i-preserved c =
    let a = c.args in
    let s = c.in-Some.ensures.steps in
    let l = c.loop-i in (
      still_falling a.words.now from_links c.in-Some.i l.i-iterator c.next.new.self s l.invariant.0,
      tt,
      still_on a.words.now from_links c.in-Some.i l.i-iterator c.next.new.self s l.invariant.2,
      rels_next a.text.now a.words.now a.counts c.requires.0 a.label a.from a.to c.requires.1 c.requires.2 c.requires.3 c.in-Some.i
          (rw s.0 at l.invariant.3) c.if-words-i.false _ (stands_behind a.words.now from_links c.in-Some.i l.i-iterator c.next.new.self s l.invariant.2),
    )

pub returns : goal.returns
returns c =
    let a = c.args in
    rel_absent a.text.now a.words.now a.counts c.requires.0 a.label a.from a.to c.requires.1 c.requires.2 c.requires.3
    c.loop-i.i-iterator.entry c.in-None.ensures.steps.0 c.loop-i.invariant.3
