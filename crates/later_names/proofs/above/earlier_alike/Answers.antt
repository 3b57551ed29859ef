-- `later_names::above::earlier_alike` meets its contract. The loop's invariant: the names alike that the walk has passed are counted, and are at most one.
use mathlib.Core.Path.{ap}
use native.Mathlib.Omega.{arith}
use Rattle.chains.proofs.WalkLaws.{begins_falling, begins_on, still_falling, stands_behind, still_on}
use Rattle.book_tables.specs.Layout.{node_links}
use Rattle.later_names.specs.Ends.{one}
use Rattle.later_names.proofs.NumberLaws.{node_named}
use Rattle.later_names.proofs.WalkLaws.{walk_first, falls, walk_next, walk_two, walk_over}
use Rattle.later_names.proofs.above.earlier_alike.Goals as goal

pub node_name-name-requires : goal.node_name-name-requires
node_name-name-requires c = record { counts = c.args.counts; fits = c.requires.0; counted = c.requires.1 }

pub behind-other-items-requires : goal.behind-other-items-requires
behind-other-items-requires c =
    let a = c.args in (
      omega (arith, c.requires.1, c.requires.0.room, c.requires.0.within.nodes),
      falls a.text.now a.words.now a.counts c.requires.0 a.node c.requires.1 _
          (node_named a.text.now a.words.now a.counts a.node _ c.requires.1 (c.node_name-name.ensures a.counts c.requires.1)),
    )

pub loop-other-init : goal.loop-other-init
loop-other-init c =
    let a = c.args in
    let o = c.behind-other-items.ensures in
    let named = node_named a.text.now a.words.now a.counts a.node _ c.requires.1 (c.node_name-name.ensures a.counts c.requires.1) in
    rw c.into_iter-other-iterator.ensures.into_iter_gives (
      begins_falling _ _ _ _ o (falls a.text.now a.words.now a.counts c.requires.0 a.node c.requires.1 _ named),
      tt,
      begins_on _ _ _ _ o,
      walk_first a.text.now a.words.now a.counts c.requires.0 a.node c.requires.1 _ named _ o.stands,
    )

pub overflow_add-other : goal.overflow_add-other
overflow_add-other c =
    omega (arith, c.requires.1, c.requires.0.within.nodes, c.loop-other.invariant.3.inside, c.in-Some.ensures.steps.0)

pub is_named-requires : goal.is_named-requires
is_named-requires c = (
  omega (arith, c.requires.1, c.requires.0.room, c.requires.0.within.nodes, c.loop-other.invariant.3.inside, c.in-Some.ensures.steps.0),
  c.requires.0.nodes.inside c.in-Some.other (omega (arith, c.requires.1, c.loop-other.invariant.3.inside, c.in-Some.ensures.steps.0)),
)

pub returns-then-found-gt0 : goal.returns-then-found-gt0
returns-then-found-gt0 c =
    let a = c.args in
    walk_two a.text.now a.words.now a.counts c.requires.0 a.node c.requires.1 _
    (node_named a.text.now a.words.now a.counts a.node _ c.requires.1 (c.node_name-name.ensures a.counts c.requires.1))
    c.in-Some.other c.loop-other.found (rw c.in-Some.ensures.steps.0 at c.loop-other.invariant.3) _ c.is_named.ensures
    c.if-found-gt0.true c.if-is_named.true

pub loop-other-preserved-then-is_named : goal.loop-other-preserved-then-is_named
loop-other-preserved-then-is_named c =
    let a = c.args in
    let s = c.in-Some.ensures.steps in
    let l = c.loop-other in
    let o = ap one c.if-is_named.true in (
      still_falling a.words.now node_links c.in-Some.other l.other-iterator c.next.new.self s l.invariant.0,
      tt,
      still_on a.words.now node_links c.in-Some.other l.other-iterator c.next.new.self s l.invariant.2,
      walk_next a.text.now a.words.now a.counts c.requires.0 a.node c.requires.1 _
          (node_named a.text.now a.words.now a.counts a.node _ c.requires.1 (c.node_name-name.ensures a.counts c.requires.1))
          c.in-Some.other l.found (rw s.0 at l.invariant.3) _ c.is_named.ensures
          _ 1 (stands_behind a.words.now node_links c.in-Some.other l.other-iterator c.next.new.self s l.invariant.2)
          (omega (arith, o)) (omega (arith, c.loop-other.invariant.3.few)),
    )

pub loop-other-preserved : goal.loop-other-preserved
loop-other-preserved c =
    let a = c.args in
    let s = c.in-Some.ensures.steps in
    let l = c.loop-other in
    let o = ap one c.if-is_named.false in (
      still_falling a.words.now node_links c.in-Some.other l.other-iterator c.next.new.self s l.invariant.0,
      tt,
      still_on a.words.now node_links c.in-Some.other l.other-iterator c.next.new.self s l.invariant.2,
      walk_next a.text.now a.words.now a.counts c.requires.0 a.node c.requires.1 _
          (node_named a.text.now a.words.now a.counts a.node _ c.requires.1 (c.node_name-name.ensures a.counts c.requires.1))
          c.in-Some.other l.found (rw s.0 at l.invariant.3) _ c.is_named.ensures
          _ l.found (stands_behind a.words.now node_links c.in-Some.other l.other-iterator c.next.new.self s l.invariant.2)
          (omega (arith, o)) (omega (arith, c.loop-other.invariant.3.few)),
    )

pub returns : goal.returns
returns c =
    let a = c.args in
    walk_over a.text.now a.words.now a.counts c.requires.0 a.node c.requires.1 _
    (node_named a.text.now a.words.now a.counts a.node _ c.requires.1 (c.node_name-name.ensures a.counts c.requires.1))
    c.loop-other.other-iterator.entry c.loop-other.found c.in-None.ensures.steps.0 c.loop-other.invariant.3
