-- `book_tables::names::find_alike` meets its contract. The loop's invariant: no node that the walk has passed is taken for the name. Assumes nothing.
use native.Mathlib.Omega.{arith}
use Rattle.chains.proofs.SlotLaws.{slot_small}
use Rattle.chains.proofs.WalkLaws.{begins_falling, begins_on, still_falling, stands_behind, still_on}
use Rattle.book_tables.specs.Layout.{node_links}
use Rattle.book_tables.proofs.Walks.{nodes_first, nodes_fall, nodes_inside, nodes_next, node_found, node_absent}
use Rattle.book_tables.proofs.names.find_alike.Goals as goal

pub numbers-node-items-requires : goal.numbers-node-items-requires
numbers-node-items-requires c =
    let a = c.args in
    let m = c.requires.within in
    (omega (arith, c.requires.room, c.slot.ensures, slot_small a.name.now), nodes_fall a.rule a.text.now a.words.now a.counts c.requires a.name.now _ c.slot.ensures)

pub loop-node-init : goal.loop-node-init
loop-node-init c =
    let a = c.args in
    let o = c.numbers-node-items.ensures in
    rw c.into_iter-node-iterator.ensures.into_iter_gives (
      begins_falling _ _ _ _ o (nodes_fall a.rule a.text.now a.words.now a.counts c.requires a.name.now _ c.slot.ensures),
      tt,
      begins_on _ _ _ _ o,
      nodes_first a.rule a.text.now a.words.now a.counts c.requires a.name.now _ _ c.slot.ensures o.stands,
    )

pub overflow_add-node : goal.overflow_add-node
overflow_add-node c =
    let a = c.args in
    let m = c.requires.within in
    let i = nodes_inside a.rule a.text.now a.words.now a.counts c.requires a.name.now c.in-Some.node
    (rw c.in-Some.ensures.steps.0 at c.loop-node.invariant.3) in
    omega arith

pub is_named-requires : goal.is_named-requires
is_named-requires c =
    let a = c.args in
    let m = c.requires.within in
    let i = nodes_inside a.rule a.text.now a.words.now a.counts c.requires a.name.now c.in-Some.node
    (rw c.in-Some.ensures.steps.0 at c.loop-node.invariant.3) in
    (omega (arith, c.requires.room), c.requires.nodes.inside c.in-Some.node i)

pub returns-then-is_named : goal.returns-then-is_named
returns-then-is_named c =
    let a = c.args in
    node_found a.rule a.text.now a.words.now a.counts c.requires a.name.now c.in-Some.node
    (rw c.in-Some.ensures.steps.0 at c.loop-node.invariant.3) _ c.is_named.ensures c.if-is_named.true

pub loop-node-preserved : goal.loop-node-preserved
loop-node-preserved c =
    let a = c.args in
    let s = c.in-Some.ensures.steps in
    let l = c.loop-node in (
      still_falling a.words.now node_links c.in-Some.node l.node-iterator c.next.new.self s l.invariant.0,
      tt,
      still_on a.words.now node_links c.in-Some.node l.node-iterator c.next.new.self s l.invariant.2,
      nodes_next a.rule a.text.now a.words.now a.counts c.requires a.name.now c.in-Some.node (rw s.0 at l.invariant.3) _ c.is_named.ensures
          c.if-is_named.false _ (stands_behind a.words.now node_links c.in-Some.node l.node-iterator c.next.new.self s l.invariant.2),
    )

pub returns : goal.returns
returns c =
    let a = c.args in
    node_absent a.rule a.text.now a.words.now a.counts c.requires a.name.now
    c.loop-node.node-iterator.entry c.in-None.ensures.steps.0 c.loop-node.invariant.3
