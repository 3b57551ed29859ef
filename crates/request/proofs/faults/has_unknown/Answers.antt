-- `request::faults::has_unknown` meets its contract. Assumes nothing.
use mathlib.Core.Path.{sym, ◌∙◌}
use native.Mathlib.Omega.{arith}
use Rattle.model.specs.Book.{node_names}
use Rattle.model.specs.Lists.{any}
use Rattle.book_tables.specs.View.{book_at}
use Rattle.rules_tables.specs.View.{actors_at}
use Rattle.request.specs.Claims.{is_unknown}
use Rattle.request.proofs.ClaimLaws.{placed_at, left_start, left_next, left_found, left_done, left_over}
use Rattle.request.proofs.FaultLaws.{any_none, any_found, any_other, no_actor, no_node_law, both_known}
use Rattle.request.proofs.faults.has_unknown.Goals as goal

pub loop-i-init : goal.loop-i-init
loop-i-init c =
    let a = c.args in
    let actors = actors_at a.rules.now a.table.now a.k in
    let nodes = node_names (book_at a.book.now a.words.now a.counts) in
    left_start (any (is_unknown actors nodes)) a.s.now a.from

pub returns-in_default : goal.returns-in_default
returns-in_default c =
    let a = c.args in
    let actors = actors_at a.rules.now a.table.now a.k in
    let nodes = node_names (book_at a.book.now a.words.now a.counts) in
    λ xs e. sym (any_none (is_unknown actors nodes))
    ∙ left_done (any (is_unknown actors nodes)) (any (is_unknown actors nodes)) a.s.now a.from c.loop-i.i c.loop-i.invariant
    (sym c.in_default.is ∙ c.next_claim.ensures.is) xs e

pub part_of-requires : goal.part_of-requires
part_of-requires c =
    let a = c.args in
    (placed_at a.s.now c.loop-i.i _ c.in-Some.is c.next_claim.ensures.placed).actor.inside

pub is_actor-requires : goal.is_actor-requires
is_actor-requires c =
    (c.requires.1, c.requires.2)

pub returns-then-not-is_actor : goal.returns-then-not-is_actor
returns-then-not-is_actor c =
    let a = c.args in
    let actors = actors_at a.rules.now a.table.now a.k in
    let nodes = node_names (book_at a.book.now a.words.now a.counts) in
    left_found (any (is_unknown actors nodes)) (any (is_unknown actors nodes)) a.s.now a.from c.loop-i.i _ _ _ _ c.loop-i.invariant
    (sym c.in-Some.is ∙ c.next_claim.ensures.is)
    (λ ys e. any_found (is_unknown actors nodes) _ ys
    (no_actor actors nodes _ (sym (rw c.part_of.ensures at c.is_actor.ensures) ∙ c.if-not-is_actor.true)))

pub part_of-requires-in-loop-i : goal.part_of-requires-in-loop-i
part_of-requires-in-loop-i c =
    let a = c.args in
    (placed_at a.s.now c.loop-i.i _ c.in-Some.is c.next_claim.ensures.placed).node.inside

pub is_node-requires : goal.is_node-requires
is_node-requires c =
    c.requires.0

pub returns-then-not-is_node : goal.returns-then-not-is_node
returns-then-not-is_node c =
    let a = c.args in
    let actors = actors_at a.rules.now a.table.now a.k in
    let nodes = node_names (book_at a.book.now a.words.now a.counts) in
    left_found (any (is_unknown actors nodes)) (any (is_unknown actors nodes)) a.s.now a.from c.loop-i.i _ _ _ _ c.loop-i.invariant
    (sym c.in-Some.is ∙ c.next_claim.ensures.is)
    (λ ys e. any_found (is_unknown actors nodes) _ ys
    (no_node_law actors nodes _ (sym (rw c.part_of.ensures at c.is_actor.ensures) ∙ c.if-not-is_actor.false)
    (sym (rw c.part_of-in-loop-i.ensures at c.is_node.ensures) ∙ c.if-not-is_node.true)))

pub loop-i-smaller : goal.loop-i-smaller
loop-i-smaller c =
    let a = c.args in
    omega (arith, (placed_at a.s.now c.loop-i.i _ c.in-Some.is c.next_claim.ensures.placed).onward)

pub loop-i-preserved : goal.loop-i-preserved
loop-i-preserved c =
    let a = c.args in
    let actors = actors_at a.rules.now a.table.now a.k in
    let nodes = node_names (book_at a.book.now a.words.now a.counts) in
    left_next (any (is_unknown actors nodes)) (any (is_unknown actors nodes)) a.s.now a.from c.loop-i.i (any (is_unknown actors nodes)) _ _ _
    c.loop-i.invariant (sym c.in-Some.is ∙ c.next_claim.ensures.is)
    (λ ys e. any_other (is_unknown actors nodes) _ ys
    (both_known actors nodes _ (sym (rw c.part_of.ensures at c.is_actor.ensures) ∙ c.if-not-is_actor.false)
    (sym (rw c.part_of-in-loop-i.ensures at c.is_node.ensures) ∙ c.if-not-is_node.false)))

pub returns : goal.returns
returns c =
    let a = c.args in
    let actors = actors_at a.rules.now a.table.now a.k in
    let nodes = node_names (book_at a.book.now a.words.now a.counts) in
    λ xs e. left_over (any (is_unknown actors nodes)) (any (is_unknown actors nodes)) a.s.now a.from c.loop-i.i c.loop-i.invariant
    c.loop-i-test.false xs e
