-- `request::stores::identities` meets its contract. Assumes nothing.
use mathlib.Core.Path.{sym, ◌∙◌}
use native.Mathlib.Omega.{arith}
use Rattle.model.specs.Bytes.{bytes_of}
use Rattle.model.specs.Book.{node_names}
use Rattle.book_tables.specs.View.{book_at}
use Rattle.rules_tables.specs.View.{actors_at}
use Rattle.request.proofs.ClaimLaws.{placed_at}
use Rattle.request.proofs.FaultLaws.{no_actor, no_node_law, both_known, is_4, is_5, is_11, is_none, few_actors, node_unknown, node_known}
use Rattle.request.proofs.StoreLaws.{storing_start, count_few, unknown_here, unknown_behind, second_time, has_room, storing_next}
use Rattle.request.proofs.StoreLaws.{all_known, all_once, all_named, stored, stored_over}
use Rattle.request.proofs.stores.identities.Goals as goal

pub loop-i-init : goal.loop-i-init
loop-i-init c =
    let a = c.args in
    let b = book_at a.book.now a.words.now a.counts in
    storing_start b a.counts.nodes (actors_at a.rules.now a.table.now a.k) a.s.now a.from c.requires.3

pub is_given-requires : goal.is_given-requires
is_given-requires c =
    let a = c.args in
    let few = few_actors a.rules.now a.table.now a.sizes c.requires.1 a.k c.requires.2 in
    (count_few c.loop-i.invariant few, c.loop-i.invariant.inside)

pub returns-then-is_given : goal.returns-then-is_given
returns-then-is_given c =
    let a = c.args in
    let b = book_at a.book.now a.words.now a.counts in
    let few = few_actors a.rules.now a.table.now a.sizes c.requires.1 a.k c.requires.2 in
    let n = sym c.in_default.is ∙ c.next_claim.ensures.is in (
      λ w xs e d. is_none a.rules.now a.table.now a.sizes c.requires.1 b w a.k e xs c.requires.2
          (all_known c.loop-i.invariant n xs d) (all_once c.loop-i.invariant n xs d)
          (all_named c.loop-i.invariant n xs d (bytes_of "requestor") _ c.is_given.ensures ∙ c.if-is_given.true),
      λ xs d. stored c.loop-i.invariant n xs d few,
    )

pub returns-in_default : goal.returns-in_default
returns-in_default c =
    let a = c.args in
    let b = book_at a.book.now a.words.now a.counts in
    let n = sym c.in_default.is ∙ c.next_claim.ensures.is in
    λ w xs e d. is_11 a.rules.now a.table.now a.sizes c.requires.1 b w a.k e xs c.requires.2
    (all_known c.loop-i.invariant n xs d) (all_once c.loop-i.invariant n xs d)
    (all_named c.loop-i.invariant n xs d (bytes_of "requestor") _ c.is_given.ensures ∙ c.if-is_given.false)

pub part_of-name-requires : goal.part_of-name-requires
part_of-name-requires c =
    let a = c.args in
    (placed_at a.s.now c.loop-i.i _ c.in-Some.is c.next_claim.ensures.placed).actor.inside

pub is_actor-requires : goal.is_actor-requires
is_actor-requires c =
    (c.requires.1, c.requires.2)

pub returns-then-not-is_actor : goal.returns-then-not-is_actor
returns-then-not-is_actor c =
    let a = c.args in
    let b = book_at a.book.now a.words.now a.counts in
    let actors = actors_at a.rules.now a.table.now a.k in
    let n = sym c.in-Some.is ∙ c.next_claim.ensures.is in
    let none = no_actor actors (node_names b) _
    (sym (rw c.part_of-name.ensures at c.is_actor.ensures) ∙ c.if-not-is_actor.true) in
    λ w xs e d. is_4 a.rules.now a.table.now a.sizes c.requires.1 b w a.k e xs c.requires.2
    (unknown_here c.loop-i.invariant _ _ _ n none xs d)

pub part_of-requires : goal.part_of-requires
part_of-requires c =
    let a = c.args in
    (placed_at a.s.now c.loop-i.i _ c.in-Some.is c.next_claim.ensures.placed).node.inside

pub find_node-number-requires : goal.find_node-number-requires
find_node-number-requires c =
    c.requires.0

pub returns-then-counts-number : goal.returns-then-counts-number
returns-then-counts-number c =
    let a = c.args in
    let b = book_at a.book.now a.words.now a.counts in
    let actors = actors_at a.rules.now a.table.now a.k in
    let n = sym c.in-Some.is ∙ c.next_claim.ensures.is in
    let none = no_node_law actors (node_names b) _ (sym (rw c.part_of-name.ensures at c.is_actor.ensures) ∙ c.if-not-is_actor.false)
    (node_unknown a.book.now a.words.now a.counts _ _ (rw c.part_of.ensures at c.find_node-number.ensures)
    c.if-counts-number.true) in
    λ w xs e d. is_4 a.rules.now a.table.now a.sizes c.requires.1 b w a.k e xs c.requires.2
    (unknown_here c.loop-i.invariant _ _ _ n none xs d)

pub is_given-requires-in-loop-i : goal.is_given-requires-in-loop-i
is_given-requires-in-loop-i c =
    let a = c.args in
    let few = few_actors a.rules.now a.table.now a.sizes c.requires.1 a.k c.requires.2 in
    (count_few c.loop-i.invariant few, c.loop-i.invariant.inside)

pub has_unknown-requires : goal.has_unknown-requires
has_unknown-requires c =
    (c.requires.0, c.requires.1, c.requires.2)

pub returns-then-has_unknown : goal.returns-then-has_unknown
returns-then-has_unknown c =
    let a = c.args in
    let b = book_at a.book.now a.words.now a.counts in
    let actors = actors_at a.rules.now a.table.now a.k in
    let n = sym c.in-Some.is ∙ c.next_claim.ensures.is in
    let known = both_known actors (node_names b) _
    (sym (rw c.part_of-name.ensures at c.is_actor.ensures) ∙ c.if-not-is_actor.false)
    (node_known a.book.now a.words.now a.counts _ _ (rw c.part_of.ensures at c.find_node-number.ensures)
    c.if-counts-number.false) in
    λ w xs e d. is_4 a.rules.now a.table.now a.sizes c.requires.1 b w a.k e xs c.requires.2
    (unknown_behind c.loop-i.invariant _ _ _ n known _ c.has_unknown.ensures xs d ∙ c.if-has_unknown.true)

pub returns-then-is_given-2 : goal.returns-then-is_given-2
returns-then-is_given-2 c =
    let a = c.args in
    let b = book_at a.book.now a.words.now a.counts in
    let actors = actors_at a.rules.now a.table.now a.k in
    let n = sym c.in-Some.is ∙ c.next_claim.ensures.is in
    let known = both_known actors (node_names b) _
    (sym (rw c.part_of-name.ensures at c.is_actor.ensures) ∙ c.if-not-is_actor.false)
    (node_known a.book.now a.words.now a.counts _ _ (rw c.part_of.ensures at c.find_node-number.ensures)
    c.if-counts-number.false) in
    λ w xs e d. is_5 a.rules.now a.table.now a.sizes c.requires.1 b w a.k e xs c.requires.2
    (unknown_behind c.loop-i.invariant _ _ _ n known _ c.has_unknown.ensures xs d ∙ c.if-has_unknown.false)
    (second_time c.loop-i.invariant _ _ _ n known _ (rw c.part_of-name.ensures at c.is_given-in-loop-i.ensures) c.if-is_given-2.true xs d)

pub offset_bounds-list-count : goal.offset_bounds-list-count
offset_bounds-list-count c =
    omega (arith, (let a = c.args in let b = book_at a.book.now a.words.now a.counts in let actors = actors_at a.rules.now a.table.now a.k in let few = few_actors a.rules.now a.table.now a.sizes c.requires.1 a.k c.requires.2 in let n = sym c.in-Some.is ∙ c.next_claim.ensures.is in let known = both_known actors (node_names b) _ (sym (rw c.part_of-name.ensures at c.is_actor.ensures) ∙ c.if-not-is_actor.false) (node_known a.book.now a.words.now a.counts _ _ (rw c.part_of.ensures at c.find_node-number.ensures) c.if-counts-number.false) in has_room c.loop-i.invariant _ _ _ n known _ (rw c.part_of-name.ensures at c.is_given-in-loop-i.ensures) c.if-is_given-2.false few), c.loop-i.invariant.size)

pub bounds-list-count : goal.bounds-list-count
bounds-list-count c =
    omega (arith, (let a = c.args in let b = book_at a.book.now a.words.now a.counts in let actors = actors_at a.rules.now a.table.now a.k in let few = few_actors a.rules.now a.table.now a.sizes c.requires.1 a.k c.requires.2 in let n = sym c.in-Some.is ∙ c.next_claim.ensures.is in let known = both_known actors (node_names b) _ (sym (rw c.part_of-name.ensures at c.is_actor.ensures) ∙ c.if-not-is_actor.false) (node_known a.book.now a.words.now a.counts _ _ (rw c.part_of.ensures at c.find_node-number.ensures) c.if-counts-number.false) in has_room c.loop-i.invariant _ _ _ n known _ (rw c.part_of-name.ensures at c.is_given-in-loop-i.ensures) c.if-is_given-2.false few), c.loop-i.invariant.size)

pub overflow_add-count : goal.overflow_add-count
overflow_add-count c = omega (arith, (let a = c.args in let b = book_at a.book.now a.words.now a.counts in let actors = actors_at a.rules.now a.table.now a.k in let few = few_actors a.rules.now a.table.now a.sizes c.requires.1 a.k c.requires.2 in let n = sym c.in-Some.is ∙ c.next_claim.ensures.is in let known = both_known actors (node_names b) _ (sym (rw c.part_of-name.ensures at c.is_actor.ensures) ∙ c.if-not-is_actor.false) (node_known a.book.now a.words.now a.counts _ _ (rw c.part_of.ensures at c.find_node-number.ensures) c.if-counts-number.false) in has_room c.loop-i.invariant _ _ _ n known _ (rw c.part_of-name.ensures at c.is_given-in-loop-i.ensures) c.if-is_given-2.false few))

pub loop-i-smaller : goal.loop-i-smaller
loop-i-smaller c =
    let a = c.args in
    omega (arith, (placed_at a.s.now c.loop-i.i _ c.in-Some.is c.next_claim.ensures.placed).onward)

pub loop-i-preserved : goal.loop-i-preserved
loop-i-preserved c =
    let a = c.args in
    let b = book_at a.book.now a.words.now a.counts in
    let actors = actors_at a.rules.now a.table.now a.k in
    let few = few_actors a.rules.now a.table.now a.sizes c.requires.1 a.k c.requires.2 in
    let n = sym c.in-Some.is ∙ c.next_claim.ensures.is in
    let found = rw c.part_of.ensures at c.find_node-number.ensures in
    let known = both_known actors (node_names b) _
    (sym (rw c.part_of-name.ensures at c.is_actor.ensures) ∙ c.if-not-is_actor.false)
    (node_known a.book.now a.words.now a.counts _ _ found c.if-counts-number.false) in
    storing_next c.loop-i.invariant _ _ _ n known _ (rw c.part_of-name.ensures at c.is_given-in-loop-i.ensures) c.if-is_given-2.false
    (placed_at a.s.now c.loop-i.i _ c.in-Some.is c.next_claim.ensures.placed) _ found
    c.if-counts-number.false few

pub returns : goal.returns
returns c =
    let a = c.args in
    λ w xs e d. stored_over c.loop-i.invariant c.loop-i-test.false
