-- `find_identity` meets its contract. The loop's invariant: none of the first i identities is the vertex's. Assumes nothing.
use Rattle.weave.proofs.IdentityLaws.{compared, found_in, none_in, own_has_none, node_said}
use Rattle.weave.specs.Identities.{no_identity}
use Rattle.woven_tables.specs.Tables.{vertex_of_word, node_in}
use Rattle.logic.specs.Tests.{either, equal_or_not}
use Rattle.model.specs.Answers.{identity_in}
use Rattle.model.specs.Weave.{identified_by}
use lib.ListN.{length, get_or}
use native.Mathlib.Omega.{arith}
use mathlib.Core.Bool.{false}
use mathlib.Core.Path.{◌≡◌, sym, subst, ◌∙◌}
use Prim.Native.Nat.{◌-◌}
use borrow.Author.Rules.{rules}
use Rattle.weave.proofs.identities.find_identity.Goals as goal

pub loop-i-init : goal.loop-i-init
loop-i-init c = (omega arith, λ j h. absurd (omega arith))

pub part_of-name-requires : goal.part_of-name-requires
part_of-name-requires c =
    c.requires.0.actors c.loop-i.i c.loop-i-test.true

pub overflow_cast-result : goal.overflow_cast-result
overflow_cast-result c =
    let f = c.requires.0.nodes c.loop-i.i (omega arith) in omega arith

pub returns-then-says : goal.returns-then-says
returns-then-says c =
    let a = c.args in
    let all : length a.identities ≡ 8 = search rules in
    let few = c.requires.0.few in
    node_said _ (c.requires.0.nodes
    c.loop-i.i (omega arith))
    ∙ sym (found_in a.request.now a.identities a.count (omega arith) (vertex_of_word a.query.now a.rules.now a.word)
    c.loop-i.i c.loop-i-test.true
    c.loop-i.invariant.1
    (compared a.query.now a.rules.now a.request.now a.word
    (get_or a.identities c.loop-i.i no_identity) c.part_of-name.result.now
    c.says.result c.if-word-eq1.true
    c.part_of-name.ensures c.says.ensures ∙ c.if-says.true))

pub loop-i-preserved : goal.loop-i-preserved
loop-i-preserved c =
    let a = c.args in
    let one = get_or a.identities c.loop-i.i no_identity in
    let own : identified_by (vertex_of_word a.query.now a.rules.now a.word) (identity_in a.request.now one) ≡ false =
    compared a.query.now a.rules.now a.request.now a.word one
    c.part_of-name.result.now c.says.result c.if-word-eq1.true c.part_of-name.ensures c.says.ensures
    ∙ c.if-says.false in (
      omega arith,
      λ j h. either (equal_or_not j c.loop-i.i)
          (λ e. subst (λ z. identified_by (vertex_of_word a.query.now a.rules.now a.word)
          (identity_in a.request.now (get_or a.identities z no_identity)) ≡ false) (sym e) own)
          (λ e. let d = e.1 in c.loop-i.invariant.1 j (omega arith)),
    )

pub returns-then-word-eq1 : goal.returns-then-word-eq1
unfolding node_in
returns-then-word-eq1 c =
    let a = c.args in
    let all : length a.identities ≡ 8 = search rules in
    let few = c.requires.0.few in
    sym (none_in a.request.now a.identities a.count (omega arith) (vertex_of_word a.query.now a.rules.now a.word)
    (λ j h. c.loop-i.invariant.1 j (omega arith)))

pub returns : goal.returns
unfolding node_in
returns c =
    let a = c.args in
    let all : length a.identities ≡ 8 = search rules in
    let few = c.requires.0.few in
    sym (own_has_none a.request.now a.identities a.count (omega arith) a.query.now a.rules.now a.word c.if-word-eq1.false)
