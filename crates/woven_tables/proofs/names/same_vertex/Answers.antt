-- `same_vertex` meets its contract, by the kinds of the two vertices. Assumes nothing.
use Rattle.woven_tables.proofs.NameLaws.{actor_and_actor, actor_and_own, own_and_actor, own_of_one_text, own_of_two_texts}
use mathlib.Core.Path.{sym, ◌∙◌}
use borrow.Author.Rules.{rules}
use Rattle.woven_tables.proofs.names.same_vertex.Goals as goal

pub returns-then-b-eq1 : goal.returns-then-b-eq1
returns-then-b-eq1 c =
    c.say_the_same.ensures ∙ sym (actor_and_actor c.args.query.now c.args.rules.now c.args.a c.args.b
    c.if-a-eq1.true c.if-b-eq1.true)

pub returns-then-a-eq1 : goal.returns-then-a-eq1
returns-then-a-eq1 c =
    sym (actor_and_own c.args.query.now c.args.rules.now c.args.a c.args.b c.if-a-eq1.true c.if-b-eq1.false)

pub returns-then-b-eq1-2 : goal.returns-then-b-eq1-2
returns-then-b-eq1-2 c =
    sym (own_and_actor c.args.query.now c.args.rules.now c.args.a c.args.b c.if-a-eq1.false c.if-b-eq1-2.true)

pub returns-then-name_a-name_b : goal.returns-then-name_a-name_b
returns-then-name_a-name_b c =
    c.say_the_same-then-name_a-name_b.ensures ∙ sym (own_of_one_text c.args.query.now c.args.rules.now c.args.a c.args.b
    c.if-a-eq1.false c.if-b-eq1-2.false c.if-name_a-name_b.true)

pub returns : goal.returns
returns c =
    sym (own_of_two_texts c.args.query.now c.args.rules.now c.args.a c.args.b c.if-a-eq1.false
    c.if-b-eq1-2.false c.if-name_a-name_b.false)
