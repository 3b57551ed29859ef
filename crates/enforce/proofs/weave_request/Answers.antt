-- `weave_request` meets its contract: 12 where the texts pass a limit, 13 where a vertex is not tied, or all is woven. Assumes nothing.
use mathlib.Core.Path.{refl, subst}
use native.Mathlib.Omega.{arith}
use Rattle.book_tables.specs.View.{book_at}
use Rattle.weave.specs.Identities.{identities_in, Finished}
use Rattle.std.specs.Prelude.{Ok, Err}
use Rattle.enforce.specs.Woven.{PoliciesWoven}
use Rattle.enforce.proofs.AnswerLaws.{answer_for, finish_ready, not_tied, all_woven}
use Rattle.enforce.proofs.weave_request.Goals as goal

pub returns-in_default : goal.returns-in_default
returns-in_default c =
    let a = c.args in
    let given = c.requires.0 in
    let old = c.weave_texts.new.woven in
    answer_for a.book.now a.words.now a.ready.book a.query.now a.rules.now a.rules_words.now a.ready.rules
    a.ready.request.category given.texts a.request.now a.ready.request refl old (Err 12)
    (subst (PoliciesWoven (book_at a.book.now a.words.now a.ready.book) a.ready.book a.query.now a.rules.now
    a.rules_words.now a.ready.rules a.ready.request.category old) c.in_default.is c.weave_texts.ensures
    (identities_in a.request.now a.ready.request.identities a.ready.request.count))

pub finish-requires : goal.finish-requires
finish-requires c =
    let a = c.args in
    let given = c.requires.0 in
    let old = c.weave_texts.new.woven in
    finish_ready a.book.now a.words.now a.ready.book a.query.now a.rules.now a.rules_words.now a.ready.rules
    a.ready.request.category given.texts old old _
    (subst (PoliciesWoven (book_at a.book.now a.words.now a.ready.book) a.ready.book a.query.now a.rules.now
    a.rules_words.now a.ready.rules a.ready.request.category old) c.in-Some.is
    c.weave_texts.ensures) _ _ _ given.identified

pub returns-then-finish : goal.returns-then-finish
returns-then-finish c =
    let a = c.args in
    let given = c.requires.0 in
    let old = c.weave_texts.new.woven in
    let new = c.finish.new.words in
    let held = subst (PoliciesWoven (book_at a.book.now a.words.now a.ready.book) a.ready.book a.query.now a.rules.now
    a.rules_words.now a.ready.rules a.ready.request.category old) c.in-Some.is c.weave_texts.ensures in
    answer_for a.book.now a.words.now a.ready.book a.query.now a.rules.now a.rules_words.now a.ready.rules
    a.ready.request.category given.texts a.request.now a.ready.request refl new (Ok _)
    (all_woven a.book.now a.words.now a.ready.book a.query.now a.rules.now a.rules_words.now a.ready.rules
    a.ready.request.category given.texts old new _ held
    (identities_in a.request.now a.ready.request.identities a.ready.request.count)
    (subst (Finished a.query.now a.rules.now (identities_in a.request.now a.ready.request.identities a.ready.request.count) old
    new c.in-Some.shape) c.if-finish.true c.finish.ensures)
    (omega (arith, c.requires.1, c.weave_texts.auto.woven, c.finish.auto.words)))

pub returns : goal.returns
returns c =
    let a = c.args in
    let given = c.requires.0 in
    let old = c.weave_texts.new.woven in
    let new = c.finish.new.words in
    let held = subst (PoliciesWoven (book_at a.book.now a.words.now a.ready.book) a.ready.book a.query.now a.rules.now
    a.rules_words.now a.ready.rules a.ready.request.category old) c.in-Some.is c.weave_texts.ensures in
    answer_for a.book.now a.words.now a.ready.book a.query.now a.rules.now a.rules_words.now a.ready.rules
    a.ready.request.category given.texts a.request.now a.ready.request refl new (Err 13)
    (not_tied a.book.now a.words.now a.ready.book a.query.now a.rules.now a.rules_words.now a.ready.rules
    a.ready.request.category given.texts old new _ held
    (identities_in a.request.now a.ready.request.identities a.ready.request.count)
    (subst (Finished a.query.now a.rules.now (identities_in a.request.now a.ready.request.identities a.ready.request.count) old
    new c.in-Some.shape) c.if-finish.false c.finish.ensures))
