-- `rules::tests::category_fault` meets its contract. Assumes nothing.
use mathlib.Core.Path.{sym, ◌∙◌}
use native.Mathlib.Omega.{arith}
use Rattle.rules.proofs.TestLaws.{is_4, is_5, is_7, is_9, is_none}
use Rattle.model.specs.Answers.{name_at}
use Rattle.rules.proofs.tests.category_fault.Goals as goal

pub is_unknown-requires : goal.is_unknown-requires
is_unknown-requires c =
    (c.requires.0.named, omega (arith, c.requires.0.few, c.requires.0.room))

pub returns-then-is_unknown : goal.returns-then-is_unknown
returns-then-is_unknown c =
    let a = c.args in λ b x y ex ey. is_4 a.text.now a.words.now a.counts b (name_at a.s.now a.name) x.names y.names
    (sym (c.is_unknown.ensures y ey) ∙ c.if-is_unknown.true)

pub is_second-requires : goal.is_second-requires
is_second-requires c =
    (c.requires.0.named, omega (arith, c.requires.0.few, c.requires.0.room), c.requires.1)

pub returns-then-is_second : goal.returns-then-is_second
returns-then-is_second c =
    let a = c.args in λ b x y ex ey. is_5 a.text.now a.words.now a.counts b (name_at a.s.now a.name) x.names y.names
    (sym (c.is_unknown.ensures y ey) ∙ c.if-is_unknown.false)
    (sym (c.is_second.ensures x y ex ey) ∙ c.if-is_second.true)

pub returns-then-is_past_limit : goal.returns-then-is_past_limit
returns-then-is_past_limit c =
    let a = c.args in λ b x y ex ey. is_7 a.text.now a.words.now a.counts b (name_at a.s.now a.name) x.names y.names
    (sym (c.is_unknown.ensures y ey) ∙ c.if-is_unknown.false)
    (sym (c.is_second.ensures x y ex ey) ∙ c.if-is_second.false)
    (sym (c.is_past_limit.ensures x ex) ∙ c.if-is_past_limit.true)

pub lacks_actor-requires : goal.lacks_actor-requires
lacks_actor-requires c = c.requires.0

pub returns-then-lacks_actor : goal.returns-then-lacks_actor
returns-then-lacks_actor c =
    let a = c.args in λ b x y ex ey. is_9 a.text.now a.words.now a.counts b (name_at a.s.now a.name) x.names y.names
    (sym (c.is_unknown.ensures y ey) ∙ c.if-is_unknown.false) (sym (c.is_second.ensures x y ex ey) ∙ c.if-is_second.false)
    (sym (c.is_past_limit.ensures x ex) ∙ c.if-is_past_limit.false)
    (sym (c.lacks_actor.ensures x y ex ey) ∙ c.if-lacks_actor.true)

pub returns : goal.returns
returns c =
    let a = c.args in λ b x y ex ey. is_none a.text.now a.words.now a.counts b (name_at a.s.now a.name) x.names y.names
    (sym (c.is_unknown.ensures y ey) ∙ c.if-is_unknown.false) (sym (c.is_second.ensures x y ex ey) ∙ c.if-is_second.false)
    (sym (c.is_past_limit.ensures x ex) ∙ c.if-is_past_limit.false)
    (sym (c.lacks_actor.ensures x y ex ey) ∙ c.if-lacks_actor.false)
