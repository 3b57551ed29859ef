use mathlib.Core.Path.{sym, ◌∙◌}
use native.Mathlib.Omega.{arith}
use Rattle.model.specs.Answers.{relation_of, value_of}
use Rattle.query_survey.proofs.DeclaredLaws.{suits_ordered, suits_same, suits_none}
use Rattle.query_survey.proofs.declared.is_suited.Goals as goal

pub returns-then-kind-le-STR : goal.returns-then-kind-le-STR
returns-then-kind-le-STR c = let a = c.args in
    λ s. c.of_kind.ensures s ∙ suits_ordered a.kind (relation_of a.relation) (value_of s a.value) (omega (arith, c.if-kind-le-STR.true))

pub returns-then-is_equality : goal.returns-then-is_equality
returns-then-is_equality c =
    let a = c.args in
    λ s. c.of_kind-then-is_equality.ensures s
    ∙ suits_same a.kind (relation_of a.relation) (value_of s a.value) (sym c.is_equality.ensures ∙ c.if-is_equality.true)

pub returns : goal.returns
returns c = let a = c.args in
    λ s. suits_none a.kind (relation_of a.relation) (value_of s a.value) (omega (arith, c.if-kind-le-STR.false))
    (sym c.is_equality.ensures ∙ c.if-is_equality.false)
