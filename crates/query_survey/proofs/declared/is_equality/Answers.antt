use Rattle.model.specs.declared.Relation.{Relation}
use Rattle.model.specs.Answers.{relation_of}
use Rattle.model.specs.ReadQuery.{has_relation}
use Rattle.model.specs.Values.{bools}
use mathlib.Core.Path.{sym, ap}
use Rattle.query_survey.proofs.declared.is_equality.Goals as goal

pub returns-in-Equal : goal.returns-in-Equal
unfolding has_relation relation_of
returns-in-Equal c = sym (ap (λ (x : Relation). has_relation bools (relation_of x)) c.in-Equal.is)

pub returns-in-Differs : goal.returns-in-Differs
unfolding has_relation relation_of
returns-in-Differs c = sym (ap (λ (x : Relation). has_relation bools (relation_of x)) c.in-Differs.is)

pub returns-in-Less : goal.returns-in-Less
unfolding has_relation relation_of
returns-in-Less c = sym (ap (λ (x : Relation). has_relation bools (relation_of x)) c.in-Less.is)

pub returns-in-AtMost : goal.returns-in-AtMost
unfolding has_relation relation_of
returns-in-AtMost c = sym (ap (λ (x : Relation). has_relation bools (relation_of x)) c.in-AtMost.is)

pub returns-in-Greater : goal.returns-in-Greater
unfolding has_relation relation_of
returns-in-Greater c = sym (ap (λ (x : Relation). has_relation bools (relation_of x)) c.in-Greater.is)

pub returns-in-AtLeast : goal.returns-in-AtLeast
unfolding has_relation relation_of
returns-in-AtLeast c = sym (ap (λ (x : Relation). has_relation bools (relation_of x)) c.in-AtLeast.is)
