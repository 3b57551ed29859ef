-- `requirement_of` meets its contract. Assumes nothing.
use Rattle.model.specs.Answers.{name_at}
use Rattle.query.proofs.clauses.requirement_of.Goals as goal

pub returns : goal.returns
unfolding name_at
returns c =
    let a = c.args in
    let attribute = rw c.part_of.ensures at c.find_attr-attribute.ensures in
    λ i. record { attribute = attribute i; relation = a.d.relation; value = a.d.value }
