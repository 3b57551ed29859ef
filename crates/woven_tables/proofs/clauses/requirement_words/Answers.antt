-- `requirement_words` meets its contract. Assumes nothing.
use Rattle.woven_tables.proofs.ClauseLaws.{relation_numbered, requirement_said}
use mathlib.Core.Path.{refl}
use Rattle.woven_tables.proofs.clauses.requirement_words.Goals as goal

pub returns : goal.returns
returns c =
    let relation = relation_numbered c.args.requirement.relation in
    requirement_said c.args.k c.args.base c.args.kind c.args.owner c.args.requirement
    c.value_words-words.result _ _ c.requires.0 c.requires.1 c.requires.2
    c.requires.3.attribute relation.0 relation.1
    c.value_words-words.ensures refl
