-- The words of a requirement: its relation's number and its value's words behind the rest.
use Rattle.answer_words.proofs.RowLaws.{relation_told, row_of_requirement}
use Rattle.answer_words.proofs.conditions.requirement_row.Goals as goal

pub returns : goal.returns
returns c = row_of_requirement _ _ c.args.requirement _ _ (relation_told c.args.requirement.relation) c.value_row-row.ensures
