-- The words of a condition, case by case.
use mathlib.Core.Path.{sym, ap, ◌∙◌}
use Rattle.answer_words.specs.Words.{condition_row}
use Rattle.answer_words.proofs.conditions.ClauseToldCONDITION_WORDS.row.Goals as goal

pub returns-in-Excluded : goal.returns-in-Excluded
unfolding condition_row
returns-in-Excluded c = sym (ap condition_row c.in-Excluded.is)

pub returns-in-OfVertex : goal.returns-in-OfVertex
unfolding condition_row
returns-in-OfVertex c = c.requirement_row.ensures ∙ sym (ap condition_row c.in-OfVertex.is)

pub returns-in-OfEdge : goal.returns-in-OfEdge
unfolding condition_row
returns-in-OfEdge c = c.requirement_row-in-OfEdge.ensures ∙ sym (ap condition_row c.in-OfEdge.is)
