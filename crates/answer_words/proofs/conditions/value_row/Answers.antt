-- The words of a value, case by case.
use Rattle.answer_words.proofs.RowLaws.{row_of_truth}
use mathlib.Core.Path.{sym, ap}
use Rattle.answer_words.specs.Words.{value_row}
use Rattle.answer_words.proofs.conditions.value_row.Goals as goal

pub returns-in-Number : goal.returns-in-Number
unfolding value_row
returns-in-Number c = sym (ap value_row c.in-Number.is)

pub returns-in-Text : goal.returns-in-Text
unfolding value_row
returns-in-Text c = sym (ap value_row c.in-Text.is)

pub returns-in-Truth : goal.returns-in-Truth
returns-in-Truth c = row_of_truth _ _ _ c.in-Truth.is c.from.ensures
