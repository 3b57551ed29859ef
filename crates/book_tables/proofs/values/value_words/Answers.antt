use Rattle.book_tables.proofs.ValueLaws.{says_number, says_text, says_truth}
use Rattle.book_tables.specs.ValueWords.{EndsBefore}
use mathlib.Core.Path.{subst}
use native.Mathlib.Omega.{arith}
use Rattle.book_tables.proofs.values.value_words.Goals as goal

pub overflow_cast-result-in-Text : goal.overflow_cast-result-in-Text
overflow_cast-result-in-Text c = omega (arith, subst (EndsBefore 65536) c.in-Text.is c.requires)

pub overflow_cast-result-in-Text-2 : goal.overflow_cast-result-in-Text-2
overflow_cast-result-in-Text-2 c = omega (arith, subst (EndsBefore 65536) c.in-Text.is c.requires)

pub returns-in-Number : goal.returns-in-Number
returns-in-Number c = says_number c.args.value _ c.in-Number.is

pub returns-in-Text : goal.returns-in-Text
returns-in-Text c = says_text c.args.value _ _ c.in-Text.is

pub returns-in-Truth : goal.returns-in-Truth
returns-in-Truth c = says_truth c.args.value _ _ c.in-Truth.is c.from.ensures
