-- `value_words` meets its contract, by the value's kind. Assumes nothing.
use Rattle.woven_tables.proofs.ClauseLaws.{number_said, text_said, truth_said}
use Rattle.model.specs.PlainData.{ValueFits}
use native.Mathlib.Omega.{arith}
use mathlib.Core.Path.{subst}
use Rattle.woven_tables.proofs.clauses.value_words.Goals as goal

pub overflow_add-result : goal.overflow_add-result
overflow_add-result c = let f = subst (ValueFits c.args.base) c.in-Text.is c.requires in omega arith

pub overflow_cast-result-in-Text : goal.overflow_cast-result-in-Text
overflow_cast-result-in-Text c = let f = subst (ValueFits c.args.base) c.in-Text.is c.requires in omega arith

pub overflow_cast-result-in-Text-2 : goal.overflow_cast-result-in-Text-2
overflow_cast-result-in-Text-2 c = let f = subst (ValueFits c.args.base) c.in-Text.is c.requires in omega arith

pub returns-in-Number : goal.returns-in-Number
returns-in-Number c = number_said c.args.base c.args.value _ c.in-Number.is

pub returns-in-Text : goal.returns-in-Text
returns-in-Text c = text_said c.args.base c.args.value _ _ c.in-Text.is

pub returns-in-Truth : goal.returns-in-Truth
returns-in-Truth c = truth_said c.args.base c.args.value _ _ c.in-Truth.is c.from.ensures
