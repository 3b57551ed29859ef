use Rattle.book_tables.proofs.ValueLaws.{number_kind, text_kind, truth_kind}
use Rattle.book_tables.proofs.values.of_kind.Goals as goal

pub returns-in-Number : goal.returns-in-Number
returns-in-Number c = number_kind c.args.value c.args.kind _ c.in-Number.is

pub returns-in-Text : goal.returns-in-Text
returns-in-Text c = text_kind c.args.value c.args.kind _ _ c.in-Text.is

pub returns-in-Truth : goal.returns-in-Truth
returns-in-Truth c = truth_kind c.args.value c.args.kind _ c.in-Truth.is
