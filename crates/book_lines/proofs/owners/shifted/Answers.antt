use Rattle.model.specs.declared.Value.{Value}
use Rattle.book_tables.specs.ValueWords.{EndsBefore}
use Rattle.book_lines.specs.Entries.{shift}
use mathlib.Core.Path.{sym, ap, subst}
use native.Mathlib.Omega.{arith}
use Rattle.book_lines.proofs.owners.shifted.Goals as goal

pub overflow_add-result : goal.overflow_add-result
overflow_add-result c = omega (
  arith,
  subst (λ (v : Value). EndsBefore 65536 (shift c.args.base v)) c.in-Text.is
      c.requires,
)

pub returns-in-Number : goal.returns-in-Number
returns-in-Number c = sym (ap (shift c.args.base) c.in-Number.is)

pub returns-in-Text : goal.returns-in-Text
returns-in-Text c = sym (ap (shift c.args.base) c.in-Text.is)

pub returns-in-Truth : goal.returns-in-Truth
returns-in-Truth c = sym (ap (shift c.args.base) c.in-Truth.is)
