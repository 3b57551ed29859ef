-- `book_tables::names::is_named` meets its contract. Assumes nothing.
use Rattle.book_tables.proofs.NameLaws.{word_slice}
use Rattle.book_tables.specs.View.{word_at}
use Rattle.book_tables.specs.Alike.{alike}
use native.Mathlib.Omega.{arith}
use mathlib.Core.Path.{ap, ◌∙◌}
use Rattle.book_tables.proofs.names.is_named.Goals as goal

pub overflow_cast-word : goal.overflow_cast-word
overflow_cast-word c = omega (arith, c.type_inv.words c.args.at)

pub overflow_add-end : goal.overflow_add-end
overflow_add-end c = omega (arith, c.type_inv.words c.args.at)

pub returns : goal.returns
returns c =
    let a = c.args in c.is_alike.ensures ∙ ap (alike a.rule a.name.now) (word_slice a.text.now (word_at a.words.now a.at))
