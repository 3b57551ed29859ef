-- `book_lookup::values::text_of` meets its contract. Assumes nothing.
use mathlib.Core.Path.{sym, ap, ◌∙◌}
use native.Mathlib.Omega.{arith}
use Rattle.model.specs.Values.{str}
use Rattle.book_lookup.proofs.ValueLaws.{text_value, part_between}
use Rattle.book_lookup.proofs.values.text_of.Goals as goal

pub slice_bounds-result-end : goal.slice_bounds-result-end
slice_bounds-result-end c =
    let a = c.args in omega (arith, c.requires.0.inside (text_value a.book.now a.words.now a.entry c.requires.1.is).0)

pub returns : goal.returns
returns c =
    let a = c.args in rw (c.word_of-start.ensures, c.word_of.ensures)
    ((text_value a.book.now a.words.now a.entry c.requires.1.is).1 ∙ ap str (sym (part_between a.book.now _ _)))
