-- `renamed_text::names::put_name` meets its contract. Assumes nothing.
use mathlib.Core.Path.{sym, ap, ◌∙◌}
use mathlib.Core.Bool.{true}
use Rattle.model.specs.Answers.{part_of}
use Rattle.renamed_text.specs.Marks.{marked_in}
use Rattle.renamed_text.proofs.NameLaws.{word_passed, word_suffixed}
use Rattle.renamed_text.proofs.names.put_name.Goals as goal

pub returns-then-is_marked : goal.returns-then-is_marked
unfolding part_of
returns-then-is_marked c =
    let found = c.line_word-word.ensures in
    let a = c.args in
    let later = marked_in a.text.now a.words.now a.counts a.marked.now in
    word_suffixed later a.text.now a.to a.out.now a.progress c.requires.read _ found true
    (ap later (sym found.word) ∙ sym c.is_marked.ensures ∙ c.if-is_marked.true)
    c.put_suffix.ensures

pub returns : goal.returns
unfolding part_of
returns c =
    let found = c.line_word-word.ensures in
    let a = c.args in
    let later = marked_in a.text.now a.words.now a.counts a.marked.now in
    word_passed later a.text.now a.to a.out.now a.progress c.requires.read _ found true
    (ap later (sym found.word) ∙ sym c.is_marked.ensures ∙ c.if-is_marked.false)
