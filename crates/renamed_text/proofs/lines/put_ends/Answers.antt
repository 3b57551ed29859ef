-- `renamed_text::lines::put_ends` meets its contract. Assumes nothing.
use mathlib.Core.Path.{refl}
use mathlib.Core.Bool.{false}
use Rattle.renamed_text.specs.Marks.{marked_in}
use Rattle.renamed_text.proofs.NameLaws.{goes_then, word_passed}
use Rattle.renamed_text.proofs.lines.put_ends.Goals as goal

pub returns : goal.returns
returns c =
    let a = c.args in
    let text = a.text.now in
    let later = marked_in text a.words.now a.counts a.marked.now in
    goes_then later text a.to (word_passed later text a.to a.out.now a.progress c.requires.read _ c.line_word-label.ensures false refl)
    (goes_then later text a.to c.put_name-named.ensures c.put_name.ensures)
