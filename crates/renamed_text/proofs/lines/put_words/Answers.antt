-- `renamed_text::lines::put_words` meets its contract: by the first word, the line declares a node or a relationship, or names no node. Assumes nothing.
use mathlib.Core.Path.{sym, ap, ◌∙◌}
use Rattle.model.specs.Bytes.{Bytes, bytes_of, same}
use Rattle.model.specs.Answers.{part_of}
use Rattle.renamed_text.specs.Marks.{marked_in}
use Rattle.renamed_text.proofs.NameLaws.{node_line_law, relationship_line, other_line}
use Rattle.renamed_text.proofs.lines.put_words.Goals as goal

pub returns-then-same_bytes : goal.returns-then-same_bytes
unfolding part_of
returns-then-same_bytes c =
    let found = c.line_word-first.ensures in
    let a = c.args in
    node_line_law (marked_in a.text.now a.words.now a.counts a.marked.now) a.text.now a.to a.out.now a.progress
    c.requires.read _ found
    (ap (λ (w : Bytes). same w (bytes_of "node")) (sym found.word) ∙ sym c.same_bytes.ensures ∙ c.if-same_bytes.true)
    c.put_name.ensures

pub returns-then-same_bytes-2 : goal.returns-then-same_bytes-2
unfolding part_of
returns-then-same_bytes-2 c =
    let found = c.line_word-first.ensures in
    let a = c.args in
    relationship_line (marked_in a.text.now a.words.now a.counts a.marked.now) a.text.now a.to a.out.now a.progress
    c.requires.read _ found
    (ap (λ (w : Bytes). same w (bytes_of "node")) (sym found.word) ∙ sym c.same_bytes.ensures ∙ c.if-same_bytes.false)
    (ap (λ (w : Bytes). same w (bytes_of "rel")) (sym found.word) ∙ sym c.same_bytes-2.ensures ∙ c.if-same_bytes-2.true)
    c.put_ends.ensures

pub returns : goal.returns
unfolding part_of
returns c =
    let found = c.line_word-first.ensures in
    let a = c.args in
    other_line (marked_in a.text.now a.words.now a.counts a.marked.now) a.text.now a.to a.out.now a.progress
    c.requires.read _ found
    (ap (λ (w : Bytes). same w (bytes_of "node")) (sym found.word) ∙ sym c.same_bytes.ensures ∙ c.if-same_bytes.false)
    (ap (λ (w : Bytes). same w (bytes_of "rel")) (sym found.word) ∙ sym c.same_bytes-2.ensures ∙ c.if-same_bytes-2.false)
