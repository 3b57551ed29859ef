-- `renamed_text::declares` meets its contract. Assumes nothing.
use mathlib.Core.Path.{◌≡◌, sym, ◌∙◌}
use mathlib.Core.Bool.{true, false}
use Rattle.model.specs.Bytes.{bytes_of, same}
use Rattle.model.specs.Answers.{part_of}
use Rattle.model.specs.Renaming.{first_word}
use Rattle.renamed_text.proofs.declares.Goals as goal

pub returns-then-same_bytes : goal.returns-then-same_bytes
unfolding part_of
returns-then-same_bytes c =
    let second = c.first_word-second.ensures in
    let first = c.first_word-first.ensures in
    let line = c.args.line.now in
    let head : same (first_word line) (bytes_of "node") ≡ true =
    rw (← first.word) (sym c.same_bytes.ensures ∙ c.if-same_bytes.true) in
    c.same_bytes-then-same_bytes.ensures ∙ rw (head, second.word, first.after)

pub returns : goal.returns
unfolding part_of
returns c =
    let first = c.first_word-first.ensures in
    let line = c.args.line.now in
    let head : same (first_word line) (bytes_of "node") ≡ false = rw (← first.word) (sym c.same_bytes.ensures ∙ c.if-same_bytes.false) in
    rw head
