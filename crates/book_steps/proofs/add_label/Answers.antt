use Rattle.book_steps.proofs.StepLaws.{label_twice, label_full, label_fine}
use Rattle.book_steps.proofs.add_label.Goals as goal

pub returns-then-find_label-count : goal.returns-then-find_label-count
returns-then-find_label-count c =
    λ rule.
    let a = c.args in
    label_twice rule a.text.now a.words.now a.counts a.name c.requires.0 c.requires.1 _
    (rw c.part_of.ensures at c.find_label.ensures) c.if-find_label-count.true

pub returns-then-count-ge-MAX_DECLARED : goal.returns-then-count-ge-MAX_DECLARED
returns-then-count-ge-MAX_DECLARED c =
    λ rule.
    let a = c.args in
    label_full rule a.text.now a.words.now a.counts a.name c.requires.0 c.requires.1 _
    (rw c.part_of.ensures at c.find_label.ensures) c.if-find_label-count.false c.if-count-ge-MAX_DECLARED.true

pub returns : goal.returns
returns c =
    λ rule.
    let a = c.args in
    rw (c.store_label.ensures.stored, c.store_label.ensures.counted, c.name_word.ensures)
    (label_fine rule a.text.now a.words.now a.counts a.name c.requires.0 c.requires.1 _
    (rw c.part_of.ensures at c.find_label.ensures) c.if-find_label-count.false c.if-count-ge-MAX_DECLARED.false)
