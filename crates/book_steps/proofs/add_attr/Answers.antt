use Rattle.book_steps.proofs.StepLaws.{attr_twice, attr_full, attr_fine}
use Rattle.book_steps.proofs.add_attr.Goals as goal

pub returns-then-find_attr-count : goal.returns-then-find_attr-count
returns-then-find_attr-count c =
    λ rule.
    let a = c.args in
    attr_twice rule a.text.now a.words.now a.counts a.name c.requires.0 c.requires.1 a.owner a.kind _
    (rw c.part_of.ensures at c.find_attr.ensures) (rw c.tables-tables.ensures.declared at c.if-find_attr-count.true)

pub returns-then-count-ge-MAX_DECLARED : goal.returns-then-count-ge-MAX_DECLARED
returns-then-count-ge-MAX_DECLARED c =
    λ rule.
    let a = c.args in
    let declared = c.tables-tables.ensures.declared in
    attr_full rule a.text.now a.words.now a.counts a.name c.requires.0 c.requires.1 a.owner a.kind _
    (rw c.part_of.ensures at c.find_attr.ensures) (rw declared at c.if-find_attr-count.false)
    (rw declared at c.if-count-ge-MAX_DECLARED.true)

pub returns : goal.returns
returns c =
    λ rule.
    let a = c.args in
    let declared = c.tables-tables.ensures.declared in
    rw (c.store_attr.ensures.stored, c.store_attr.ensures.counted, c.name_word.ensures)
    (attr_fine rule a.text.now a.words.now a.counts a.name c.requires.0 c.requires.1 a.owner a.kind _
    (rw c.part_of.ensures at c.find_attr.ensures) (rw declared at c.if-find_attr-count.false) (rw declared at c.if-count-ge-MAX_DECLARED.false))
