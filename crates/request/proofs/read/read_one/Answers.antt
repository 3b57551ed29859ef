-- `request::read::read_one` meets its contract. Assumes nothing.
use Prim.Native.Nat.{◌-◌}
use mathlib.Core.Path.{◌∙◌}
use Rattle.model.specs.Answers.{part_of}
use Rattle.book_tables.specs.View.{book_at}
use Rattle.rules_tables.specs.View.{rules_at}
use Rattle.request.specs.RequestReads.{fed}
use Rattle.request.proofs.ReadLaws.{no_feed_law, alone, followed, whole_text_law, first_of, reads_refused, reads_as, reads_in, still_refused, second_line}
use Rattle.request.proofs.read.read_one.Goals as goal

pub returns-then-text-to : goal.returns-then-text-to
returns-then-text-to c =
    let a = c.args in reads_refused a.counts.nodes a.rules.now a.table.now a.sizes.categories a.text.now _ 3 1 _
    c.refused.ensures (no_feed_law (book_at a.book.now a.words.now a.counts) (rules_at a.rules.now a.table.now a.sizes)
    a.text.now _ c.line_end-to.ensures c.if-text-to.true)

pub returns-then-to-text : goal.returns-then-to-text
unfolding part_of
returns-then-to-text c =
    let a = c.args in
    reads_refused a.counts.nodes a.rules.now a.table.now a.sizes.categories a.text.now _ 3 2 _ c.refused-then-to-text.ensures
    (followed (book_at a.book.now a.words.now a.counts) (rules_at a.rules.now a.table.now a.sizes) a.text.now _
    c.line_end-to.ensures c.if-text-to.false c.if-to-text.true
    ∙ second_line a.counts.nodes a.rules.now a.table.now a.sizes.categories
    (fed (part_of a.text.now 0 (c.line_end-to.result - 0))) _ _ c.read_line-first.ensures c.in-Ok.is)

pub returns-in-Err : goal.returns-in-Err
unfolding part_of
returns-in-Err c =
    let a = c.args in
    reads_as a.counts.nodes a.rules.now a.table.now a.sizes.categories a.text.now _ _ c.read_line-first.result
    (first_of (book_at a.book.now a.words.now a.counts) (rules_at a.rules.now a.table.now a.sizes) a.text.now _
    c.line_end-to.ensures c.if-text-to.false)
    (still_refused a.counts.nodes a.rules.now a.table.now a.sizes.categories
    (fed (part_of a.text.now 0 (c.line_end-to.result - 0))) _ c.read_line-first.result c.read_line-first.ensures
    a.text.now _ _ c.in-Err.is)

pub returns-else-to-text : goal.returns-else-to-text
unfolding part_of
returns-else-to-text c =
    let a = c.args in
    reads_as a.counts.nodes a.rules.now a.table.now a.sizes.categories a.text.now _ _ c.read_line-first.result
    (alone (book_at a.book.now a.words.now a.counts) (rules_at a.rules.now a.table.now a.sizes) a.text.now _
    c.line_end-to.ensures c.if-text-to.false c.if-to-text.false)
    (reads_in a.counts.nodes a.rules.now a.table.now a.sizes.categories (fed (part_of a.text.now 0 (c.line_end-to.result - 0)))
    a.text.now _ c.read_line-first.result
    (whole_text_law (book_at a.book.now a.words.now a.counts) (rules_at a.rules.now a.table.now a.sizes) a.text.now _
    c.line_end-to.ensures c.if-text-to.false c.if-to-text.false) c.read_line-first.ensures)
