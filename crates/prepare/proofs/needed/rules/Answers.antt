-- Rules that are needed are loaded, and others are none.
use Rattle.book_tables.specs.View.{book_at}
use Rattle.prepare.proofs.NeededLaws.{rules_needed, rules_not_needed}
use Rattle.prepare.proofs.needed.rules.Goals as goal

pub returns-then-needed : goal.returns-then-needed
returns-then-needed c =
    let a = c.args in
    let l = c.load in
    let b = book_at a.book.now a.words.now a.counts in
    rules_needed _ b a.text.now c.if-needed.true l.new.rules_words l.result l.ensures

pub returns : goal.returns
returns c =
    rules_not_needed _ _ c.args.text.now c.if-needed.false c.args.table.now c.requires.1
