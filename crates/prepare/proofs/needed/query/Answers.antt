-- A query that is needed is read, and another passes.
use Rattle.book_tables.specs.View.{book_at}
use Rattle.prepare.proofs.NeededLaws.{query_needed, query_not_needed}
use Rattle.prepare.proofs.needed.query.Goals as goal

pub returns-then-needed : goal.returns-then-needed
returns-then-needed c =
    let a = c.args in
    query_needed _ (book_at a.book.now a.words.now a.counts) a.text.now c.if-needed.true c.read.result c.read.ensures

pub returns : goal.returns
returns c = query_not_needed _ _ c.args.text.now c.if-needed.false
