-- `read_allowed` meets its contract. Assumes nothing.
use Rattle.book_tables.specs.View.{book_at}
use Rattle.query.proofs.ReadLaws.{query_clear, query_refused}
use Rattle.query.proofs.read.read_allowed.Goals as goal

pub returns-then-fault-eq0 : goal.returns-then-fault-eq0
returns-then-fault-eq0 c =
    let a = c.args in
    query_clear (book_at a.book.now a.words.now a.counts) a.s.now c.requires.allowed _ c.fault_of-fault.ensures c.if-fault-eq0.true

pub returns : goal.returns
returns c =
    let a = c.args in
    query_refused (book_at a.book.now a.words.now a.counts) a.s.now c.requires.allowed _ c.fault_of-fault.ensures
    c.if-fault-eq0.false _ c.refused.ensures
