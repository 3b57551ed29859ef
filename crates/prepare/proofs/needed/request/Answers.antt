-- A request that is needed is read, and another is none.
use Rattle.prepare.proofs.NeededLaws.{request_needed, request_not_needed}
use Rattle.prepare.proofs.needed.request.Goals as goal

pub returns-then-needed : goal.returns-then-needed
returns-then-needed c =
    let a = c.args in
    request_needed _ a.book.now a.words.now a.counts a.rules.now a.table.now a.sizes a.text.now _ c.if-needed.true
    c.read.ensures

pub returns : goal.returns
returns c =
    let a = c.args in
    request_not_needed _ a.book.now a.words.now a.counts a.rules.now a.table.now a.sizes a.text.now _
    c.if-needed.false c.no_request.ensures
