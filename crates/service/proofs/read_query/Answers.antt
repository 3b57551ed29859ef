-- `read_query` meets its contract: the pattern of the query that is ready, or the refusal beside an empty one; then the memory is filled.
use Rattle.prepare.proofs.ThroughLaws.{cleared_all}
use Rattle.service.proofs.ReaderLaws.{query_refused, query_asked_law, query_accepted_as}
use borrow.Author.Rules.{rules}
use Rattle.service.proofs.read_query.Goals as goal

pub returns-in-Err : goal.returns-in-Err
returns-in-Err c =
    let a = c.args in
    let w = query_refused _ _ _ _ _ _ _ _ c.prepare-ready.ensures _ c.in-Err.is _ c.empty-pattern.ensures in
    record { answer = w.0; whole = w.1; cleared = cleared_all a.work.now _ _ c.clear.ensures (search rules) }

pub pattern_of-pattern-requires : goal.pattern_of-pattern-requires
pattern_of-pattern-requires c =
    query_asked_law _ _ _ _ _ _ _ _ c.prepare-ready.ensures c.in_default.is

pub returns : goal.returns
returns c =
    let a = c.args in
    let w = query_accepted_as _ _ _ _ _ _ _ _ c.prepare-ready.ensures c.in_default.is _ c.pattern_of-pattern.ensures in
    record { answer = w.0; whole = w.1; cleared = cleared_all a.work.now _ _ c.clear-2.ensures (search rules) }
