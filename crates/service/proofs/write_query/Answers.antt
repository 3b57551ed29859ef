-- `write_query` meets its contract: the text of the query that is ready, 14 where it does not fit, or the refusal; then the memory is filled.
use native.Mathlib.Omega.{arith}
use Rattle.prepare.proofs.ThroughLaws.{cleared_all}
use Rattle.service.proofs.WritingLaws.{writer_refused, writer_asked, writable, wrote, no_room}
use borrow.Author.Rules.{rules}
use Rattle.service.proofs.write_query.Goals as goal

pub returns-in-Err : goal.returns-in-Err
returns-in-Err c =
    let a = c.args in
    let w = writer_refused _ a.text.now _ _ _ _ _ _ _ c.prepare-ready.ensures _ c.in-Err.is in
    record { answer = w.0; text = w.1; cleared = cleared_all a.work.now _ _ c.clear.ensures (search rules) }

pub pattern_of-pattern-requires : goal.pattern_of-pattern-requires
pattern_of-pattern-requires c =
    writer_asked _ c.args.text.now _ _ _ _ _ _ _ c.prepare-ready.ensures c.in_default.is

pub write_query-written-requires : goal.write_query-written-requires
write_query-written-requires c =
    writable _ c.args.text.now _ _ _ _ _ _ _ c.prepare-ready.ensures c.in_default.is _
    c.pattern_of-pattern.ensures

pub returns-in-Some : goal.returns-in-Some
returns-in-Some c =
    let a = c.args in
    let w = wrote _ a.text.now _ _ _ _ _ _ _ c.prepare-ready.ensures c.in_default.is _
    c.pattern_of-pattern.ensures _ _ c.write_query-written.ensures _ c.in-Some.is in
    record { answer = w.0; text = w.1; cleared = cleared_all a.work.now _ _ c.clear-2.ensures (omega arith) }

pub returns-in-None : goal.returns-in-None
returns-in-None c =
    let a = c.args in
    let w = no_room _ a.text.now _ _ _ _ _ _ _ c.prepare-ready.ensures c.in_default.is _
    c.pattern_of-pattern.ensures _ _ c.write_query-written.ensures c.in-None.is in
    record { answer = w.0; text = w.1; cleared = cleared_all a.work.now _ _ c.clear-2.ensures (omega arith) }
