-- 15, or the book is refused, or what the other texts give.
use Rattle.prepare.proofs.StepLaws.{memory_short, book_ready, book_read, book_refused}
use Rattle.prepare.proofs.prepare.Goals as goal

pub returns-then-work-lt-WORK_WORDS : goal.returns-then-work-lt-WORK_WORDS
returns-then-work-lt-WORK_WORDS c = memory_short _ _ _ _ _ _ _ _ c.if-work-lt-WORK_WORDS.true _ c.refused.ensures

pub after_book-requires : goal.after_book-requires
after_book-requires c =
    let a = c.args in
    let l = c.load in
    book_ready a.needs a.book.now a.rules.now a.query.now a.request.now _ a.table.now _
    c.if-work-lt-WORK_WORDS.false l.result l.ensures _ c.in-Ok.is

pub returns-in-Ok : goal.returns-in-Ok
returns-in-Ok c =
    let l = c.load in
    book_read _ _ _ _ _ _ _ _ c.if-work-lt-WORK_WORDS.false l.result l.ensures _ c.in-Ok.is _ c.after_book.ensures

pub returns-in-Err : goal.returns-in-Err
returns-in-Err c =
    let l = c.load in
    book_refused _ _ _ _ _ _ _ _ c.if-work-lt-WORK_WORDS.false l.result l.ensures _ c.in-Err.is _ c.refused-in-Err.ensures
