-- `load_whole` meets its contract: 15, or what the book's reader gives.
use mathlib.Core.Path.{sym, subst}
use Rattle.model.specs.Refusal.{Outcome}
use Rattle.model.specs.Book.{Book}
use Rattle.model.specs.ReadBook.{read_book_by}
use Rattle.book_tables.specs.Alike.{alike}
use Rattle.book.specs.Loaded.{Loaded}
use Rattle.written_book.proofs.LeavesLaws.{memory_short, memory_whole, all_ones}
use Rattle.written_book.proofs.load_whole.Goals as goal

pub returns-then-work-lt-WORK_WORDS : goal.returns-then-work-lt-WORK_WORDS
returns-then-work-lt-WORK_WORDS c =
    (memory_short _ _ c.if-work-lt-WORK_WORDS.true, all_ones _ _ c.fill.ensures)

pub returns : goal.returns
returns c =
    let a = c.args in
    let whole = memory_whole _ (read_book_by (alike a.rule) a.book.now) c.if-work-lt-WORK_WORDS.false in
    subst (λ (o : Outcome Book). Loaded a.book.now c.load_by.new.words c.load_by.result o) (sym whole) c.load_by.ensures
