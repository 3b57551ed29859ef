-- `node_names` meets its contract: the names of the book that is ready, or none; then the memory is cleared.
use mathlib.Core.Path.{◌∙◌}
use native.Mathlib.Omega.{arith}
use Rattle.prepare.proofs.ThroughLaws.{cleared_all}
use Rattle.prepare.proofs.BookLaws.{book_fits, book_there, book_counted, book_not_there, book_refused}
use Rattle.node_names.proofs.NameLaws.{left_loaded, left_refused}
use borrow.Author.Rules.{rules}
use Rattle.node_names.proofs.node_names.Goals as goal

pub returns-in-Err : goal.returns-in-Err
returns-in-Err c =
    let a = c.args in
    let p = c.prepare-ready.ensures in
    let e = c.in-Err.is in record { answer = book_refused _ _ _ _ _ _ _ _ p _ e; names = c.no_bytes.ensures ∙ left_refused _ a.book.now _ (book_not_there _ _ _ _ _ _ _ _ p _ e); cleared = cleared_all a.work.now _ _ c.clear.ensures (search rules) }

pub bytes_of-requires : goal.bytes_of-requires
bytes_of-requires c =
    book_fits _ _ _ _ _ _ _ _ c.prepare-ready.ensures c.in_default.is

pub returns : goal.returns
returns c =
    let a = c.args in
    let p = c.prepare-ready.ensures in
    let e = c.in_default.is in record { answer = book_counted _ _ _ _ _ _ _ _ p e; names = c.bytes_of.ensures ∙ left_loaded _ a.book.now _ (book_there _ _ _ _ _ _ _ _ p e); cleared = cleared_all a.work.now _ _ c.clear-2.ensures (omega arith) }
