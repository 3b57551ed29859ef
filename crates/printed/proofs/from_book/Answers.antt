-- `from_book` meets its contract: the list's refusal is put, or its rows under the names that the book's words give.
use mathlib.Core.Path.{◌≡◌}
use native.Mathlib.Omega.{arith}
use lib.ListN.{length}
use Rattle.list_lines.proofs.AnswerLaws.{list_shown}
use Rattle.printed.proofs.PrintsLaws.{list_refusal_printed, rows_printed}
use Rattle.printed.proofs.from_book.Goals as goal

pub returns-in-Err : goal.returns-in-Err
returns-in-Err c =
    let a = c.args in
    let l = c.list in
    list_refusal_printed a.book.now a.rules.now a.query.now a.request.now l.result _ c.in-Err.is
    l.ensures.answer c.put_refusal.ensures

pub put_list-requires : goal.put_list-requires
put_list-requires c =
    let a = c.args in
    let l = c.list in
    let shown = list_shown a.book.now a.rules.now a.query.now a.request.now l.result _ c.in-Ok.is
    l.ensures.answer _ l.ensures.rows_left _ c.requires.1 in
    let long : length l.new.rows ≡ 16384 = l.auto.rows in
    (c.requires.0, omega (arith, shown.fits))

pub returns-in-Ok : goal.returns-in-Ok
returns-in-Ok c =
    let a = c.args in
    let l = c.list in
    rows_printed a.book.now a.rules.now a.query.now a.request.now a.words.now a.counts _ _ _ l.auto.rows
    (list_shown a.book.now a.rules.now a.query.now a.request.now l.result _ c.in-Ok.is l.ensures.answer _
    l.ensures.rows_left _ c.requires.1)
    c.put_list.ensures
