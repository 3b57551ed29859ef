-- `write_renamed` leaves what the service leaves: 5 at the line of a name that cannot have its new one, 14, or the new book.
use mathlib.Core.Path.{ap, ◌∙◌}
use native.Mathlib.Omega.{arith}
use Rattle.model.specs.Bytes.{Bytes}
use Rattle.model.specs.Lines.{lines_of}
use Rattle.model.specs.Renaming.{declared_at}
use Rattle.written_book.proofs.LeavesLaws.{texts_refused, no_room, book_written_law}
use Rattle.rename_book.proofs.RenameLaws.{declared_in_book, answered_stuck, answered_free, marks_right, name_stuck, names_free}
use borrow.Author.Rules.{rules}
use Rattle.rename_book.proofs.write_renamed.Goals as goal

pub node_name-name-requires : goal.node_name-name-requires
node_name-name-requires c =
    let h = answered_stuck c.args.book.now _ _ c.new_names.result _ c.in-Err.is c.new_names.ensures in
    record { counts = c.args.counts; fits = c.requires.fits; counted = h.0 }

pub overflow_cast-result : goal.overflow_cast-result
overflow_cast-result c =
    omega (arith, c.declared_at.ensures, declared_in_book c.args.book.now _ c.requires.is c.node_name-name.result.now)

pub returns-in-Err : goal.returns-in-Err
returns-in-Err c =
    let a = c.args in
    let h = answered_stuck a.book.now _ _ c.new_names.result _ c.in-Err.is c.new_names.ensures in
    let is = c.node_name-name.ensures a.counts h.0 in
    let line = c.declared_at.ensures ∙ ap (λ (n : Bytes). declared_at n (lines_of a.book.now)) is in
    texts_refused _ a.text.now _ (name_stuck a.book.now _ c.requires.is _ _ h.1 line)

pub returns-then-text-size : goal.returns-then-text-size
returns-then-text-size c =
    let a = c.args in
    let h = answered_free a.book.now _ _ c.new_names.result _ c.in-Ok.is c.new_names.ensures in
    no_room _ a.text.now _ (names_free a.book.now _ c.requires.is h.0) _ h.1 c.if-text-size.true

pub returns-in-Ok : goal.returns-in-Ok
returns-in-Ok c =
    let a = c.args in
    let h = answered_free a.book.now _ _ c.new_names.result _ c.in-Ok.is c.new_names.ensures in
    let marks = marks_right a.book.now a.words.now a.counts c.requires.fits _ c.later_marks-marks.ensures in
    book_written_law _ a.text.now _ (names_free a.book.now _ c.requires.is h.0) _ h.1 _ _ (search rules) c.if-text-size.false
    (c.put_renamed.ensures _ marks)
