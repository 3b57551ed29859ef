-- `rename_book` answers and leaves what the service does: the first refusal, of the memory or of the book, or what is written; then the memory is cleared.
use mathlib.Core.Path.{ap, ◌∙◌}
use native.Mathlib.Omega.{arith}
use Rattle.model.specs.Service.{ones, rename_service}
use Rattle.written_book.proofs.LeavesLaws.{loaded, load_refused, cleared, whole_memory_law}
use Rattle.rename_book.proofs.RenameLaws.{loaded_exactly, refused_first}
use borrow.Author.Rules.{rules}
use Rattle.rename_book.proofs.rename_book.Goals as goal

pub returns-in-Err : goal.returns-in-Err
returns-in-Err c =
    let a = c.args in
    let q = load_refused _ a.book.now _ c.load_whole.result _ _ c.in-Err.is c.load_whole.ensures in
    let h = refused_first _ a.book.now a.text.now _ q.0 in
    record { answer = h.0; text = h.1; cleared = q.1 ∙ ap ones (search rules) }

pub write_renamed-written-requires : goal.write_renamed-written-requires
write_renamed-written-requires c =
    let a = c.args in
    loaded_exactly _ a.book.now _ c.load_whole.result _ c.in-Ok.is c.load_whole.ensures

pub returns-in-Ok : goal.returns-in-Ok
unfolding rename_service
returns-in-Ok c =
    let a = c.args in
    let whole = (loaded _ a.book.now _ c.load_whole.result _ _ c.in-Ok.is c.load_whole.ensures).0 in
    let h = whole_memory_law _ a.text.now _ _ _ whole c.write_renamed-written.ensures in
    record { answer = h.0; text = h.1; cleared = cleared a.work.now _ _ c.fill.ensures (omega (arith, c.work-1.given)) }
