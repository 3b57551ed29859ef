-- `book_lines::forms::read_head` meets its contract.
use Rattle.book_lines.proofs.LineLaws.{step_broken, headed, headless}
use Rattle.item_forms.proofs.PlacedLaws.{placed_at}
use native.Mathlib.Omega.{arith}
use Rattle.book_lines.proofs.forms.read_head.Goals as goal

pub overflow_add-word : goal.overflow_add-word
overflow_add-word c =
    let a = c.args in
    omega (arith, c.well_formed, (placed_at a.line.now a.from _ c.in-Some.is c.next_word.ensures.placed).inside)

pub part_of-requires : goal.part_of-requires
part_of-requires c =
    let a = c.args in
    (placed_at a.line.now a.from _ c.in-Some.is c.next_word.ensures.placed).inside

pub returns-in-Some : goal.returns-in-Some
returns-in-Some c =
    let a = c.args in
    let named = headed a.form a.line.now a.from _ c.next_word.ensures _ c.in-Some.is in
    rw (named, ← c.part_of.ensures, ← c.head.ensures)
    c.read_rest.ensures

pub returns-in-None : goal.returns-in-None
returns-in-None c =
    let a = c.args in
    step_broken _ _ _ (headless _ a.line.now a.from _ c.next_word.ensures c.in-None.is)
