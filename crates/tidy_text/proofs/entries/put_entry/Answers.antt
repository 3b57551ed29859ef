-- `put_entry` meets its contract. Assumes nothing.
use native.Mathlib.Omega.{arith}
use Rattle.putting.proofs.PuttingLaws.{puts_nothing, puts_then, puts_same}
use Rattle.tidy_text.specs.Pieces.{entry_piece}
use Rattle.tidy_text.proofs.PieceLaws.{empty_slot, full_slot}
use Rattle.tidy_text.proofs.entries.put_entry.Goals as goal

pub returns-then-slot-eq0 : goal.returns-then-slot-eq0
returns-then-slot-eq0 c =
    let a = c.args in
    puts_same (empty_slot a.book.now a.words.now a.offset a.attribute a.slot c.if-slot-eq0.true) (puts_nothing a.out.now a.at)

pub put_value-at-requires : goal.put_value-at-requires
put_value-at-requires c =
    c.requires.entry (omega (arith, c.if-slot-eq0.false))

pub returns : goal.returns
unfolding entry_piece
returns c =
    let a = c.args in
    puts_same (full_slot a.book.now a.words.now a.offset a.attribute a.slot c.if-slot-eq0.false)
    (puts_then (puts_then (puts_then
    (puts_then c.put_bytes-at.ensures c.put_declared-at.ensures) c.put_bytes-at-2.ensures)
    c.put_value-at.ensures) c.put_bytes.ensures)
