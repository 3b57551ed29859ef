-- `put_entries` meets its contract. The loop's invariant: the entries of all attributes but those left are put. Assumes nothing.
use Prim.Native.Nat.{ℕ, ◌+◌, ◌-◌}
use mathlib.Core.Path.{◌≡◌, ap}
use native.Mathlib.Omega.{arith}
use Rattle.putting.proofs.PuttingLaws.{puts_nothing, puts_same, puts_keeps_length}
use Rattle.tidy_text.specs.Pieces.{slot_piece, slot_in, entries_text}
use Rattle.tidy_text.proofs.TextLaws.{puts_none, puts_next}
use Rattle.tidy_text.proofs.PieceLaws.{no_entries}
use Rattle.tidy_text.proofs.InsideLaws.{slot_inside}
use Rattle.tidy_text.proofs.entries.put_entries.Goals as goal

pub returns-then-owner-eq0 : goal.returns-then-owner-eq0
returns-then-owner-eq0 c =
    let a = c.args in
    puts_same (no_entries a.book.now a.words.now a.offset a.owner a.declared c.if-owner-eq0.true) (puts_nothing a.out.now a.at)

pub loop-attribute-init : goal.loop-attribute-init
unfolding entries_text
loop-attribute-init c =
    let a = c.args in
    puts_none (λ n. slot_piece a.book.now a.words.now a.offset n (slot_in a.words.now a.owner n)) a.out.now a.at

pub put_entry-next-requires : goal.put_entry-next-requires
put_entry-next-requires c =
    slot_inside c.requires c.entry_slots-slots.ensures _ (omega arith)

pub loop-attribute-preserved : goal.loop-attribute-preserved
unfolding entries_text slot_in
loop-attribute-preserved c =
    let a = c.args in
    let i : ℕ = c.loop-attribute.attribute in
    let said = c.entry_slots-slots.ensures.each i (omega (arith, c.requires.few)) in
    puts_next (λ n. slot_piece a.book.now a.words.now a.offset n (slot_in a.words.now a.owner n)) i c.loop-attribute.invariant
    (puts_same (ap (slot_piece a.book.now a.words.now a.offset i) said) c.put_entry-next.ensures)

pub shape_of-out : goal.shape_of-out
shape_of-out c = puts_keeps_length c.loop-attribute.invariant

pub returns : goal.returns
returns c =
    let a = c.args in
    let all : c.loop-attribute.attribute ≡ a.declared = omega arith in
    puts_same (ap (entries_text a.book.now a.words.now a.offset a.owner) all) c.loop-attribute.invariant
