-- `tidy_size::entries::entries_size` meets its contract. The loop's invariant: the size is that of the entries of the attributes before `attribute`. The
-- measure is the number of attributes left. Assumes nothing.
use Prim.Native.Nat.{◌-◌}
use native.Mathlib.Omega.{arith}
use Rattle.tidy_size.proofs.EntryLaws.{no_entries, entries_first, entries_pass, entry_short, entries_take, entries_whole}
use Rattle.tidy_size.proofs.entries.entries_size.Goals as goal
use Rattle.tidy_size.proofs.entries.entries_size.Goals.{else-slot-gt0, then-slot-gt0}

pub returns-then-owner-eq0 : goal.returns-then-owner-eq0
returns-then-owner-eq0 c =
    let a = c.args in
    record { small = omega arith; is = λ text _. no_entries text a.words.now a.offset a.owner a.declared c.if-owner-eq0.true }

pub entry_slots-slots-requires : goal.entry_slots-slots-requires
entry_slots-slots-requires c =
    let p = c.requires in
    record { room = p.room; attributes = λ i l. let few = p.few in let low = p.attributes i l in omega arith }

pub loop-attribute-init : goal.loop-attribute-init
loop-attribute-init c = let a = c.args in (omega arith, entries_first a.words.now a.offset a.declared a.owner)

pub entry_size-size-requires : goal.entry_size-size-requires
entry_size-size-requires c =
    let a = c.args in
    let l = c.loop-attribute in
    let there = c.loop-attribute-test.true in (
      omega (arith, there, c.requires.names),
      entry_short a.words.now a.offset a.declared a.owner l.attribute _ there
          (c.entry_slots-slots.ensures.each l.attribute (omega (arith, there, c.requires.few))) c.if-slot-gt0.true c.requires,
    )

pub overflow_add-size : goal.overflow_add-size
overflow_add-size c =
    omega (
      arith,
      c.entry_size-size.ensures.small,
      c.loop-attribute.invariant.1.small,
      c.loop-attribute-test.true,
      c.requires.few,
    )

pub loop-attribute-preserved : goal.loop-attribute-preserved
loop-attribute-preserved c =
    let a = c.args in
    let l = c.loop-attribute in
    let there = c.loop-attribute-test.true in
    let is = c.entry_slots-slots.ensures.each l.attribute (omega (arith, there, c.requires.few)) in (
      omega (arith, there),
      elim c.if-slot-gt0.branch [
        | then-slot-gt0 w ↦ rw w.size-is (entries_take a.words.now a.offset a.declared a.owner l.attribute _ there is w.if-slot-gt0.true c.requires l.size _
            l.invariant.1 w.entry_size-size.ensures)
        | else-slot-gt0 w ↦ rw w.size-is (entries_pass a.words.now a.offset a.declared a.owner l.attribute _ there is (omega (arith, w.if-slot-gt0.false)) l.size
            l.invariant.1)
      ],
    )

pub returns : goal.returns
returns c =
    let a = c.args in
    entries_whole a.words.now a.offset a.declared a.owner c.loop-attribute.attribute _
    (omega (arith, c.loop-attribute.invariant.0, c.loop-attribute-test.false)) c.loop-attribute.invariant.1
