-- `entry_order::entry_slots` meets its contract. The loop's invariant: the slots are those of the entries that were walked.
use Prim.Native.Nat.{ℕ, ◌+◌, ◌-◌, ◌/◌, ◌<◌}
use mathlib.Core.Path.{◌≡◌, sym, subst}
use native.Mathlib.Omega.{arith}
use Rattle.book_tables.specs.View.{start_part, count_part}
use Rattle.entry_order.proofs.SlotLaws.{SlotsFrom, no_slots, one_slot_more, all_slots}
use Rattle.entry_order.proofs.entry_slots.Goals as goal

pub loop-entry-init : goal.loop-entry-init
loop-entry-init c =
    let a = c.args in
    let e : count_part a.owner ≡ start_part a.owner + count_part a.owner - start_part a.owner = omega arith in
    (omega arith, rw e at (no_slots a.words.now a.owner))

pub bounds-slots-attribute : goal.bounds-slots-attribute
bounds-slots-attribute c =
    let start = start_part c.args.owner in
    let left = c.loop-entry.entry - 1 - start in
    let e : start + left ≡ c.loop-entry.entry - 1 = omega (arith, c.loop-entry-test.true) in
    rw e at (c.requires.attributes left (omega arith))

pub loop-entry-preserved : goal.loop-entry-preserved
loop-entry-preserved c =
    let a = c.args in
    let l = c.loop-entry in
    let start = start_part a.owner in
    let left = l.entry - 1 - start in
    let below : left < count_part a.owner = omega arith in
    let e : start + left ≡ l.entry - 1 = omega (arith, c.loop-entry-test.true) in
    let f : l.entry - start ≡ left + 1 = omega arith in (
      omega arith,
      rw e at (one_slot_more a.words.now a.owner left l.slots below (c.requires.attributes left below)
          (subst (λ (n : ℕ). SlotsFrom a.words.now a.owner n l.slots) f l.invariant.1)),
    )

pub returns : goal.returns
returns c =
    let a = c.args in
    let e : c.loop-entry.entry - start_part a.owner ≡ 0 = omega arith in
    all_slots a.words.now a.owner c.loop-entry.slots
    (subst (λ (n : ℕ). SlotsFrom a.words.now a.owner n c.loop-entry.slots) e c.loop-entry.invariant.1)
