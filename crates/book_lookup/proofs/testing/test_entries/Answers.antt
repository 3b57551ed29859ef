-- `book_lookup::testing::test_entries` meets its contract. The loop's invariant: what is sought among all the entries is sought among those from `i` on.
-- The measure is the number of entries left. Assumes nothing.
use Prim.Native.Nat.{ℕ, ◌+◌, ◌-◌}
use mathlib.Core.Path.{◌≡◌, refl, sym, ◌∙◌}
use native.Mathlib.Omega.{arith}
use Rattle.book_tables.specs.View.{start_part, count_part}
use Rattle.model.specs.Answers.{relation_of, value_of}
use mathlib.Core.Bool.{false}
use Rattle.book_lookup.proofs.SeekLaws.{seek_begins, seek_passes, seek_finds, seek_ends}
use Rattle.book_lookup.proofs.FoundLaws.{found_answer, absent_answer}
use Rattle.book_lookup.proofs.testing.test_entries.Goals as goal

-- the second of two entries
next : (start i : ℕ) → start + i + 1 ≡ start + (i + 1)
next start i = omega arith

pub loop-i-init : goal.loop-i-init
loop-i-init c =
    let a = c.args in
    (omega arith, seek_begins a.words.now a.attribute (start_part a.entries) (count_part a.entries))

pub is_of-requires : goal.is_of-requires
is_of-requires c = let pre = c.requires.0 in (pre c.loop-i.i (omega (arith, c.loop-i-test.true))).room

pub test_own-requires : goal.test_own-requires
test_own-requires c =
    (c.requires.0 c.loop-i.i (omega (arith, c.loop-i-test.true)), c.requires.1)

pub returns-then-is_of : goal.returns-then-is_of
returns-then-is_of c =
    let loop = c.loop-i in
    let a = c.args in
    let below = c.loop-i-test.true in
    let told = c.test_own.ensures in
    let p = found_answer a.book.now a.words.now (relation_of a.relation) (value_of a.text.now a.value) (start_part a.entries) (count_part a.entries) _
    c.test_own.result.met (loop.i + 1) _
    (loop.invariant.1 ∙ seek_finds a.words.now a.attribute (start_part a.entries) (count_part a.entries) loop.i (omega arith)
    (sym c.is_of.ensures ∙ c.if-is_of.true)) (omega arith) told.met in
    rw told.looked (record { met = p.0; looked = p.1 })

pub is_of-requires-in-loop-i : goal.is_of-requires-in-loop-i
is_of-requires-in-loop-i c =
    let pre = c.requires.0 in
    let loop = c.loop-i in
    rw (next _ loop.i) (pre (loop.i + 1) (omega (arith, c.loop-i-test.true))).room

pub test_own-requires-then-is_of-2 : goal.test_own-requires-then-is_of-2
test_own-requires-then-is_of-2 c =
    let loop = c.loop-i in
    (rw (next _ loop.i) (c.requires.0 (loop.i + 1) (omega (arith, c.loop-i-test.true))), c.requires.1)

pub returns-then-is_of-2 : goal.returns-then-is_of-2
returns-then-is_of-2 c =
    let loop = c.loop-i in
    let a = c.args in
    let below = c.loop-i-test.true in
    let told = c.test_own-then-is_of-2.ensures in
    let place = next (start_part a.entries) loop.i in
    let p = found_answer a.book.now a.words.now (relation_of a.relation) (value_of a.text.now a.value) (start_part a.entries) (count_part a.entries) _
    c.test_own-then-is_of-2.result.met (loop.i + 2) _
    (loop.invariant.1 ∙ seek_passes a.words.now a.attribute (start_part a.entries) (count_part a.entries) loop.i (omega arith)
    (sym c.is_of.ensures ∙ c.if-is_of.false)
    ∙ seek_finds a.words.now a.attribute (start_part a.entries) (count_part a.entries) (loop.i + 1) (omega arith)
    (rw (← place) (sym c.is_of-in-loop-i.ensures ∙ c.if-is_of-2.true))) (omega arith) (rw (← place) told.met) in
    rw told.looked (record { met = p.0; looked = p.1 })

pub loop-i-preserved : goal.loop-i-preserved
loop-i-preserved c =
    let loop = c.loop-i in
    let a = c.args in
    let below = c.loop-i-test.true in
    let place = next (start_part a.entries) loop.i in
    let two : loop.i + 1 + 1 ≡ loop.i + 2 = omega arith in (
      omega arith,
      rw (← two) (loop.invariant.1 ∙ seek_passes a.words.now a.attribute (start_part a.entries) (count_part a.entries) loop.i (omega arith)
          (sym c.is_of.ensures ∙ c.if-is_of.false)
          ∙ seek_passes a.words.now a.attribute (start_part a.entries) (count_part a.entries) (loop.i + 1) (omega arith)
          (rw (← place) (sym c.is_of-in-loop-i.ensures ∙ c.if-is_of-2.false))),
    )

pub is_of-requires-then-i-count : goal.is_of-requires-then-i-count
is_of-requires-then-i-count c =
    let pre = c.requires.0 in
    (pre c.loop-i.i (omega (arith, c.if-i-count.true))).room

pub test_own-requires-then-is_of-3 : goal.test_own-requires-then-is_of-3
test_own-requires-then-is_of-3 c =
    (c.requires.0 c.loop-i.i (omega (arith, c.if-i-count.true)), c.requires.1)

pub returns-then-is_of-3 : goal.returns-then-is_of-3
returns-then-is_of-3 c =
    let loop = c.loop-i in
    let a = c.args in
    let below = c.if-i-count.true in
    let ended = c.loop-i-test.false in
    let told = c.test_own-then-is_of-3.ensures in
    let p = found_answer a.book.now a.words.now (relation_of a.relation) (value_of a.text.now a.value) (start_part a.entries) (count_part a.entries) _
    c.test_own-then-is_of-3.result.met (count_part a.entries) _
    (loop.invariant.1 ∙ seek_finds a.words.now a.attribute (start_part a.entries) (count_part a.entries) loop.i below
    (sym c.is_of-then-i-count.ensures ∙ c.if-is_of-3.true)) (omega arith) told.met in
    rw told.looked (record { met = p.0; looked = p.1 })

pub returns-else-is_of-3 : goal.returns-else-is_of-3
returns-else-is_of-3 c =
    let loop = c.loop-i in
    let a = c.args in
    let below = c.if-i-count.true in
    let ended = c.loop-i-test.false in
    let p = absent_answer a.book.now a.words.now (relation_of a.relation) (value_of a.text.now a.value) (start_part a.entries) (count_part a.entries) _
    false (count_part a.entries)
    (loop.invariant.1 ∙ seek_passes a.words.now a.attribute (start_part a.entries) (count_part a.entries) loop.i below
    (sym c.is_of-then-i-count.ensures ∙ c.if-is_of-3.false)
    ∙ seek_ends a.words.now a.attribute (start_part a.entries) (count_part a.entries) (loop.i + 1) (omega arith)) refl refl in
    record { met = p.0; looked = p.1 }

pub returns-else-i-count : goal.returns-else-i-count
returns-else-i-count c =
    let loop = c.loop-i in
    let a = c.args in
    let p = absent_answer a.book.now a.words.now (relation_of a.relation) (value_of a.text.now a.value) (start_part a.entries) (count_part a.entries) _
    false (count_part a.entries)
    (loop.invariant.1 ∙ seek_ends a.words.now a.attribute (start_part a.entries) (count_part a.entries) loop.i c.if-i-count.false) refl refl in
    record { met = p.0; looked = p.1 }
