-- `book_entries::likely_next` meets its contract. Assumes nothing.
use Rattle.book_entries.specs.Likely.{likely_next}
use Rattle.book_tables.specs.Layout.{entries}
use Prim.Native.Nat.{◌+◌, ◌-◌, ◌*◌}
use borrow.Author.Tests.{eq-eqb, ne_eqb, lt-ltb, le-ltb}
use native.Mathlib.Omega.{arith}
use Rattle.book_entries.proofs.likely_next.Goals as goal

pub returns-then-count-eq0 : goal.returns-then-count-eq0
unfolding likely_next
returns-then-count-eq0 c = rw (eq-eqb _ _ c.if-count-eq0.true)

pub returns-then-entry-ge-MAX_ENTRIES : goal.returns-then-entry-ge-MAX_ENTRIES
unfolding likely_next
returns-then-entry-ge-MAX_ENTRIES c = rw (ne_eqb _ _ c.if-count-eq0.false, le-ltb _ 2048 c.if-entry-ge-MAX_ENTRIES.true)

pub overflow_cast-result : goal.overflow_cast-result
overflow_cast-result c = let a = c.args in omega (arith, c.type_inv.words (entries + 3 * (a.from + a.count - 1)))

pub overflow_add-result-2 : goal.overflow_add-result-2
overflow_add-result-2 c = let a = c.args in omega (arith, c.type_inv.words (entries + 3 * (a.from + a.count - 1)))

pub returns : goal.returns
unfolding likely_next
returns c = rw (ne_eqb _ _ c.if-count-eq0.false, lt-ltb _ 2048 c.if-entry-ge-MAX_ENTRIES.false)
