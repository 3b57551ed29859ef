-- `book_lookup::testing::test_entries` meets its contract. The loop's invariant: what is sought among all the entries is sought among those from `i` on.
-- The measure is the number of entries left. Assumes nothing.
use Prim.Native.Nat.{◌+◌, ◌-◌, ◌≤◌}
use mathlib.Core.Path.{◌≡◌}
use Rattle.book_tables.specs.View.{start_part, count_part}
use Rattle.book_lookup.specs.Entries.{seek}
use Rattle.book_lookup.proofs.testing.test_entries.Given as goal

abbrev pub invariant-loop-i : goal.invariant-loop-i
invariant-loop-i l =
    (l.i ≤ count_part l.entries)
    × (seek l.words l.attribute (start_part l.entries) (count_part l.entries) ≡ seek l.words l.attribute (start_part l.entries + l.i) (count_part l.entries - l.i))

abbrev pub decreases-loop-i : goal.decreases-loop-i
decreases-loop-i l = count_part l.entries - l.i
