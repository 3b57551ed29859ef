-- `tidy_size::entries::entries_size` meets its contract. The loop's invariant: the size is that of the entries of the attributes before `attribute`. The
-- measure is the number of attributes left. Assumes nothing.
use Prim.Native.Nat.{◌-◌, ◌≤◌}
use Rattle.tidy_size.proofs.EntryLaws.{EntriesSize}
use Rattle.tidy_size.proofs.entries.entries_size.Given as goal

abbrev pub invariant-loop-attribute : goal.invariant-loop-attribute
invariant-loop-attribute l =
    (l.attribute ≤ l.declared) × EntriesSize l.words l.offset l.declared l.owner l.attribute l.size
