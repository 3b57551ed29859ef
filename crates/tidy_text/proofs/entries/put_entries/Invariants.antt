-- `put_entries` meets its contract. The loop's invariant: the entries of all attributes but those left are put. Assumes nothing.
use Prim.Native.Nat.{◌-◌, ◌≤◌}
use Rattle.putting.specs.Putting.{Puts}
use Rattle.tidy_text.specs.Pieces.{entries_text}
use Rattle.tidy_text.proofs.entries.put_entries.Given as goal

abbrev pub invariant-loop-attribute : goal.invariant-loop-attribute
invariant-loop-attribute l = Puts l.initial.out l.at (entries_text l.book l.words l.offset l.owner l.attribute) l.out l.next
