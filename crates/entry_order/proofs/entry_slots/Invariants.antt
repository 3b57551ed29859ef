-- `entry_order::entry_slots` meets its contract. The loop's invariant: the slots are those of the entries that were walked.
use Prim.Native.Nat.{◌-◌, ◌≤◌}
use Rattle.entry_order.proofs.SlotLaws.{SlotsFrom}
use Rattle.entry_order.proofs.entry_slots.Given as goal

abbrev pub invariant-loop-entry : goal.invariant-loop-entry
invariant-loop-entry l = (l.start ≤ l.entry) × SlotsFrom l.words l.owner (l.entry - l.start) l.slots
