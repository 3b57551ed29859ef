-- `item_forms::form_ends` meets its contract. The loop's invariant: what is left to close ends the form as the whole does.
use Rattle.item_forms.specs.Ends.{ends_after}
use Prim.Native.Nat.{◌-◌}
use mathlib.Core.Path.{◌≡◌}
use Rattle.item_forms.proofs.form_ends.Given as goal

abbrev pub invariant-loop : goal.invariant-loop
invariant-loop l = ends_after (l.closes - l.counter) l.s l.at ≡ ends_after l.closes l.s l.from
