use Rattle.query_survey.specs.Names.{names_in, found_at}
use Rattle.model.specs.Answers.{name_at}
use Rattle.model.specs.Names.{mem}
use lib.ListN.{take}
use Prim.Native.Nat.{◌-◌, ◌≤◌}
use mathlib.Core.Path.{◌≡◌}
use Rattle.query_survey.proofs.scan.stands.Given as goal

abbrev pub invariant-loop-i : goal.invariant-loop-i
invariant-loop-i l = (l.i ≤ l.count)
    × (mem (name_at l.s l.name) (names_in l.which (take (l.count - l.i) (found_at l.s l.place))) ≡ mem (name_at l.s l.name) (names_in l.which (take l.count (found_at l.s l.initial.place))))
