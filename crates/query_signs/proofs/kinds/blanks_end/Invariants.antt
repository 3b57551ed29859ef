use Rattle.query_signs.specs.Reads.{is_blank}
use Rattle.text.specs.Places.{past}
use lib.ListN.{length}
use Prim.Native.Nat.{◌≤◌, max}
use mathlib.Core.Path.{◌≡◌}
use Rattle.query_signs.proofs.kinds.blanks_end.Given as goal

abbrev pub invariant-loop-i : goal.invariant-loop-i
invariant-loop-i l = (l.i ≤ max l.from (length l.s)) × (past is_blank l.s l.i ≡ past is_blank l.s l.from)
