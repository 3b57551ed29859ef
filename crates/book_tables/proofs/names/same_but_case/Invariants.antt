use mathlib.Core.Path.{◌≡◌}
use mathlib.Core.List.{map}
use lib.ListN.{drop}
use Rattle.model.specs.Bytes.{same}
use Rattle.model.specs.Names.{lowered, same_but_case}
use Rattle.book_tables.proofs.names.same_but_case.Given as goal

abbrev pub invariant-loop-i : goal.invariant-loop-i
invariant-loop-i l = same (drop l.i (map lowered l.a)) (drop l.i (map lowered l.b)) ≡ same_but_case l.a l.b
