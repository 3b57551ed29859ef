-- `text::lines::some_bad` meets its contract. The loop's invariant: a bad byte was seen, or is to come, exactly if there is one.
use Rattle.text.specs.Lines.{is_bad}
use Rattle.model.specs.Lists.{any}
use lib.ListN.{drop}
use mathlib.Core.Bool.{◌||◌}
use mathlib.Core.Path.{◌≡◌}
use Rattle.text.proofs.lines.some_bad.Given as goal

abbrev pub invariant-loop-b : goal.invariant-loop-b
invariant-loop-b l = (l.bad || any is_bad (drop l.b-index l.s)) ≡ any is_bad l.s
