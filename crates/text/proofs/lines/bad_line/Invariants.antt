-- `text::lines::bad_line` meets its contract. The loop's invariant: the lines from i on, counted from `line`, give the line that all of them give; a line
-- has at least one byte.
use Rattle.model.specs.Lines.{bad_line}
use lib.ListN.{drop}
use Prim.Native.Nat.{◌+◌, ◌≤◌}
use mathlib.Core.Path.{◌≡◌}
use Rattle.text.proofs.lines.bad_line.Given as goal

abbrev pub invariant-loop-b : goal.invariant-loop-b
invariant-loop-b l = (bad_line l.line (drop l.b-index l.s) ≡ bad_line 1 l.s) × (l.line ≤ l.b-index + 1)
