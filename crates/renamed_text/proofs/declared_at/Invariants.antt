-- `renamed_text::declared_at` meets its contract. The loop's invariant: the line is that of the lines from `at` on, counted from `line`. Assumes nothing.
use Prim.Native.Nat.{◌+◌, ◌-◌, ◌≤◌}
use mathlib.Core.Path.{◌≡◌}
use lib.ListN.{length}
use Rattle.model.specs.Lines.{lines_of}
use Rattle.model.specs.Renaming.{declared_at}
use Rattle.renamed_text.proofs.DeclaredLaws.{line_from}
use Rattle.renamed_text.proofs.declared_at.Given as goal

abbrev pub invariant-loop-at : goal.invariant-loop-at
invariant-loop-at l = (line_from l.name l.text l.at l.line ≡ declared_at l.name (lines_of l.text)) × (l.at ≤ length l.text + 1) × (l.line ≤ l.at + 1)

abbrev pub decreases-loop-at : goal.decreases-loop-at
decreases-loop-at l = length l.text + 1 - l.at
