-- What the renaming makes of a line, and of what a line says. Nothing to believe: the theorems of the renaming are proved with these.
use Prim.Native.Nat.{ℕ, ◌+◌, ◌≤◌}
use mathlib.Core.List.{List}
use lib.ListN.{length}
use Rattle.model.specs.Choice.{pick}
use Rattle.model.specs.Limits.{max_word_bytes}
use Rattle.model.specs.Lists.{joined}
use Rattle.model.specs.Names.{Name, mem}
use Rattle.model.specs.Lines.{Line}
use Rattle.model.specs.BookLines.{label, BookLine, vattr, eattr, node, rel}
use Rattle.model.specs.Renaming.{line_pieces, piece_bytes, new_name}

-- a line with `_b` behind these names, wherever they name a node
abbrev pub line_anew : List Name → Line → Line
line_anew later l = record { bytes = joined piece_bytes (line_pieces later l.bytes); ended = l.ended }

-- what a line says with new names
unfoldable pub says_anew : List Name → BookLine → BookLine
says_anew later (vattr n k) = vattr n k
says_anew later (eattr n k) = eattr n k
says_anew later (label n) = label n
says_anew later (node n es) = node (new_name later n) es
says_anew later (rel l x y es) = rel l (new_name later x) (new_name later y) es

-- how many `_b` a name gets, and how many a line
unfoldable pub marked : List Name → Name → ℕ
marked later n = pick (mem n later) 1 0

unfoldable pub marks_of : List Name → BookLine → ℕ
marks_of later (vattr n k) = 0
marks_of later (eattr n k) = 0
marks_of later (label n) = 0
marks_of later (node n es) = marked later n
marks_of later (rel l x y es) = marked later x + marked later y

-- no new name of a line is too long
abbrev pub Short : List Name → BookLine → Type 0
Short later (vattr n k) = Unit {0}
Short later (eattr n k) = Unit {0}
Short later (label n) = Unit {0}
Short later (node n es) = length (new_name later n) ≤ max_word_bytes
Short later (rel l x y es) = (length (new_name later x) ≤ max_word_bytes) × (length (new_name later y) ≤ max_word_bytes)
