-- The line that declares a node, line by line. Assumes nothing.
use Prim.Native.Nat.{ℕ, ◌+◌, ◌≤◌, ◌<◌}
use mathlib.Core.Path.{◌≡◌}
use mathlib.Core.Bool.{true, false}
use native.Mathlib.Omega.{arith}
use lib.ListN.{length, drop}
use Rattle.model.specs.Bytes.{Bytes}
use Rattle.model.specs.Names.{Name}
use Rattle.model.specs.Lists.{place_where}
use Rattle.model.specs.Lines.{lines_of}
use Rattle.model.specs.Renaming.{declares_node}
use Rattle.text.specs.Places.{past}
use Rattle.text.specs.Lines.{is_in_line, line_at}
use Rattle.text.proofs.LineReads.{first_line_law}
use Rattle.text.proofs.LineLaws.{lines_none}

module _ (name : Name) (text : Bytes) (at : ℕ) where
  -- the line of the lines from a place on, counted from a line
  abbrev pub line_from : ℕ → ℕ
  line_from line = place_where (declares_node name) (lines_of (drop at text)) + line

  module _ (to : ℕ) (e : to ≡ past is_in_line text at) (l : at < length text) (line : ℕ) where
    pub declared_here : declares_node name (line_at text at to) ≡ true → line ≡ line_from line
    unfolding place_where
    declared_here h = rw (first_line_law text at to e l, h) (omega arith)

    pub declared_later : declares_node name (line_at text at to) ≡ false
        → place_where (declares_node name) (lines_of (drop (to + 1) text)) + (line + 1) ≡ line_from line
    unfolding place_where
    declared_later h = rw (first_line_law text at to e l, h) (omega arith)

  pub declared_nowhere : length text ≤ at → (line : ℕ) → line ≡ line_from line
  unfolding place_where
  declared_nowhere g line = rw (lines_none text at g) (omega arith)
