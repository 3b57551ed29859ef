-- Which attribute likely comes next in a line: a guess that is tried first, and decides nothing.
use Rattle.std.specs.Prelude.{ℕ, ◌+◌, ◌-◌, ◌/◌, List, eqb, ltb}
use Rattle.model.specs.Choice.{pick}
use Rattle.book_tables.specs.View.{entry_head}

-- behind `count` entries of a line, stored from one on: the attribute behind that of the last; the first where there is none, or was no room for it
unfoldable pub likely_next : List ℕ → ℕ → ℕ → ℕ
likely_next words from count = pick (eqb count 0) 0 (pick (ltb (from + count - 1) 2048) (entry_head words (from + count - 1) / 4 + 1) 0)
