-- Marks of nodes by number, which tell the names that get `_b`.
use Rattle.std.specs.Prelude.{◌≡◌, Bool, false, List, ℕ, length, get_or, ltb}
use Rattle.model.specs.Bytes.{Bytes}
use Rattle.model.specs.Choice.{pick}
use Rattle.model.specs.Names.{Name, mem, place}
use Rattle.model.specs.Book.{node_names}
use Rattle.book_tables.specs.declared.BookCounts.{BookCounts}
use Rattle.book_tables.specs.View.{book_at}

-- a name is marked: it is one of the names, and the mark at its place is set
unfoldable pub is_marked : List Name → List Bool → Name → Bool
is_marked names marks w = pick (ltb (place w names) (length names)) (get_or marks (place w names) false) false

-- the marks tell which names are later ones
pub record Marks (names : List Name) (marks : List Bool) (later : List Name) : Type 0 where
  pub told : (w : Name) → mem w later ≡ is_marked names marks w

-- the marked names of the nodes of a book in words
abbrev pub marked_in : Bytes → List ℕ → BookCounts → List Bool → Name → Bool
marked_in text words counts marks = is_marked (node_names (book_at text words counts)) marks
