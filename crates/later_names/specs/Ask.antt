-- What is known where new names are asked for, and what is answered.
use Rattle.std.specs.Prelude.{ℕ, ◌<◌, ◌≡◌, List, [], length, get_or, Result, Ok, Err}
use Rattle.model.specs.Bytes.{Bytes, same}
use Rattle.model.specs.Choice.{nothing, just}
use Rattle.model.specs.Names.{Name}
use Rattle.model.specs.Refusal.{accepted}
use Rattle.model.specs.ReadBook.{read_book_by}
use Rattle.model.specs.Renaming.{later_names, renamed, first_stuck}
use Rattle.book_tables.specs.declared.BookCounts.{BookCounts}
use Rattle.book_tables.specs.View.{book_at}
use Rattle.book_tables.specs.Fits.{Fits}

-- the words hold the book that the text says by the very names
pub record ReadExactly (text : Bytes) (words : List ℕ) (c : BookCounts) : Type 0 where
  pub fits : Fits text words c
  pub is : read_book_by same text ≡ accepted (book_at text words c)

-- the first later name that cannot have its new one, by its number; or the length of the text with all new names
abbrev pub Answered : Bytes → List Name → ℕ → Result ℕ ℕ → Type 0
Answered s names nodes (Ok n) = (first_stuck s names [] (later_names [] names) ≡ nothing) × (n ≡ length (renamed (later_names [] names) s))
Answered s names nodes (Err i) = (i < nodes) × (first_stuck s names [] (later_names [] names) ≡ just (get_or names i []))
