-- One line more: its lowest fault, or the book with it; and what the words then hold.
use Rattle.std.specs.Prelude.{ℕ, ◌≤◌, ◌<◌, ◌≡◌, List, Bool, length, eqb, is_none, ◌&&◌, Option, Some, Result, Ok, Err}
use Rattle.std.specs.Option.{option_eq}
use Rattle.model.specs.Bytes.{Bytes}
use Rattle.model.specs.Choice.{pick}
use Rattle.model.specs.Lines.{Step, fault, known, fault_or}
use Rattle.model.specs.Book.{Book}
use Rattle.model.specs.BookLines.{BookLine}
use Rattle.model.specs.ReadBook.{line_fault, add_line}
use Rattle.model.specs.declared.Part.{Part}
use Rattle.book_tables.specs.declared.BookCounts.{BookCounts}
use Rattle.book_tables.specs.declared.NameRule.{NameRule}
use Rattle.book_tables.specs.Alike.{alike}
use Rattle.book_tables.specs.View.{book_at}
use Rattle.book_tables.specs.Fits.{Inside, Fits}

-- what a line gives after a book, by a rule for the names of nodes: its lowest fault, or the book with it
unfoldable pub step_of : NameRule → Book → BookLine → Step Book
step_of rule b line = fault_or (line_fault (alike rule) b line) (add_line b line)

-- what the words hold after a line: nothing is said after a fault, else the book with the line
abbrev pub Stepped : Bytes → List ℕ → Result BookCounts ℕ → Step Book → Type 0
Stepped text words (Err n) s = s ≡ fault n
Stepped text words (Ok c) s = (s ≡ known (book_at text words c)) × Fits text words c

-- a name of a text that is not too long
pub record NameAsked (text : Bytes) (name : Part) : Type 0 where
  pub inside : Inside text name.start name.length
  pub short : name.length < 32
  pub limit : length text ≤ 65536

-- the lowest fault of a node or a relationship: it is there already, its entries have this fault, a count passes its limit
unfoldable pub owner_fault : Bool → Option ℕ → Bool → Option ℕ
owner_fault there own full = pick (option_eq eqb own (Some 4)) own (pick there (Some 5) (pick (is_none own && full) (Some 7) own))
