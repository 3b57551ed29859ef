-- What reading a query gives: that it is accepted, or its refusal.
use Rattle.std.specs.Prelude.{ℕ, ◌≡◌, List, Result, ⊤, Ok, Err}
use Rattle.model.specs.Bytes.{Bytes}
use Rattle.model.specs.Refusal.{accepted, refused}
use Rattle.model.specs.Book.{Book}
use Rattle.model.specs.QueryText.{QueryText}
use Rattle.model.specs.ReadQuery.{read_query}
use Rattle.model.specs.Answers.{refusal_of}
use Rattle.book_tables.specs.declared.BookCounts.{BookCounts}
use Rattle.book_tables.specs.Fits.{Fits}
use Rattle.text.specs.Lines.{bytes_of}
use Rattle.model.specs.declared.Refusal.{Refusal}

-- accepted: the text is read as a tree; refused: so is the text
abbrev pub QueryReads : Book → Bytes → Result ⊤ Refusal → Type 0
QueryReads b s (Ok u) = (tree : QueryText) × (read_query b s ≡ accepted tree)
QueryReads b s (Err x) = read_query b s ≡ refused (refusal_of x)

-- a refusal of text 3 with a number and a line
abbrev pub refused_with : ℕ → ℕ → Result ⊤ Refusal
refused_with number line = Err (record { number = number; text = 3; line = line })

-- what is asked of a text that passes the refusals 1 and 2: the book is loaded, and the text's bytes are read as allowed
pub record TextAsked (book : Bytes) (words : List ℕ) (c : BookCounts) (s : Bytes) : Type 0 where
  pub fits : Fits book words c
  pub allowed : bytes_of 2048 s ≡ Ok tt
