-- What is known once the book is read.
use Rattle.std.specs.Prelude.{ℕ, ◌≡◌, List}
use Rattle.model.specs.Bytes.{Bytes}
use Rattle.model.specs.Refusal.{accepted}
use Rattle.model.specs.ReadBook.{read_book}
use Rattle.book_tables.specs.declared.BookCounts.{BookCounts}
use Rattle.book_tables.specs.View.{book_at}
use Rattle.book_tables.specs.Fits.{Fits}

-- the words hold the book that the text says
pub record BookRead (text : Bytes) (words : List ℕ) (c : BookCounts) : Type 0 where
  pub fits : Fits text words c
  pub is : read_book text ≡ accepted (book_at text words c)
