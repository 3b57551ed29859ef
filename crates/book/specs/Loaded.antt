-- A whole book: what the words hold after it, accepted or refused.
use Rattle.std.specs.Prelude.{ℕ, ◌≤◌, ◌≡◌, List, length, Result, Ok, Err}
use Rattle.model.specs.Bytes.{Bytes}
use Rattle.model.specs.Refusal.{Outcome, accepted, refused}
use Rattle.model.specs.Book.{Book}
use Rattle.model.specs.Service.{ones}
use Rattle.model.specs.Answers.{refusal_of}
use Rattle.model.specs.declared.Refusal.{Refusal as RefusalData}
use Rattle.book_tables.specs.declared.BookCounts.{BookCounts}
use Rattle.book_tables.specs.View.{book_at}
use Rattle.book_tables.specs.Fits.{Fits}

-- accepted, the words hold the book; refused, they are all ones
abbrev pub Loaded : Bytes → List ℕ → Result BookCounts RefusalData → Outcome Book → Type 0
Loaded text words (Ok c) o = (o ≡ accepted (book_at text words c)) × Fits text words c
Loaded text words (Err r) o = (o ≡ refused (refusal_of r)) × (words ≡ ones (length words))

-- what reading a line asks
pub record LineAsked (text : Bytes) (words : List ℕ) (c : BookCounts) (from to : ℕ) : Type 0 where
  pub fits : Fits text words c
  pub limit : length text ≤ 65536
  pub forward : from ≤ to
  pub inside : to ≤ length text
