-- What is promised of a size.
use Rattle.std.specs.Prelude.{ℕ, ◌*◌, ◌≤◌, ◌≡◌, length}
use Rattle.model.specs.Bytes.{Bytes}
use Rattle.model.specs.BookLines.{BookLine}
use Rattle.model.specs.Tidy.{line_text}
use Rattle.tidy_size.specs.Pieces.{lines_to}

-- a number is the length of a piece, whatever the book's text is as long as the words say parts of it; and it is not above a bound
pub record Size (most : ℕ) (Of : Bytes → Type 0) (piece : Bytes → Bytes) (r : ℕ) : Type 0 where
  pub small : r ≤ most
  pub is : (text : Bytes) → Of text → r ≡ length (piece text)

-- no entry is longer: 31 bytes for its name, 65,538 for its value, and four; and no line, with at most 32 entries and three names
abbrev pub entry_most : ℕ
entry_most = 65573

abbrev pub line_most : ℕ
line_most = 4194304

-- the size of a line, and of as many lines of a sequence
abbrev pub LineSize : (Bytes → Type 0) → (Bytes → BookLine) → ℕ → Type 0
LineSize Of line r = Size line_most Of (λ text. line_text (line text)) r

abbrev pub LinesSize : (Bytes → Type 0) → (Bytes → ℕ → BookLine) → ℕ → ℕ → Type 0
LinesSize Of line n r = Size (line_most * n) Of (λ text. lines_to (line text) n) r
