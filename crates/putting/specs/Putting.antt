-- A buffer that takes bytes one behind another: those past its end are counted, and not kept.
use Rattle.std.specs.Prelude.{ℕ, ◌+◌, ◌/◌, ◌%◌, ◌<◌, ◌≡◌, List, [], ◌∷◌, length, set, ltb}
use Rattle.model.specs.Bytes.{Bytes}
use Rattle.model.specs.Choice.{pick}
use Rattle.book_tables.specs.View.{word_at}
use Rattle.book_tables.specs.Fits.{Inside}

-- a buffer's bytes, and the place of the next one
pub record Buffer : Type 0 where
  pub bytes : Bytes
  pub place : ℕ

-- places are counted as far as a word of 64 bits counts
abbrev pub last_place : ℕ
last_place = 18446744073709551615

-- the next place
unfoldable pub further : ℕ → ℕ
further at = pick (ltb at last_place) (at + 1) at

-- with a byte more
unfoldable pub with_byte : Buffer → ℕ → Buffer
with_byte b x = record { bytes = set b.bytes b.place x; place = further b.place }

-- with a text more
unfoldable pub with_text : Buffer → Bytes → Buffer
with_text b [] = b
with_text b (x ∷ t) = with_text (with_byte b x) t

-- a text is put at a place of a buffer: what the buffer then holds, and the place behind the text
pub record Puts (out : Bytes) (at : ℕ) (t : Bytes) (out' : Bytes) (at' : ℕ) : Type 0 where
  pub is : record { bytes = out'; place = at' } ≡ with_text (record { bytes = out; place = at }) t

-- a name of the book by its number in the table at an offset: its word is there, and says a part of the book
pub record Declared (book : Bytes) (words : List ℕ) (offset number : ℕ) : Type 0 where
  pub room : offset + number < length words
  pub inside : Inside book (word_at words (offset + number) / 32) (word_at words (offset + number) % 32)
