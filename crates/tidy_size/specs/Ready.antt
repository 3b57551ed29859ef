-- What is taken for granted of the words: the tables asked for are among them, and a text value is not longer than a book.
use Rattle.std.specs.Prelude.{ℕ, ◌+◌, ◌*◌, ◌/◌, ◌%◌, ◌≤◌, ◌<◌, ◌≡◌, List, length}
use Rattle.model.specs.Bytes.{Bytes}
use Rattle.book_tables.specs.declared.BookCounts.{BookCounts}
use Rattle.book_tables.specs.Layout.{entries}
use Rattle.book_tables.specs.View.{word_at, start_part, count_part, entry_head}
use Rattle.book_tables.specs.Fits.{Inside, NamesFit, EntryFits, Fits}
use Rattle.book_lookup.specs.Entries.{kind_at, second_at}
use Rattle.book_lookup.specs.Ready.{Room, EntryReady}

-- the words hold a book of a text that is not at hand, and not longer than a book may be
pub record SomeText (words : List ℕ) (c : BookCounts) : Type 0 where
  pub book : Bytes
  pub fits : Fits book words c
  pub short : length book ≤ 65536

-- the name that the word at a place says stands in the text
abbrev pub Named : List ℕ → ℕ → Bytes → Type 0
Named words at text = Inside text (word_at words at / 32) (word_at words at % 32)

-- an entry's name and value stand in the text
pub record EntryIn (words : List ℕ) (name k : ℕ) (text : Bytes) : Type 0 where
  pub named : Named words name text
  pub ready : EntryReady text words k

-- the attributes declared at an offset and the entries of an owner stand in the text
pub record OwnerIn (words : List ℕ) (offset declared owner : ℕ) (text : Bytes) : Type 0 where
  pub names : NamesFit text words offset declared
  pub each : (i : ℕ) → i < count_part owner → EntryFits text words declared (start_part owner + i)

-- an entry is there, and a text value of it is short
pub record EntryShort (words : List ℕ) (k : ℕ) : Type 0 where
  pub room : Room words k
  pub short : kind_at words k ≡ 1 → second_at words k ≤ 65536

-- the entries of an owner are there, each of an attribute declared at an offset, and are short
pub record OwnerShort (words : List ℕ) (offset declared owner : ℕ) : Type 0 where
  pub few : declared ≤ 32
  pub names : offset + declared ≤ length words
  pub room : entries + 3 * (start_part owner + count_part owner) ≤ length words
  pub attributes : (i : ℕ) → i < count_part owner → entry_head words (start_part owner + i) / 4 < declared
  pub short : (i : ℕ) → i < count_part owner → kind_at words (start_part owner + i) ≡ 1 → second_at words (start_part owner + i) ≤ 65536
