-- What a look-up may take for granted of the words, the texts and the numbers it is given.
use Rattle.std.specs.Prelude.{ℕ, ◌+◌, ◌*◌, ◌≤◌, ◌<◌, ◌≡◌, List, length}
use Rattle.model.specs.Bytes.{Bytes}
use Rattle.model.specs.Values.{Kind}
use Rattle.model.specs.declared.Value.{Value as ValueData}
use Rattle.book_tables.specs.declared.BookCounts.{BookCounts}
use Rattle.book_tables.specs.declared.Owner.{Owner}
use Rattle.book_tables.specs.Owners.{tables_of}
use Rattle.book_tables.specs.Layout.{entries, book_words}
use Rattle.book_tables.specs.View.{kind_in, start_part, count_part}
use Rattle.book_tables.specs.Fits.{Inside, Fits}
use Rattle.book_tables.specs.ValueWords.{EndsBefore}
use Rattle.book_lookup.specs.Entries.{kind_at, first_at, second_at}

-- an entry's three words are among the words
abbrev pub Room : List ℕ → ℕ → Type 0
Room words k = entries + 3 * k + 3 ≤ length words

-- an entry is there, and of a type
pub record OfType (type : Kind) (words : List ℕ) (k : ℕ) : Type 0 where
  pub room : Room words k
  pub is : kind_in (kind_at words k) ≡ type

-- an entry is there, and a text value of it stands in the book's text
pub record EntryReady (book : Bytes) (words : List ℕ) (k : ℕ) : Type 0 where
  pub room : Room words k
  pub inside : kind_at words k ≡ 1 → Inside book (first_at words k) (second_at words k)

-- the entries that an owner's word says are there, and their text values stand in the book's text
abbrev pub EntriesReady : Bytes → List ℕ → ℕ → Type 0
EntriesReady book words w = (i : ℕ) → i < count_part w → EntryReady book words (start_part w + i)

-- a text value stands inside the text it is part of
abbrev pub ValueInside : Bytes → ValueData → Type 0
ValueInside text v = EndsBefore (length text) v

-- the words hold a book of the text, and the owner and the attribute asked for are counted
pub record Asked (book : Bytes) (words : List ℕ) (c : BookCounts) (owner owners attribute attributes : ℕ) : Type 0 where
  pub fits : Fits book words c
  pub owned : owner < owners
  pub declared : attribute < attributes

-- the words have the table of an owner's entries, and the owner is counted
pub record OwnerReady (words : List ℕ) (c : BookCounts) (owner : Owner) (number : ℕ) : Type 0 where
  pub room : book_words ≤ length words
  pub owned : number < (tables_of owner c).count
  pub few : (tables_of owner c).count ≤ 1024

-- the words hold a book of the text that has a node
pub record HasNode (book : Bytes) (words : List ℕ) (node : ℕ) : Type 0 where
  pub counts : BookCounts
  pub fits : Fits book words counts
  pub counted : node < counts.nodes
