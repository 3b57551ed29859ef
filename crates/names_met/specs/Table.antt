-- The names met in a text, in a table of words: 256 heads of chains by the names' slots, a link for each name, and each name's word.
use Rattle.std.specs.Prelude.{ℕ, ◌+◌, ◌*◌, ◌-◌, ◌/◌, ◌%◌, ◌≤◌, ◌<◌, ◌≡◌, List, length}
use Rattle.model.specs.Bytes.{Bytes}
use Rattle.chains.specs.Chains.{Chained}
use Rattle.chains.specs.Slots.{slot_of}
use Rattle.book_tables.specs.View.{word_at, name_of, names_at}
use Rattle.book_tables.specs.Fits.{Inside}

-- a list of names
abbrev pub Names : Type 0
Names = List Bytes

-- where the names' words begin in a table of so many words: the links before them have half of what the heads leave
abbrev pub words_from : ℕ → ℕ
words_from size = 256 + (size - 256) / 2

-- the first n names of a table, one of them, and its slot
abbrev pub names_met : Bytes → List ℕ → ℕ → Names
names_met s table n = names_at s table (words_from (length table)) n

abbrev pub name_met : Bytes → List ℕ → ℕ → Bytes
name_met s table k = name_of s table (words_from (length table)) k

abbrev pub slot_met : Bytes → List ℕ → ℕ → ℕ
slot_met s table k = slot_of (name_met s table k)

-- n names stand in a table, each a part of the text and in the chain of its slot
pub record Entries (s : Bytes) (table : List ℕ) (n : ℕ) : Type 0 where
  pub room : 256 + 2 * n ≤ length table
  pub inside : (k : ℕ) → k < n → Inside s (word_at table (words_from (length table) + k) / 32) (word_at table (words_from (length table) + k) % 32)
  pub chains : Chained table 0 256 256 (slot_met s table) n

-- they are these names
pub record Indexed (s : Bytes) (table : List ℕ) (n : ℕ) (names : Names) : Type 0 where
  pub has : Entries s table n
  pub are : names_met s table n ≡ names

-- a table of n entries has these names; a table that is full says nothing
pub record Holds (s : Bytes) (table : List ℕ) (n : ℕ) (names : Names) : Type 0 where
  pub inside : n ≤ length table
  pub lists : n < length table → Indexed s table n names
