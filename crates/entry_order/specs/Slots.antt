-- The entries of an owner by their attributes.
use Rattle.std.specs.Prelude.{ℕ, ◌+◌, ◌*◌, ◌/◌, ◌≤◌, ◌<◌, ◌≡◌, List, length, get_or}
use Rattle.model.specs.Choice.{Maybe, nothing, just}
use Rattle.book_tables.specs.Layout.{entries}
use Rattle.book_tables.specs.View.{start_part, count_part, entry_head}
use Rattle.book_lookup.specs.Entries.{seek}

-- the entries that an owner's word says are among the words, and their attributes have slots
pub record Slotted (words : List ℕ) (owner : ℕ) : Type 0 where
  pub room : entries + 3 * (start_part owner + count_part owner) ≤ length words
  pub attributes : (i : ℕ) → i < count_part owner → entry_head words (start_part owner + i) / 4 < 32

-- an entry that may be missing as a slot says it: its number and one, or 0
unfoldable pub slot_of : Maybe ℕ → ℕ
slot_of nothing = 0
slot_of (just k) = k + 1

-- each slot says the first of the owner's entries that is of its attribute
pub record Slots (words : List ℕ) (owner : ℕ) (slots : List ℕ) : Type 0 where
  pub each : (a : ℕ) → a < 32 → get_or slots a 0 ≡ slot_of (seek words a (start_part owner) (count_part owner))
