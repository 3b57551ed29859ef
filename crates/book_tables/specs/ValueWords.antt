-- A value in three words: its type, and the two words that say it.
use Rattle.std.specs.Prelude.{ℕ, ◌+◌, ◌≤◌, ◌<◌, ◌≡◌, length}
use Rattle.model.specs.Bytes.{Bytes}
use Rattle.model.specs.declared.Value.{Value}
use Rattle.model.specs.declared.Value.TheVariants.{Number, Text, Truth}
use Rattle.model.specs.Answers.{value_of}
use Rattle.book_tables.specs.declared.ValueWords.{ValueWords}
use Rattle.book_tables.specs.View.{value_in}

-- a text value ends before the place that is given
abbrev pub EndsBefore : ℕ → Value → Type 0
EndsBefore limit (Number n) = Unit {0}
EndsBefore limit (Text start size) = start + size ≤ limit
EndsBefore limit (Truth t) = Unit {0}

-- the words say the value, in every text; those of a text value are its start and its length
pub record Says (v : Value) (r : ValueWords) : Type 0 where
  pub type : r.kind < 4
  pub value : (text : Bytes) → value_in text r.kind r.first r.second ≡ value_of text v
  pub inside : (limit : ℕ) → EndsBefore limit v → r.kind ≡ 1 → r.first + r.second ≤ limit
