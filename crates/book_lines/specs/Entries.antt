-- The entries at the end of a line, read by places of the line and stored behind those counted.
use Rattle.std.specs.Prelude.{ℕ, ◌+◌, ◌≤◌, ◌≡◌, List, false, Option, None, Some}
use Rattle.model.specs.Bytes.{Bytes}
use Rattle.model.specs.Choice.{Maybe, nothing, and_then}
use Rattle.model.specs.Lists.{each}
use Rattle.model.specs.Values.{Entry}
use Rattle.model.specs.Forms.{entry_of}
use Rattle.model.specs.BookLines.{BookLine}
use Rattle.model.specs.declared.Value.{Value}
use Rattle.model.specs.declared.Value.TheVariants.{Number, Text, Truth}
use Rattle.item_forms.specs.declared.Form.{Form}
use Rattle.item_forms.specs.Ends.{form_at}
use Rattle.book_tables.specs.declared.BookCounts.{BookCounts}
use Rattle.book_tables.specs.Agree.{Agree}
use Rattle.book_entries.specs.declared.EntriesRead.{EntriesRead}
use Rattle.book_entries.specs.Known.{EntriesKnown}

-- a value whose text stands in a part that begins at the base
abbrev pub shift : ℕ → Value → Value
shift base (Number n) = Number n
shift base (Text start size) = Text (base + start) size
shift base (Truth t) = Truth t

-- the rest of a form as entries
abbrev pub entries_form : Form → Bytes → ℕ → (List Entry → Maybe BookLine) → Maybe BookLine
entries_form within line from k = form_at within false from line (λ is. and_then (each entry_of is) k)

-- the entries were read
pub record EntriesGot (within : Form) (text line : Bytes) (words : List ℕ) (c : BookCounts) (offset declared from : ℕ) (known : EntriesRead) : Type 0 where
  pub got : List Entry
  pub form : (k : List Entry → Maybe BookLine) → entries_form within line from k ≡ k got
  pub after : EntriesKnown text words c offset declared got known
  pub few : known.count ≤ 65536

abbrev pub EntriesTold : Form → Bytes → Bytes → List ℕ → BookCounts → ℕ → ℕ → ℕ → Option EntriesRead → Type 0
EntriesTold within text line words c offset declared from (Some known) = EntriesGot within text line words c offset declared from known
EntriesTold within text line words c offset declared from None = (k : List Entry → Maybe BookLine) → entries_form within line from k ≡ nothing

-- what reading the entries gives
pub record EntriesDone (within : Form) (text line : Bytes) (words words' : List ℕ) (c : BookCounts) (offset declared from : ℕ)
    (r : Option EntriesRead) : Type 0 where
  pub agrees : Agree c words words'
  pub told : EntriesTold within text line words' c offset declared from r
