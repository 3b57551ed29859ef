-- What is put of a loaded book lies inside the book's text and its tables.
use Rattle.std.specs.Prelude.{ℕ, ◌+◌, ◌-◌, ◌≤◌, ◌<◌, List, length}
use Rattle.model.specs.Bytes.{Bytes}
use Rattle.book_tables.specs.declared.Owner.{Owner}
use Rattle.book_tables.specs.declared.Owner.TheVariants.{Node, Relationship}
use Rattle.book_tables.specs.declared.OwnerTables.{OwnerTables}
use Rattle.book_tables.specs.Layout.{types_behind, label_names, node_names, relationships, book_words}
use Rattle.book_tables.specs.View.{word_at, label_part, from_part, to_part, rel_word}
use Rattle.book_lookup.specs.Ready.{EntryReady}
use Rattle.entry_order.specs.Slots.{Slotted}
use Rattle.putting.specs.Putting.{Declared}
use Rattle.tidy_text.specs.Pieces.{slot_in}

-- an attribute of a number at an offset: its name, and its type
pub record AttrInside (book : Bytes) (words : List ℕ) (offset number : ℕ) : Type 0 where
  pub low : offset + types_behind + number < book_words
  pub room : book_words ≤ length words
  pub name : Declared book words offset number

-- so many of them, and so many labels
abbrev pub AttrsInside : Bytes → List ℕ → ℕ → ℕ → Type 0
AttrsInside book words offset count = (i : ℕ) → i < count → AttrInside book words offset i

abbrev pub LabelsInside : Bytes → List ℕ → ℕ → Type 0
LabelsInside book words count = (i : ℕ) → i < count → Declared book words label_names i

-- an attribute's name, and the entry of its slot if it is not empty
pub record SlotInside (book : Bytes) (words : List ℕ) (offset attribute slot : ℕ) : Type 0 where
  pub name : Declared book words offset attribute
  pub entry : 0 < slot → EntryReady book words (slot - 1)

-- the entries that an owner's word says, and the slots of all declared attributes among them
pub record EntriesInside (book : Bytes) (words : List ℕ) (offset declared owner : ℕ) : Type 0 where
  pub few : declared ≤ 32
  pub slotted : Slotted words owner
  pub each : (a : ℕ) → a < declared → SlotInside book words offset a (slot_in words owner a)

-- the label and the nodes of a relationship's word
pub record RelationshipInside (book : Bytes) (words : List ℕ) (w : ℕ) : Type 0 where
  pub label : Declared book words label_names (label_part w)
  pub from : Declared book words node_names (from_part w)
  pub to : Declared book words node_names (to_part w)

-- what stands before the attributes
abbrev pub HeadInside : Bytes → List ℕ → Owner → ℕ → Type 0
HeadInside book words Node i = Declared book words node_names i
HeadInside book words Relationship i = (relationships + i < length words) × RelationshipInside book words (rel_word words i)

-- the line of a node or a relationship, whose tables are these
pub record OwnerInside (book : Bytes) (words : List ℕ) (o : Owner) (t : OwnerTables) (i : ℕ) : Type 0 where
  pub low : t.entries + i < book_words
  pub room : book_words ≤ length words
  pub head : HeadInside book words o i
  pub entries : EntriesInside book words t.attributes t.declared (word_at words (t.entries + i))
