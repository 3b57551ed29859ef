-- The tidy text of a loaded book, piece by piece in the order in which it is put.
use Rattle.std.specs.Prelude.{ℕ, zero, suc, ◌+◌, ◌-◌, List, [], ◌++◌, eqb}
use Rattle.model.specs.Bytes.{Bytes, bytes_of}
use Rattle.model.specs.Choice.{pick}
use Rattle.model.specs.Tidy.{kind_text}
use Rattle.model.specs.Writing.{value_text}
use Rattle.book_tables.specs.declared.BookCounts.{BookCounts}
use Rattle.book_tables.specs.declared.Owner.{Owner}
use Rattle.book_tables.specs.declared.Owner.TheVariants.{Node, Relationship}
use Rattle.book_tables.specs.declared.OwnerTables.{OwnerTables}
use Rattle.book_tables.specs.Layout.{vattr_names, eattr_names, types_behind, label_names, node_names}
use Rattle.book_tables.specs.Owners.{tables_of}
use Rattle.book_tables.specs.View.{word_at, name_of, kind_in, start_part, count_part, label_part, from_part, to_part, rel_word}
use Rattle.book_lookup.specs.Entries.{seek, entry_value}
use Rattle.entry_order.specs.Slots.{slot_of}

-- the texts of 0 .. n - 1, one behind another
unfoldable pub texts_below : (ℕ → Bytes) → ℕ → Bytes
texts_below f zero = []
texts_below f (suc n) = texts_below f n ++ f n

-- a type behind a space, and the end of its line
unfoldable pub type_piece : ℕ → Bytes
type_piece t = bytes_of " " ++ kind_text (kind_in t) ++ bytes_of ")\n"

-- (vattr NAME TYPE) or (eattr NAME TYPE), by what stands before the name, for the attribute of a number at an offset; and those of the first n
unfoldable pub attr_piece : Bytes → List ℕ → Bytes → ℕ → ℕ → Bytes
attr_piece book words front offset i = front ++ name_of book words offset i ++ type_piece (word_at words (offset + types_behind + i))

unfoldable pub attrs_text : Bytes → List ℕ → Bytes → ℕ → ℕ → Bytes
attrs_text book words front offset n = texts_below (attr_piece book words front offset) n

-- (label NAME), and those of the first n
unfoldable pub label_piece : Bytes → List ℕ → ℕ → Bytes
label_piece book words i = bytes_of "(label " ++ name_of book words label_names i ++ bytes_of ")\n"

unfoldable pub labels_text : Bytes → List ℕ → ℕ → Bytes
labels_text book words n = texts_below (label_piece book words) n

-- (ATTR VALUE) behind a space: the attribute by its number at an offset, the value by the number of its entry
unfoldable pub entry_piece : Bytes → List ℕ → ℕ → ℕ → ℕ → Bytes
entry_piece book words offset a k = bytes_of " (" ++ name_of book words offset a ++ bytes_of " " ++ value_text (entry_value book words k) ++ bytes_of ")"

-- the same by an attribute's slot; nothing if it is empty
unfoldable pub slot_piece : Bytes → List ℕ → ℕ → ℕ → ℕ → Bytes
slot_piece book words offset a slot = pick (eqb slot 0) [] (entry_piece book words offset a (slot - 1))

-- the slot of an attribute among the entries that an owner's word says
unfoldable pub slot_in : List ℕ → ℕ → ℕ → ℕ
slot_in words owner a = slot_of (seek words a (start_part owner) (count_part owner))

-- those entries, by the first n attributes
unfoldable pub entries_text : Bytes → List ℕ → ℕ → ℕ → ℕ → Bytes
entries_text book words offset owner n = texts_below (λ a. slot_piece book words offset a (slot_in words owner a)) n

-- (rel LABEL FROM TO by a relationship's word
unfoldable pub relationship_piece : Bytes → List ℕ → ℕ → Bytes
relationship_piece book words w =
    bytes_of "(rel " ++ name_of book words label_names (label_part w) ++ bytes_of " " ++ name_of book words node_names (from_part w)
    ++ bytes_of " " ++ name_of book words node_names (to_part w)

-- what stands before the attributes
unfoldable pub head_piece : Bytes → List ℕ → Owner → ℕ → Bytes
head_piece book words Node i = bytes_of "(node " ++ name_of book words node_names i
head_piece book words Relationship i = relationship_piece book words (rel_word words i)

-- the line of a node or a relationship, whose tables are these; and those of the first n
unfoldable pub owner_piece : Bytes → List ℕ → Owner → OwnerTables → ℕ → Bytes
owner_piece book words o t i =
    head_piece book words o i ++ entries_text book words t.attributes (word_at words (t.entries + i)) t.declared ++ bytes_of ")\n"

unfoldable pub owners_text : Bytes → List ℕ → Owner → OwnerTables → ℕ → Bytes
owners_text book words o t n = texts_below (owner_piece book words o t) n

-- the whole text
unfoldable pub book_text : Bytes → List ℕ → BookCounts → Bytes
book_text book words c =
    attrs_text book words (bytes_of "(vattr ") vattr_names c.vattrs
    ++ attrs_text book words (bytes_of "(eattr ") eattr_names c.eattrs
    ++ labels_text book words c.labels
    ++ owners_text book words Node (tables_of Node c) c.nodes
    ++ owners_text book words Relationship (tables_of Relationship c) c.relationships
