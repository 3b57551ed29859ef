-- The view: what the words of the tables say of the book, its names and texts being parts of the book's text.
use Rattle.std.specs.Prelude.{ℕ, ◌+◌, ◌*◌, ◌/◌, ◌%◌, ◌^◌, List, get_or, eqb}
use Rattle.model.specs.Bytes.{Bytes}
use Rattle.model.specs.Choice.{pick}
use Rattle.model.specs.Values.{Value, int, str, bool, Kind, ints, strs, bools, Entry}
use Rattle.model.specs.Book.{Attr, Node, Rel, Book}
use Rattle.model.specs.Answers.{part_of}
use Rattle.chains.specs.Slots.{slot_of}
use Rattle.book_tables.specs.declared.BookCounts.{BookCounts}
use Rattle.book_tables.specs.Listed.{listed}
use Rattle.book_tables.specs.Layout.{vattr_names, eattr_names, types_behind, label_names, node_names, node_entries, relationships, relationship_entries, entries}

-- the word at a place
abbrev pub word_at : List ℕ → ℕ → ℕ
word_at words i = get_or words i 0

-- a name is one word: start * 32 + length
unfoldable pub name_in : Bytes → ℕ → Bytes
name_in text w = part_of text (w / 32) (w % 32)

-- the name of a number in the table at an offset
unfoldable pub name_of : Bytes → List ℕ → ℕ → ℕ → Bytes
name_of text words offset i = name_in text (word_at words (offset + i))

-- the slot of the name that a word says, and of a node's
abbrev pub slot_in : Bytes → ℕ → ℕ
slot_in text w = slot_of (name_in text w)

abbrev pub node_slot : Bytes → List ℕ → ℕ → ℕ
node_slot text words i = slot_of (name_of text words node_names i)

-- as many names as are counted
unfoldable pub names_at : Bytes → List ℕ → ℕ → ℕ → List Bytes
names_at text words offset count = listed (name_of text words offset) count

-- a type: 0 int, 1 str, 2 bool
unfoldable pub kind_in : ℕ → Kind
kind_in t = pick (eqb t 0) ints (pick (eqb t 1) strs bools)

-- the declared attribute of a number, and as many as are counted
unfoldable pub attr_of : Bytes → List ℕ → ℕ → ℕ → Attr
attr_of text words offset i = record { name = name_of text words offset i; kind = kind_in (word_at words (offset + types_behind + i)) }

unfoldable pub attrs_at : Bytes → List ℕ → ℕ → ℕ → List Attr
attrs_at text words offset count = listed (attr_of text words offset) count

-- a value by its type and two words. int: the halves of z + 2^63; str: start and length; bool: the second word is 1 for true
unfoldable pub value_in : Bytes → ℕ → ℕ → ℕ → Value
value_in text t x y = pick (eqb t 0) (int (x * 2 ^ 32 + y)) (pick (eqb t 1) (str (part_of text x y)) (bool (eqb y 1)))

-- the first word of entry k: attribute * 4 + type
abbrev pub entry_head : List ℕ → ℕ → ℕ
entry_head words k = word_at words (entries + 3 * k)

-- entry k, its attribute being numbered among those declared at an offset
unfoldable pub entry_of : Bytes → List ℕ → ℕ → ℕ → Entry
entry_of text words offset k = record {
  attr = name_of text words offset (entry_head words k / 4);
  value = value_in text (entry_head words k % 4) (word_at words (entries + 3 * k + 1)) (word_at words (entries + 3 * k + 2));
}

-- as many entries as are counted, from one on
unfoldable pub entries_from : Bytes → List ℕ → ℕ → ℕ → ℕ → List Entry
entries_from text words offset start count = listed (λ i. entry_of text words offset (start + i)) count

-- an owner's entries are one word: start * 4096 + count
abbrev pub start_part : ℕ → ℕ
start_part w = w / 4096

abbrev pub count_part : ℕ → ℕ
count_part w = w % 4096

-- the entries that such a word says
unfoldable pub entries_in : Bytes → List ℕ → ℕ → ℕ → List Entry
entries_in text words offset w = entries_from text words offset (start_part w) (count_part w)

-- the node of a number
unfoldable pub node_of : Bytes → List ℕ → ℕ → Node
node_of text words i = record {
  name = name_of text words node_names i;
  entries = entries_in text words vattr_names (word_at words (node_entries + i));
}

-- a relationship is one word: label * 65536 + from * 256 + to
abbrev pub label_part : ℕ → ℕ
label_part w = w / 65536

abbrev pub from_part : ℕ → ℕ
from_part w = w / 256 % 256

abbrev pub to_part : ℕ → ℕ
to_part w = w % 256

-- the word of the relationship of a number
abbrev pub rel_word : List ℕ → ℕ → ℕ
rel_word words i = word_at words (relationships + i)

-- the node that the relationship of a number leaves
abbrev pub rel_from : List ℕ → ℕ → ℕ
rel_from words i = from_part (rel_word words i)

-- the relationship of a number
unfoldable pub rel_of : Bytes → List ℕ → ℕ → Rel
rel_of text words i = record {
  label = name_of text words label_names (label_part (rel_word words i));
  from = from_part (rel_word words i);
  to = to_part (rel_word words i);
  entries = entries_in text words eattr_names (word_at words (relationship_entries + i));
}

-- the book that the words hold
unfoldable pub book_at : Bytes → List ℕ → BookCounts → Book
book_at text words c = record {
  vattrs = attrs_at text words vattr_names c.vattrs;
  eattrs = attrs_at text words eattr_names c.eattrs;
  labels = names_at text words label_names c.labels;
  nodes = listed (node_of text words) c.nodes;
  rels = listed (rel_of text words) c.relationships;
}
