-- The pieces of the tidy text by their numbers, as the words of a loaded book say them.
use Rattle.std.specs.Prelude.{ℕ, List, map}
use Rattle.model.specs.Bytes.{Bytes, bytes_of}
use Rattle.model.specs.Lists.{joined}
use Rattle.model.specs.Values.{Entry}
use Rattle.model.specs.BookLines.{BookLine, label}
use Rattle.model.specs.Writing.{each_behind}
use Rattle.model.specs.Tidy.{entry_text, line_text, in_order, tidy_node, tidy_rel, attr_line_of, node_line_of, rel_line_of}
use Rattle.book_tables.specs.declared.BookCounts.{BookCounts}
use Rattle.book_tables.specs.declared.Owner.{Owner}
use Rattle.book_tables.specs.Owners.{declares}
use Rattle.book_tables.specs.Listed.{listed}
use Rattle.book_tables.specs.Layout.{vattr_names, eattr_names, label_names, node_names}
use Rattle.book_tables.specs.View.{word_at, name_in, name_of, names_at, attr_of, attrs_at, entries_in, node_of, rel_of}
use Rattle.book_lookup.specs.Entries.{entry_value}

-- the text of as many lines of a sequence
unfoldable pub lines_to : (ℕ → BookLine) → ℕ → Bytes
lines_to line n = joined line_text (listed line n)

-- the line that declares the attribute of a number
unfoldable pub attr_line : Owner → Bytes → List ℕ → ℕ → ℕ → BookLine
attr_line owner text words offset i = attr_line_of (declares owner) (attr_of text words offset i)

-- the line of a label
unfoldable pub label_line : Bytes → List ℕ → ℕ → BookLine
label_line text words i = label (name_of text words label_names i)

-- the lines of a node and of a relationship
unfoldable pub node_line : BookCounts → Bytes → List ℕ → ℕ → BookLine
node_line c text words i = node_line_of (tidy_node (attrs_at text words vattr_names c.vattrs) (node_of text words i))

unfoldable pub rel_line : BookCounts → Bytes → List ℕ → ℕ → BookLine
rel_line c text words i =
    rel_line_of (names_at text words node_names c.nodes) (tidy_rel (attrs_at text words eattr_names c.eattrs) (rel_of text words i))

-- an entry of a name and a value in the words
unfoldable pub entry_at : Bytes → List ℕ → ℕ → ℕ → Entry
entry_at text words name k = record { attr = name_in text (word_at words name); value = entry_value text words k }

-- an owner's entries in the order of the attributes declared, each behind a space
unfoldable pub entries_text : Bytes → List ℕ → ℕ → ℕ → ℕ → Bytes
entries_text text words offset declared owner =
    each_behind (bytes_of " ") (map entry_text (in_order (attrs_at text words offset declared) (entries_in text words offset owner)))
