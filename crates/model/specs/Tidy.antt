-- The tidy book: the text that is written for a book. Its lines go by kind (vattr, eattr, label, node, rel), each kind in its old order; attributes go in
-- the order in which they are declared; one space stands between the items of a list, and no other; a line feed ends each line.
use Rattle.std.specs.Prelude.{List, [], ◌∷◌, ◌++◌, map, length, get_or, ltb}
use Rattle.model.specs.Bytes.{Bytes, bytes_of}
use Rattle.model.specs.Choice.{pick, Maybe, nothing, just}
use Rattle.model.specs.Limits.{max_book_bytes}
use Rattle.model.specs.Lists.{joined}
use Rattle.model.specs.Names.{Name}
use Rattle.model.specs.Refusal.{Outcome, accepted, on_accept, refusal}
use Rattle.model.specs.Values.{Value, Kind, ints, strs, bools, Entry}
use Rattle.model.specs.Book.{Attr, Node, Rel, Book, node_names}
use Rattle.model.specs.BookLines.{label, BookLine, vattr, eattr, node, rel}
use Rattle.model.specs.ReadBook.{read_book}
use Rattle.model.specs.Graph.{value_in}
use Rattle.model.specs.Writing.{join_by, value_text}

-- a type as it is written
unfoldable pub kind_text : Kind → Bytes
kind_text ints = bytes_of "int"
kind_text strs = bytes_of "str"
kind_text bools = bytes_of "bool"

-- items as a list: one space between two, none inside the brackets
unfoldable pub list_text : List Bytes → Bytes
list_text items = bytes_of "(" ++ join_by (bytes_of " ") items ++ bytes_of ")"

-- (ATTR VALUE)
unfoldable pub entry_text : Entry → Bytes
entry_text e = list_text (e.attr ∷ value_text e.value ∷ [])

-- the items of a line
unfoldable pub item_texts : BookLine → List Bytes
item_texts (vattr n k) = bytes_of "vattr" ∷ n ∷ kind_text k ∷ []
item_texts (eattr n k) = bytes_of "eattr" ∷ n ∷ kind_text k ∷ []
item_texts (label n) = bytes_of "label" ∷ n ∷ []
item_texts (node n es) = bytes_of "node" ∷ n ∷ map entry_text es
item_texts (rel l x y es) = bytes_of "rel" ∷ l ∷ x ∷ y ∷ map entry_text es

-- a line with its line feed
unfoldable pub line_text : BookLine → Bytes
line_text l = list_text (item_texts l) ++ bytes_of "\n"

-- an attribute's entry, where it is present
unfoldable pub entry_if : Name → Maybe Value → List Entry
entry_if a nothing = []
entry_if a (just v) = record { attr = a; value = v } ∷ []

-- entries in the order in which their attributes are declared
unfoldable pub in_order : List Attr → List Entry → List Entry
in_order ds es = joined (λ d. entry_if d.name (value_in es d.name)) ds

-- a node and a relationship with their entries in that order
unfoldable pub tidy_node : List Attr → Node → Node
tidy_node ds n = record { name = n.name; entries = in_order ds n.entries }

unfoldable pub tidy_rel : List Attr → Rel → Rel
tidy_rel ds r = record { label = r.label; from = r.from; to = r.to; entries = in_order ds r.entries }

-- a book whose nodes and relationships all are so
unfoldable pub tidied : Book → Book
tidied b = record {
  vattrs = b.vattrs;
  eattrs = b.eattrs;
  labels = b.labels;
  nodes = map (tidy_node b.vattrs) b.nodes;
  rels = map (tidy_rel b.eattrs) b.rels;
}

-- the line that declares an attribute, by its kind of line; the line of a node; the line of a relationship, by the names of all nodes
unfoldable pub attr_line_of : (Name → Kind → BookLine) → Attr → BookLine
attr_line_of make d = make d.name d.kind

unfoldable pub node_line_of : Node → BookLine
node_line_of n = node n.name n.entries

unfoldable pub rel_line_of : List Name → Rel → BookLine
rel_line_of names r = rel r.label (get_or names r.from []) (get_or names r.to []) r.entries

-- the lines of a book by kind, each kind in its order
unfoldable pub lines_by_kind : Book → List BookLine
lines_by_kind b =
    map (attr_line_of vattr) b.vattrs
    ++ map (attr_line_of eattr) b.eattrs
    ++ map label b.labels
    ++ map node_line_of b.nodes
    ++ map (rel_line_of (node_names b)) b.rels

-- the tidy text of a book
unfoldable pub tidy_text : Book → Bytes
tidy_text b = joined line_text (lines_by_kind (tidied b))

-- the tidy book: first the book's own refusals, then 14 if it is longer than a book may be
unfoldable pub tidy_book : Bytes → Outcome Bytes
tidy_book s = on_accept (read_book s) (λ b. let t = tidy_text b in pick (ltb max_book_bytes (length t)) (refusal 14 1 0) (accepted t))
