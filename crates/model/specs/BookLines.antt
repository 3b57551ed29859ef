-- The lines of a book, from items.
use Rattle.std.specs.Prelude.{List}
use Rattle.model.specs.Bytes.{bytes_of, same}
use Rattle.model.specs.Choice.{pick, Maybe, nothing, just, and_then}
use Rattle.model.specs.Lists.{each}
use Rattle.model.specs.Names.{Name}
use Rattle.model.specs.Items.{Item}
use Rattle.model.specs.Values.{Kind, Entry}
use Rattle.model.specs.Forms.{as_word, as_name, kind_of, first, at_end, entry_of}

-- the lines of a book
pub data BookLine : Type 0 where
  vattr : Name → Kind → BookLine
  eattr : Name → Kind → BookLine
  label : Name → BookLine
  node : Name → List Entry → BookLine
  rel : Name → Name → Name → List Entry → BookLine

-- NAME TYPE
unfoldable pub attr_line : (Name → Kind → BookLine) → List Item → Maybe BookLine
attr_line make is = first as_name is (λ n is. first (λ i. and_then (as_word i) kind_of) is (λ k is. at_end is (make n k)))

-- NAME
unfoldable pub label_line : List Item → Maybe BookLine
label_line is = first as_name is (λ n is. at_end is (label n))

-- NAME (ATTR VALUE)...
unfoldable pub node_line : List Item → Maybe BookLine
node_line is = first as_name is (λ n is. and_then (each entry_of is) (λ es. just (node n es)))

-- LABEL FROM TO (ATTR VALUE)...
unfoldable pub rel_line : List Item → Maybe BookLine
rel_line is =
    first as_name is (λ l is.
    first as_name is (λ x is.
    first as_name is (λ y is.
    and_then (each entry_of is) (λ es. just (rel l x y es)))))

-- a line of the book by its first word
unfoldable pub book_line : List Item → Maybe BookLine
book_line is =
    first as_word is (λ w is.
    pick (same w (bytes_of "vattr")) (attr_line vattr is)
    (pick (same w (bytes_of "eattr")) (attr_line eattr is)
    (pick (same w (bytes_of "label")) (label_line is)
    (pick (same w (bytes_of "node")) (node_line is)
    (pick (same w (bytes_of "rel")) (rel_line is) nothing)))))
