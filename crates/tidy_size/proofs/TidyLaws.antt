-- The tidy text of a loaded book is the lines of its tables, one table after another.
use Prim.Native.Nat.{ℕ, ◌+◌}
use mathlib.Core.Path.{◌≡◌, ap, ◌∙◌}
use mathlib.Core.List.{List, ◌++◌, map}
use native.Mathlib.Omega.{arith}
use lib.ListN.{length, length-append}
use Rattle.model.specs.Bytes.{Bytes}
use Rattle.model.specs.Lists.{joined}
use Rattle.model.specs.Book as book
use Rattle.model.specs.BookLines.{BookLine, vattr, eattr, label}
use Rattle.model.specs.Tidy.{line_text, tidy_node, tidy_rel, tidied, attr_line_of, node_line_of, rel_line_of, lines_by_kind, tidy_text}
use Rattle.model.proofs.Places.{joined_append}
use Rattle.book_tables.specs.declared.BookCounts.{BookCounts}
use Rattle.book_tables.specs.declared.Owner.TheVariants.{Node, Relationship}
use Rattle.book_tables.specs.Listed.{listed}
use Rattle.book_tables.specs.Layout.{vattr_names, eattr_names, label_names, node_names}
use Rattle.book_tables.specs.View.{name_of, names_at, attr_of, attrs_at, node_of, rel_of, book_at}
use Rattle.book_tables.proofs.ListedLaws.{map_listed}
use Rattle.tidy_size.specs.Pieces.{lines_to, attr_line, label_line, node_line, rel_line}

-- the length of five lists of lines, one after another
five_lengths : (a b c d e : List BookLine)
    → length (joined line_text (a ++ b ++ c ++ d ++ e))
    ≡ length (joined line_text a) + length (joined line_text b) + length (joined line_text c) + length (joined line_text d) + length (joined line_text e)
five_lengths a b c d e = simp (joined_append, length-append) (omega arith)

-- the lines of a table that two functions make of its elements
twice_mapped : {A B C : Type 0} (g : B → C) (f : A → B) (element : ℕ → A) (n : ℕ) → map g (map f (listed element n)) ≡ listed (λ i. g (f (element i))) n
twice_mapped g f element n = ap (map g) (map_listed f element n) ∙ map_listed g (λ i. f (element i)) n

module _ (text : Bytes) (words : List ℕ) (c : BookCounts) where
  -- the names of the nodes are the same
  tidy_names : book.node_names (tidied (book_at text words c)) ≡ names_at text words node_names c.nodes
  unfolding book.node_names tidied book_at names_at tidy_node node_of
  tidy_names = twice_mapped (λ n. n.name) (tidy_node (attrs_at text words vattr_names c.vattrs)) (node_of text words) c.nodes

  -- the lines of each table by their numbers
  vattr_lines : map (attr_line_of vattr) (tidied (book_at text words c)).vattrs ≡ listed (attr_line Node text words vattr_names) c.vattrs
  unfolding tidied book_at attrs_at attr_line attr_line_of
  vattr_lines = map_listed (attr_line_of vattr) (attr_of text words vattr_names) c.vattrs

  eattr_lines : map (attr_line_of eattr) (tidied (book_at text words c)).eattrs ≡ listed (attr_line Relationship text words eattr_names) c.eattrs
  unfolding tidied book_at attrs_at attr_line attr_line_of
  eattr_lines = map_listed (attr_line_of eattr) (attr_of text words eattr_names) c.eattrs

  label_lines : map label (tidied (book_at text words c)).labels ≡ listed (label_line text words) c.labels
  unfolding tidied book_at names_at label_line
  label_lines = map_listed label (name_of text words label_names) c.labels

  node_lines : map node_line_of (tidied (book_at text words c)).nodes ≡ listed (node_line c text words) c.nodes
  unfolding tidied book_at node_line
  node_lines = twice_mapped node_line_of (tidy_node (attrs_at text words vattr_names c.vattrs)) (node_of text words) c.nodes

  named_lines : map (rel_line_of (names_at text words node_names c.nodes)) (tidied (book_at text words c)).rels
      ≡ listed (rel_line c text words) c.relationships
  unfolding tidied book_at rel_line
  named_lines = twice_mapped (rel_line_of (names_at text words node_names c.nodes)) (tidy_rel (attrs_at text words eattr_names c.eattrs))
      (rel_of text words) c.relationships

  rel_lines : map (rel_line_of (book.node_names (tidied (book_at text words c)))) (tidied (book_at text words c)).rels
      ≡ listed (rel_line c text words) c.relationships
  rel_lines = ap (λ names. map (rel_line_of names) (tidied (book_at text words c)).rels) tidy_names ∙ named_lines

  -- the length of the tidy text
  pub tidy_length : length (tidy_text (book_at text words c))
      ≡ length (lines_to (attr_line Node text words vattr_names) c.vattrs) + length (lines_to (attr_line Relationship text words eattr_names) c.eattrs)
      + length (lines_to (label_line text words) c.labels) + length (lines_to (node_line c text words) c.nodes)
      + length (lines_to (rel_line c text words) c.relationships)
  unfolding tidy_text lines_by_kind lines_to
  tidy_length = rw (vattr_lines, eattr_lines, label_lines, node_lines, rel_lines)
      (five_lengths (listed (attr_line Node text words vattr_names) c.vattrs) (listed (attr_line Relationship text words eattr_names) c.eattrs)
      (listed (label_line text words) c.labels) (listed (node_line c text words) c.nodes) (listed (rel_line c text words) c.relationships))
