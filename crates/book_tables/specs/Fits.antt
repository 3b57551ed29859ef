-- What is true of the tables' words whenever they hold a book: everything counted stands inside its table, and points inside the text; and the chains are
-- right.
use Rattle.std.specs.Prelude.{ℕ, ◌+◌, ◌*◌, ◌/◌, ◌%◌, ◌≤◌, ◌<◌, ◌≡◌, List, length}
use Rattle.model.specs.Bytes.{Bytes}
use Rattle.model.specs.Book.{Book, entry_count}
use Rattle.chains.specs.Chains.{Chained}
use Rattle.book_tables.specs.declared.BookCounts.{BookCounts}
use Rattle.book_tables.specs.Layout.{vattr_names, eattr_names, label_names, node_names, node_entries, relationship_entries, entries, node_heads}
use Rattle.book_tables.specs.Layout.{node_links, from_heads, from_links, keys, book_words}
use Rattle.book_tables.specs.View.{word_at, start_part, count_part, name_of, entry_head, label_part, from_part, to_part, rel_word, node_slot, rel_from, book_at}

-- a part of the text, by its start and length, ends inside it
abbrev pub Inside : Bytes → ℕ → ℕ → Type 0
Inside text start size = start + size ≤ length text

-- the names counted at an offset stand in the text, and no two are the same
pub record NamesFit (text : Bytes) (words : List ℕ) (offset count : ℕ) : Type 0 where
  pub inside : (i : ℕ) → i < count → Inside text (word_at words (offset + i) / 32) (word_at words (offset + i) % 32)
  pub differ : (i j : ℕ) → i < count → j < count → name_of text words offset i ≡ name_of text words offset j → i ≡ j

-- an entry's attribute is one of those declared, and a text value stands in the text
pub record EntryFits (text : Bytes) (words : List ℕ) (declared k : ℕ) : Type 0 where
  pub attribute : entry_head words k / 4 < declared
  pub inside : entry_head words k % 4 ≡ 1 → Inside text (word_at words (entries + 3 * k + 1)) (word_at words (entries + 3 * k + 2))

-- an owner's entries are counted, and fit
pub record EntriesFit (text : Bytes) (words : List ℕ) (declared all w : ℕ) : Type 0 where
  pub counted : start_part w + count_part w ≤ all
  pub each : (i : ℕ) → i < count_part w → EntryFits text words declared (start_part w + i)

-- a relationship's label and nodes are counted
pub record RelFits (labels nodes w : ℕ) : Type 0 where
  pub label : label_part w < labels
  pub from : from_part w < nodes
  pub to : to_part w < nodes

-- no count passes its limit
pub record Within (c : BookCounts) : Type 0 where
  pub vattrs : c.vattrs ≤ 32
  pub eattrs : c.eattrs ≤ 32
  pub labels : c.labels ≤ 32
  pub nodes : c.nodes ≤ 256
  pub relationships : c.relationships ≤ 1024
  pub entries : c.entries ≤ 2048

pub record Fits (text : Bytes) (words : List ℕ) (c : BookCounts) : Type 0 where
  pub room : book_words ≤ length words
  pub within : Within c
  pub vattrs : NamesFit text words vattr_names c.vattrs
  pub eattrs : NamesFit text words eattr_names c.eattrs
  pub labels : NamesFit text words label_names c.labels
  pub nodes : NamesFit text words node_names c.nodes
  pub of_nodes : (i : ℕ) → i < c.nodes → EntriesFit text words c.vattrs c.entries (word_at words (node_entries + i))
  pub rels : (i : ℕ) → i < c.relationships → RelFits c.labels c.nodes (rel_word words i)
  pub of_rels : (i : ℕ) → i < c.relationships → EntriesFit text words c.eattrs c.entries (word_at words (relationship_entries + i))
  pub counted : entry_count (book_at text words c) ≡ c.entries
  pub node_chains : Chained words node_heads node_links keys (node_slot text words) c.nodes
  pub rel_chains : Chained words from_heads from_links keys (rel_from words) c.relationships

-- the words hold a book
pub record Holds (text : Bytes) (words : List ℕ) (c : BookCounts) (b : Book) : Type 0 where
  pub fits : Fits text words c
  pub is : book_at text words c ≡ b
