-- Nodes and relationships, the owners of attributes: the tables of either, and what books, lines and counts say of it.
use Rattle.std.specs.Prelude.{ℕ, ◌+◌, ◌≤◌, ◌≡◌, List}
use Rattle.model.specs.Bytes.{Bytes}
use Rattle.model.specs.Values.{Kind}
use Rattle.model.specs.Book.{Attr, Book}
use Rattle.model.specs.BookLines.{BookLine, vattr, eattr}
use Rattle.book_tables.specs.declared.BookCounts.{BookCounts}
use Rattle.book_tables.specs.declared.Owner.{Owner}
use Rattle.book_tables.specs.declared.Owner.TheVariants.{Node, Relationship}
use Rattle.book_tables.specs.declared.OwnerTables.{OwnerTables}
use Rattle.book_tables.specs.Layout.{vattr_names, eattr_names, node_names, node_entries, relationships, relationship_entries, node_heads, node_links}
use Rattle.book_tables.specs.Layout.{from_heads, from_links}
use Rattle.book_tables.specs.Fits.{NamesFit}

-- where its tables stand, and how much they hold
abbrev pub tables_of : Owner → BookCounts → OwnerTables
tables_of Node c =
    record { attributes = vattr_names; declared = c.vattrs; owners = node_names; entries = node_entries; heads = node_heads; links = node_links; count = c.nodes }
tables_of Relationship c =
    record {
      attributes = eattr_names;
      declared = c.eattrs;
      owners = relationships;
      entries = relationship_entries;
      heads = from_heads;
      links = from_links;
      count = c.relationships;
    }

-- how many it may be
abbrev pub limit_of : Owner → ℕ
limit_of Node = 256
limit_of Relationship = 1024

-- they are its tables, which all stand low enough
pub record OwnTables (o : Owner) (c : BookCounts) (t : OwnerTables) : Type 0 where
  pub is : t ≡ tables_of o c
  pub declared : t.declared ≡ (tables_of o c).declared
  pub count : t.count ≡ (tables_of o c).count
  pub low_attributes : t.attributes ≤ eattr_names
  pub low_owners : t.owners ≤ relationships
  pub low_entries : t.entries ≤ relationship_entries
  pub low_heads : t.heads ≤ from_heads
  pub low_links : t.links ≤ from_links

-- the attributes that a book declares for it
abbrev pub attrs_of : Owner → Book → List Attr
attrs_of Node b = b.vattrs
attrs_of Relationship b = b.eattrs

-- the line that declares one, and the counts with it
abbrev pub declares : Owner → Bytes → Kind → BookLine
declares Node n k = vattr n k
declares Relationship n k = eattr n k

abbrev pub more_attrs : Owner → BookCounts → BookCounts
more_attrs Node c = record {
  vattrs = c.vattrs + 1;
  eattrs = c.eattrs;
  labels = c.labels;
  nodes = c.nodes;
  relationships = c.relationships;
  entries =
      c.entries;
}
more_attrs Relationship c = record {
  vattrs = c.vattrs;
  eattrs = c.eattrs + 1;
  labels = c.labels;
  nodes = c.nodes;
  relationships = c.relationships;
  entries = c.entries;
}

-- the counts with an owner more, and its entries
abbrev pub more_owners : Owner → BookCounts → ℕ → BookCounts
more_owners Node c n = record {
  vattrs = c.vattrs;
  eattrs = c.eattrs;
  labels = c.labels;
  nodes = c.nodes
      + 1;
  relationships = c.relationships;
  entries = c.entries + n;
}
more_owners Relationship c n = record {
  vattrs = c.vattrs;
  eattrs = c.eattrs;
  labels = c.labels;
  nodes = c.nodes;
  relationships = c.relationships
      + 1;
  entries = c.entries + n;
}

-- the attributes declared at an offset
pub record AttrTable (text : Bytes) (words : List ℕ) (offset declared : ℕ) : Type 0 where
  pub low : offset ≤ 64
  pub few : declared ≤ 32
  pub names : NamesFit text words offset declared
