-- The book: its declared names, its nodes, its relationships.
use Rattle.std.specs.Prelude.{ℕ, ◌+◌, List, [], map, length}
use Rattle.model.specs.Lists.{sum}
use Rattle.model.specs.Names.{Name}
use Rattle.model.specs.Values.{Kind, Entry}

-- a declared attribute name
pub record Attr : Type 0 where
  pub name : Name
  pub kind : Kind

-- a node; its number is its place among the nodes
pub record Node : Type 0 where
  pub name : Name
  pub entries : List Entry

-- a labelled relationship, by the numbers of its nodes
pub record Rel : Type 0 where
  pub label : Name
  pub from : ℕ
  pub to : ℕ
  pub entries : List Entry

-- all lists in the order of the book
pub record Book : Type 0 where
  pub vattrs : List Attr
  pub eattrs : List Attr
  pub labels : List Name
  pub nodes : List Node
  pub rels : List Rel

-- a book of no lines
unfoldable pub empty_book : Book
empty_book = record { vattrs = []; eattrs = []; labels = []; nodes = []; rels = [] }

-- the names of declared attributes, in order
unfoldable pub attr_names : List Attr → List Name
attr_names ds = map (λ d. d.name) ds

-- the names of the nodes, in order
unfoldable pub node_names : Book → List Name
node_names b = map (λ n. n.name) b.nodes

-- all attribute entries, of nodes and relationships together
unfoldable pub entry_count : Book → ℕ
entry_count b = sum (map (λ n. length n.entries) b.nodes) + sum (map (λ r. length r.entries) b.rels)
