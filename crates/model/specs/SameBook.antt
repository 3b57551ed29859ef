-- When two books say the same, in whatever order the attributes of a node or a relationship stand.
use Rattle.std.specs.Prelude.{◌≡◌, List, [], ◌∷◌}
use Rattle.model.specs.Names.{Name}
use Rattle.model.specs.Values.{Entry}
use Rattle.model.specs.Book.{Node, Rel, Book}
use Rattle.model.specs.Graph.{value_in}

-- two lists go together, element by element
abbrev pub Together : {A : Type 0} → (A → A → Type 0) → List A → List A → Type 0
Together P [] [] = Unit {0}
Together P [] (y ∷ ys) = ⊥
Together P (x ∷ xs) [] = ⊥
Together P (x ∷ xs) (y ∷ ys) = P x y × Together P xs ys

-- the same attributes with the same values, in whatever order
abbrev pub SameEntries : List Entry → List Entry → Type 0
SameEntries es fs = (a : Name) → value_in es a ≡ value_in fs a

-- two nodes, and two relationships, that say the same
pub record SameNode (m n : Node) : Type 0 where
  pub name : m.name ≡ n.name
  pub entries : SameEntries m.entries n.entries

pub record SameRel (r t : Rel) : Type 0 where
  pub label : r.label ≡ t.label
  pub from : r.from ≡ t.from
  pub to : r.to ≡ t.to
  pub entries : SameEntries r.entries t.entries

-- two books that say the same: declarations, nodes and relationships in the same orders, each with the same attributes and values
pub record SameBook (b c : Book) : Type 0 where
  pub vattrs : b.vattrs ≡ c.vattrs
  pub eattrs : b.eattrs ≡ c.eattrs
  pub labels : b.labels ≡ c.labels
  pub nodes : Together SameNode b.nodes c.nodes
  pub rels : Together SameRel b.rels c.rels
