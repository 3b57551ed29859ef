-- What is put of a pattern lies inside its arrays, the query's text and the book's tables.
use Rattle.std.specs.Prelude.{ℕ, ◌≤◌, ◌<◌, List, length, get_or}
use Rattle.model.specs.Bytes.{Bytes}
use Rattle.model.specs.PlainData.{no_part, no_edge, no_clause, ValueWithin}
use Rattle.model.specs.declared.Part.{Part}
use Rattle.model.specs.declared.Edge.{Edge}
use Rattle.model.specs.declared.Requirement.{Requirement}
use Rattle.model.specs.declared.Condition.{Condition}
use Rattle.model.specs.declared.Condition.TheVariants.{Excluded, OfVertex, OfEdge}
use Rattle.model.specs.declared.Clause.{Clause}
use Rattle.model.specs.declared.Pattern.{Pattern}
use Rattle.text.specs.Parts.{HasPart}
use Rattle.book_tables.specs.Layout.{vattr_names, eattr_names, label_names}
use Rattle.putting.specs.Putting.{Declared}

-- a vertex, an edge by number: it is one of its array, and its name is a part of the query
abbrev pub VertexInside : Bytes → List Part → ℕ → Type 0
VertexInside query vertices v = (v < 8) × HasPart query (get_or vertices v no_part)

abbrev pub VariableInside : Bytes → List Edge → ℕ → Type 0
VariableInside query edges e = (e < 16) × HasPart query (get_or edges e no_edge).name

-- an edge's ends, its name and its label
pub record EdgeInside (book : Bytes) (words : List ℕ) (query : Bytes) (vertices : List Part) (e : Edge) : Type 0 where
  pub from : VertexInside query vertices e.from
  pub to : VertexInside query vertices e.to
  pub name : HasPart query e.name
  pub label : Declared book words label_names e.label

-- a requirement's attribute, one of those declared at an offset, and its value
pub record RequirementInside (book : Bytes) (words : List ℕ) (query : Bytes) (offset : ℕ) (r : Requirement) : Type 0 where
  pub attribute : Declared book words offset r.attribute
  pub value : ValueWithin (length query) r.value

-- a condition's vertices or edge, and its requirement
abbrev pub ConditionInside : Bytes → List ℕ → Bytes → List Part → List Edge → Condition → Type 0
ConditionInside book words query vertices edges (Excluded u v) = VertexInside query vertices u × VertexInside query vertices v
ConditionInside book words query vertices edges (OfVertex v r) = VertexInside query vertices v × RequirementInside book words query vattr_names r
ConditionInside book words query vertices edges (OfEdge e r) = VariableInside query edges e × RequirementInside book words query eattr_names r

-- so many vertices, edges, clauses or Return names are in their array, and each lies inside
pub record VerticesInside (query : Bytes) (vertices : List Part) (n : ℕ) : Type 0 where
  pub few : n ≤ 8
  pub each : (i : ℕ) → i < n → HasPart query (get_or vertices i no_part)

pub record EdgesInside (book : Bytes) (words : List ℕ) (query : Bytes) (vertices : List Part) (edges : List Edge) (n : ℕ) : Type 0 where
  pub few : n ≤ 16
  pub each : (i : ℕ) → i < n → EdgeInside book words query vertices (get_or edges i no_edge)

pub record ClausesInside (book : Bytes) (words : List ℕ) (query : Bytes) (vertices : List Part) (edges : List Edge) (clauses : List Clause) (n : ℕ)
    : Type 0 where
  pub few : n ≤ 32
  pub each : (i : ℕ) → i < n → ConditionInside book words query vertices edges (get_or clauses i no_clause).condition

pub record ReturnsInside (query : Bytes) (vertices : List Part) (returns : List ℕ) (n : ℕ) : Type 0 where
  pub few : n ≤ 4
  pub each : (i : ℕ) → i < n → VertexInside query vertices (get_or returns i 0)

-- all of a pattern
pub record PatternInside (book : Bytes) (words : List ℕ) (query : Bytes) (p : Pattern) : Type 0 where
  pub vertices : VerticesInside query p.vertices p.counts.vertices
  pub edges : EdgesInside book words query p.vertices p.edges p.counts.edges
  pub clauses : ClausesInside book words query p.vertices p.edges p.clauses p.counts.clauses
  pub returns : ReturnsInside query p.vertices p.returns p.counts.returns
