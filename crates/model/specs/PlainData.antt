-- Plain data of answers: what stands past the end of an array, what fits its words, what lies within its text.
use Rattle.std.specs.Prelude.{ℕ, ◌+◌, ◌<◌, ◌≤◌, get_or, replicate}
use Rattle.model.specs.declared.Value.{Value}
use Rattle.model.specs.declared.Value.TheVariants.{Number, Text, Truth}
use Rattle.model.specs.declared.Part.{Part}
use Rattle.model.specs.declared.Edge.{Edge}
use Rattle.model.specs.declared.Requirement.{Requirement}
use Rattle.model.specs.declared.Condition.{Condition}
use Rattle.model.specs.declared.Condition.TheVariants.{Excluded, OfVertex, OfEdge}
use Rattle.model.specs.declared.Clause.{Clause}
use Rattle.model.specs.declared.Pattern.{Pattern}

-- what stands past the end of an array
abbrev pub no_part : Part
no_part = record { start = 0; length = 0 }

abbrev pub no_edge : Edge
no_edge = record { name = no_part; label = 0; from = 0; to = 0 }

abbrev pub no_clause : Clause
no_clause = record { condition = Excluded 0 0 }

-- the empty pattern
abbrev pub no_pattern : Pattern
no_pattern = record {
  vertices = replicate 8 no_part;
  edges = replicate 16 no_edge;
  clauses = replicate 32 no_clause;
  returns = replicate 4 0;
  counts = record { vertices = 0; edges = 0; clauses = 0; returns = 0 };
}

-- a name fits a word: it stands below 65,536, and has fewer than 32 bytes; base is where its text begins
abbrev pub NameFits : ℕ → Part → Type 0
NameFits base n = (base + n.start < 65536) × (n.length < 32)

-- a value fits its words
abbrev pub ValueFits : ℕ → Value → Type 0
ValueFits base (Number n) = Unit {0}
ValueFits base (Text start length) = (base + start < 65536) × (length < 65536)
ValueFits base (Truth t) = Unit {0}

-- an edge fits its words, in a pattern of so many vertices
pub record EdgeFits (base vertices : ℕ) (e : Edge) : Type 0 where
  pub name : NameFits base e.name
  pub label : e.label < 32
  pub from : e.from < vertices
  pub to : e.to < vertices

-- a requirement fits its words
pub record RequirementFits (base : ℕ) (x : Requirement) : Type 0 where
  pub attribute : x.attribute < 32
  pub value : ValueFits base x.value

-- a condition fits its words, in a pattern of so many vertices and edges
abbrev pub ConditionFits : ℕ → ℕ → ℕ → Condition → Type 0
ConditionFits base vertices edges (Excluded u v) = (u < vertices) × (v < vertices)
ConditionFits base vertices edges (OfVertex v x) = (v < vertices) × RequirementFits base x
ConditionFits base vertices edges (OfEdge e x) = (e < edges) × RequirementFits base x

-- a pattern fits the words that it is woven into
pub record PatternFits (base : ℕ) (p : Pattern) : Type 0 where
  pub few_vertices : p.counts.vertices ≤ 8
  pub few_edges : p.counts.edges ≤ 16
  pub few_clauses : p.counts.clauses ≤ 32
  pub few_returns : p.counts.returns ≤ 4
  pub vertices : (i : ℕ) → i < p.counts.vertices → NameFits base (get_or p.vertices i no_part)
  pub edges : (i : ℕ) → i < p.counts.edges → EdgeFits base p.counts.vertices (get_or p.edges i no_edge)
  pub clauses : (i : ℕ) → i < p.counts.clauses → ConditionFits base p.counts.vertices p.counts.edges (get_or p.clauses i no_clause).condition
  pub returns : (i : ℕ) → i < p.counts.returns → get_or p.returns i 0 < p.counts.vertices

-- a value's text ends within so many bytes
abbrev pub ValueWithin : ℕ → Value → Type 0
ValueWithin size (Number n) = Unit {0}
ValueWithin size (Text start length) = start + length ≤ size
ValueWithin size (Truth t) = Unit {0}

-- a condition's text does
abbrev pub ConditionWithin : ℕ → Condition → Type 0
ConditionWithin size (Excluded u v) = Unit {0}
ConditionWithin size (OfVertex v x) = ValueWithin size x.value
ConditionWithin size (OfEdge e x) = ValueWithin size x.value

-- every name and text of a pattern ends within its text's bytes
pub record PartsWithin (size : ℕ) (p : Pattern) : Type 0 where
  pub vertices : (i : ℕ) → i < p.counts.vertices → (get_or p.vertices i no_part).start + (get_or p.vertices i no_part).length ≤ size
  pub edges : (i : ℕ) → i < p.counts.edges → (get_or p.edges i no_edge).name.start + (get_or p.edges i no_edge).name.length ≤ size
  pub clauses : (i : ℕ) → i < p.counts.clauses → ConditionWithin size (get_or p.clauses i no_clause).condition
