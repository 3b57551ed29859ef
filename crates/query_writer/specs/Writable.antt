-- What the query writer asks of its caller.
use Rattle.std.specs.Prelude.{ℕ, ◌≤◌, ◌<◌, List, length, get_or}
use Rattle.model.specs.Bytes.{Bytes}
use Rattle.model.specs.PlainData.{no_edge, no_clause, PartsWithin}
use Rattle.model.specs.declared.Edge.{Edge}
use Rattle.model.specs.declared.Condition.{Condition}
use Rattle.model.specs.declared.Condition.TheVariants.{Excluded, OfVertex, OfEdge}
use Rattle.model.specs.declared.Clause.{Clause}
use Rattle.model.specs.declared.Pattern.{Pattern}
use Rattle.book_tables.specs.declared.BookCounts.{BookCounts}
use Rattle.book_tables.specs.Fits.{Fits}

-- how many there are of what a pattern names by number
pub record Limits : Type 0 where
  pub vertices : ℕ
  pub edges : ℕ
  pub labels : ℕ
  pub vattrs : ℕ
  pub eattrs : ℕ

-- an edge's numbers are below the limits
pub record EdgeFits (m : Limits) (e : Edge) : Type 0 where
  pub label : e.label < m.labels
  pub from : e.from < m.vertices
  pub to : e.to < m.vertices

-- a condition's numbers are below the limits
abbrev pub ConditionFits : Limits → Condition → Type 0
ConditionFits m (Excluded u v) = (u < m.vertices) × (v < m.vertices)
ConditionFits m (OfVertex v r) = (v < m.vertices) × (r.attribute < m.vattrs)
ConditionFits m (OfEdge e r) = (e < m.edges) × (r.attribute < m.eattrs)

-- so many edges, clauses or Return names are in their array, and each fits
pub record EdgesFit (m : Limits) (edges : List Edge) (n : ℕ) : Type 0 where
  pub few : n ≤ 16
  pub each : (i : ℕ) → i < n → EdgeFits m (get_or edges i no_edge)

pub record ClausesFit (m : Limits) (clauses : List Clause) (n : ℕ) : Type 0 where
  pub few : n ≤ 32
  pub each : (i : ℕ) → i < n → ConditionFits m (get_or clauses i no_clause).condition

pub record ReturnsFit (m : Limits) (returns : List ℕ) (n : ℕ) : Type 0 where
  pub few : n ≤ 4
  pub each : (i : ℕ) → i < n → get_or returns i 0 < m.vertices

-- a pattern's counts are within its arrays, and its numbers below the limits
pub record PatternFits (m : Limits) (p : Pattern) : Type 0 where
  pub vertices : p.counts.vertices ≤ 8
  pub edges : EdgesFit m p.edges p.counts.edges
  pub clauses : ClausesFit m p.clauses p.counts.clauses
  pub returns : ReturnsFit m p.returns p.counts.returns

-- the limits of what a pattern and a book have
abbrev pub count_limits : BookCounts → Pattern → Limits
count_limits c p = record { vertices = p.counts.vertices; edges = p.counts.edges; labels = c.labels; vattrs = c.vattrs; eattrs = c.eattrs }

-- a pattern can be written: the words hold a book, all that the pattern names is there, and its names and texts stand in the query
pub record Writable (book : Bytes) (words : List ℕ) (c : BookCounts) (query : Bytes) (p : Pattern) : Type 0 where
  pub fits : Fits book words c
  pub pattern : PatternFits (count_limits c p) p
  pub parts : PartsWithin (length query) p
