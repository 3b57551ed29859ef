-- The pattern that is read from a text (section 3.1), numbered by first appearance.
use Rattle.std.specs.Prelude.{ℕ, List, map}
use Rattle.model.specs.Choice.{pick}
use Rattle.model.specs.Names.{Name, mem, place}
use Rattle.model.specs.Values.{Value}
use Rattle.model.specs.QueryText.{Relation, Condition, differ, demand, QueryText}
use Rattle.model.specs.Query.{ChainEdge, vertex_names, edges_of, edge_names, conditions_of}

-- an edge, its vertices by number
pub record Edge : Type 0 where
  pub name : Name
  pub label : Name
  pub from : ℕ
  pub to : ℕ

-- an exclusion (Σ), a vertex requirement (Γ_V), an edge requirement (Γ_E), vertices and edges by number
pub data Clause : Type 0 where
  excluded : ℕ → ℕ → Clause
  vertex_has : ℕ → Name → Relation → Value → Clause
  edge_has : ℕ → Name → Relation → Value → Clause

-- V, E, Σ with Γ in the order of the text, Ret; what a vertex of V is, is left open
pub record PatternOver (Vertex : Type 0) : Type 0 where
  pub vertices : List Vertex
  pub edges : List Edge
  pub clauses : List Clause
  pub returns : List ℕ

-- the pattern of a text: a vertex is its name
abbrev pub Pattern : Type 0
Pattern = PatternOver Name

-- a condition by the numbers of what it names
unfoldable pub clause_of : List Name → List Name → Condition → Clause
clause_of vs es (differ v u) = excluded (place v vs) (place u vs)
clause_of vs es (demand x a r v) = pick (mem x vs) (vertex_has (place x vs) a r v) (edge_has (place x es) a r v)

-- an edge by the numbers of the vertices it names
unfoldable pub edge_of : List Name → ChainEdge → Edge
edge_of vs e = record { name = e.name; label = e.label; from = place e.from vs; to = place e.to vs }

-- the pattern that is read from a text
unfoldable pub pattern_of : QueryText → Pattern
pattern_of q =
    let vs = vertex_names q in
    record {
      vertices = vs;
      edges = map (edge_of vs) (edges_of q);
      clauses = map (clause_of vs (edge_names q)) (conditions_of q);
      returns = map
          (λ v. place v vs) q.returns;
    }
