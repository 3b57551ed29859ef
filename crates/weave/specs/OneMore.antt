-- Weaving one text more: what a pattern adds to the woven pattern of the texts before it.
use Rattle.std.specs.Prelude.{ℕ, ◌<◌, List, ◌++◌, map, length, eqb}
use Rattle.model.specs.Bytes.{Bytes}
use Rattle.model.specs.Choice.{pick}
use Rattle.model.specs.Pattern.{PatternOver, Pattern, Edge, Clause, excluded, vertex_has, edge_has}
use Rattle.model.specs.Graph.{Each}
use Rattle.model.specs.Weave.{WovenVertex, WovenPattern, first_vertices, weave_vertex, moved, moved_edge, moved_clause}

-- the pattern of the kth text, of woven vertices
unfoldable pub under_names : ℕ → List Bytes → Pattern → WovenPattern
under_names k actors p = record { vertices = map (weave_vertex k actors) p.vertices; edges = p.edges; clauses = p.clauses; returns = p.returns }

-- the woven vertices with those of one text more
unfoldable pub more_vertices : ℕ → List Bytes → Pattern → List WovenVertex → List WovenVertex
more_vertices k actors p vs = first_vertices vs (under_names k actors p).vertices

-- the woven pattern with one text more, the kth: its new vertices, every edge, exclusion and requirement behind those there; Return is that of text 0
unfoldable pub one_more : ℕ → List Bytes → Pattern → WovenPattern → WovenPattern
one_more k actors p woven =
    let own = under_names k actors p in
    let vs = more_vertices k actors p woven.vertices in
    record {
      vertices = vs;
      edges = woven.edges ++ map (moved_edge vs own) p.edges;
      clauses = woven.clauses ++ map (moved_clause vs own (length woven.edges)) p.clauses;
      returns = pick (eqb k 0) (map (moved vs own) p.returns) woven.returns;
    }

-- a clause names vertices below v and edges below e only
abbrev pub ClauseWithin : ℕ → ℕ → Clause → Type 0
ClauseWithin v e (excluded x y) = (x < v) × (y < v)
ClauseWithin v e (vertex_has x a r z) = x < v
ClauseWithin v e (edge_has x a r z) = x < e

-- every number in a pattern is one of its vertices or edges
pub record Ranged {Vertex : Type 0} (p : PatternOver Vertex) : Type 0 where
  pub edges : Each (λ (e : Edge). (e.from < length p.vertices) × (e.to < length p.vertices)) p.edges
  pub clauses : Each (ClauseWithin (length p.vertices) (length p.edges)) p.clauses
  pub returns : Each (λ v. v < length p.vertices) p.returns
