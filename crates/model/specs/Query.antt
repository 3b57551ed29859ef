-- What a syntax tree names: its vertices, its edges, its conditions.
use Rattle.std.specs.Prelude.{List, [], ◌∷◌, map}
use Rattle.model.specs.Lists.{joined}
use Rattle.model.specs.Names.{Name, firsts}
use Rattle.model.specs.QueryText.{Chain, end, right, left, Condition, QueryText}

-- an edge of a chain: its variable, its label, and the vertices it runs from and to
pub record ChainEdge : Type 0 where
  pub name : Name
  pub label : Name
  pub from : Name
  pub to : Name

-- hd of section 2.2: the left-most vertex variable of a chain
unfoldable pub hd : Chain → Name
hd (end v) = v
hd (right v e l c) = v
hd (left v e l c) = v

-- the vertices of a chain from the left
unfoldable pub chain_vertices : Chain → List Name
chain_vertices (end v) = v ∷ []
chain_vertices (right v e l c) = v ∷ chain_vertices c
chain_vertices (left v e l c) = v ∷ chain_vertices c

-- the edges of a chain from the left
unfoldable pub chain_edges : Chain → List ChainEdge
chain_edges (end v) = []
chain_edges (right v e l c) = record { name = e; label = l; from = v; to = hd c } ∷ chain_edges c
chain_edges (left v e l c) = record { name = e; label = l; from = hd c; to = v } ∷ chain_edges c

-- the vertices of a text in order of first appearance
unfoldable pub vertex_names : QueryText → List Name
vertex_names q = firsts [] (joined (λ m. chain_vertices m.chain) q.matches)

-- the edges of a text, in order
unfoldable pub edges_of : QueryText → List ChainEdge
edges_of q = joined (λ m. chain_edges m.chain) q.matches

-- the edge variables of a text, in order
unfoldable pub edge_names : QueryText → List Name
edge_names q = map (λ e. e.name) (edges_of q)

-- the conditions of a text, in order
unfoldable pub conditions_of : QueryText → List Condition
conditions_of q = joined (λ m. m.conditions) q.matches
