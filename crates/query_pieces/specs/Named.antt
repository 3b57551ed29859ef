-- What a list of pieces names: vertices, edges, conditions, returned names.
use Rattle.std.specs.Prelude.{List, [], ◌∷◌, ◌++◌}
use Rattle.model.specs.Bytes.{Bytes}
use Rattle.model.specs.Lists.{joined}
use Rattle.model.specs.QueryText.{Condition}
use Rattle.model.specs.Grammar.{Piece, start, goes, comes, asks, returns}
use Rattle.model.specs.Query.{ChainEdge}
use Rattle.model.specs.ReadQuery.{Scoped}

-- the vertex, the edge variable, the returned name, the condition of a piece
unfoldable pub vertex_in : Piece → List Bytes
vertex_in (start v) = v ∷ []
vertex_in (goes e l v) = v ∷ []
vertex_in (comes e l v) = v ∷ []
vertex_in (asks c) = []
vertex_in (returns v) = []

unfoldable pub edge_in : Piece → List Bytes
edge_in (start v) = []
edge_in (goes e l v) = e ∷ []
edge_in (comes e l v) = e ∷ []
edge_in (asks c) = []
edge_in (returns v) = []

unfoldable pub return_in : Piece → List Bytes
return_in (start v) = []
return_in (goes e l v) = []
return_in (comes e l v) = []
return_in (asks c) = []
return_in (returns v) = v ∷ []

unfoldable pub condition_in : Piece → List Condition
condition_in (start v) = []
condition_in (goes e l v) = []
condition_in (comes e l v) = []
condition_in (asks c) = c ∷ []
condition_in (returns v) = []

-- the same of a list of pieces, in order
abbrev pub vertices_in : List Piece → List Bytes
vertices_in ps = joined vertex_in ps

abbrev pub edges_in : List Piece → List Bytes
edges_in ps = joined edge_in ps

abbrev pub returns_in : List Piece → List Bytes
returns_in ps = joined return_in ps

abbrev pub conditions_in : List Piece → List Condition
conditions_in ps = joined condition_in ps

-- the edges with their ends, behind the vertex v
unfoldable pub links_from : Bytes → List Piece → List ChainEdge
links_from v [] = []
links_from v (start u ∷ ps) = links_from u ps
links_from v (goes e l u ∷ ps) = record { name = e; label = l; from = v; to = u } ∷ links_from u ps
links_from v (comes e l u ∷ ps) = record { name = e; label = l; from = u; to = v } ∷ links_from u ps
links_from v (asks c ∷ ps) = links_from v ps
links_from v (returns u ∷ ps) = links_from v ps

-- each condition with the variables before it, behind the variables vs and es
unfoldable pub scoped_from : List Bytes → List Bytes → List Piece → List Scoped
scoped_from vs es [] = []
scoped_from vs es (start v ∷ ps) = scoped_from (vs ++ (v ∷ [])) es ps
scoped_from vs es (goes e l v ∷ ps) = scoped_from (vs ++ (v ∷ [])) (es ++ (e ∷ [])) ps
scoped_from vs es (comes e l v ∷ ps) = scoped_from (vs ++ (v ∷ [])) (es ++ (e ∷ [])) ps
scoped_from vs es (asks c ∷ ps) = record { condition = c; vertices = vs; edges = es } ∷ scoped_from vs es ps
scoped_from vs es (returns v ∷ ps) = scoped_from vs es ps
