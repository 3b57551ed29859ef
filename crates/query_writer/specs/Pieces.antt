-- The written text of a pattern that is given as plain data, piece by piece in the order in which it is put.
use Rattle.std.specs.Prelude.{ℕ, List, [], ◌++◌, map, get_or, take}
use Rattle.model.specs.Bytes.{Bytes, bytes_of}
use Rattle.model.specs.Answers.{name_at, relation_of, value_of}
use Rattle.model.specs.Writing.{demand_text}
use Rattle.model.specs.PlainData.{no_part, no_edge}
use Rattle.model.specs.declared.Part.{Part}
use Rattle.model.specs.declared.Edge.{Edge}
use Rattle.model.specs.declared.Requirement.{Requirement}
use Rattle.model.specs.declared.Condition.{Condition}
use Rattle.model.specs.declared.Condition.TheVariants.{Excluded, OfVertex, OfEdge}
use Rattle.model.specs.declared.Clause.{Clause}
use Rattle.model.specs.declared.Pattern.{Pattern}
use Rattle.book_tables.specs.Layout.{vattr_names, eattr_names, label_names}
use Rattle.book_tables.specs.View.{name_of}
use Rattle.putting.specs.Listing.{listing}

-- a vertex's name
unfoldable pub vertex_at : Bytes → List Part → ℕ → Bytes
vertex_at query vertices v = name_at query (get_or vertices v no_part)

-- an edge's name
unfoldable pub edge_at : Bytes → List Edge → ℕ → Bytes
edge_at query edges e = name_at query (get_or edges e no_edge).name

-- Match (v)
unfoldable pub vertex_piece : Bytes → Part → Bytes
vertex_piece query p = bytes_of "Match (" ++ name_at query p ++ bytes_of ")"

-- Match (u)-[e:label]->(v)
unfoldable pub edge_piece : Bytes → List ℕ → Bytes → List Part → Edge → Bytes
edge_piece book words query vertices e =
    bytes_of "Match (" ++ vertex_at query vertices e.from ++ bytes_of ")-[" ++ name_at query e.name ++ bytes_of ":" ++ name_of book words label_names e.label
    ++ bytes_of "]->(" ++ vertex_at query vertices e.to ++ bytes_of ")"

-- x.attr REL value, the attribute being one of those declared at an offset
unfoldable pub requirement_piece : Bytes → List ℕ → Bytes → ℕ → Bytes → Requirement → Bytes
requirement_piece book words query offset x r = demand_text x (name_of book words offset r.attribute) (relation_of r.relation) (value_of query r.value)

-- a condition
unfoldable pub condition_piece : Bytes → List ℕ → Bytes → List Part → List Edge → Condition → Bytes
condition_piece book words query vertices edges (Excluded u v) = vertex_at query vertices u ++ bytes_of " <> " ++ vertex_at query vertices v
condition_piece book words query vertices edges (OfVertex v r) = requirement_piece book words query vattr_names (vertex_at query vertices v) r
condition_piece book words query vertices edges (OfEdge e r) = requirement_piece book words query eattr_names (edge_at query edges e) r

-- one Match per vertex
unfoldable pub vertices_text : Bytes → List Part → ℕ → Bytes
vertices_text query vertices n = listing [] (bytes_of " ") (map (vertex_piece query) (take n vertices))

-- one Match per edge, each behind a space
unfoldable pub edges_text : Bytes → List ℕ → Bytes → List Part → List Edge → ℕ → Bytes
edges_text book words query vertices edges n = listing (bytes_of " ") (bytes_of " ") (map (edge_piece book words query vertices) (take n edges))

-- the conditions
unfoldable pub conditions_text : Bytes → List ℕ → Bytes → List Part → List Edge → List Clause → ℕ → Bytes
conditions_text book words query vertices edges clauses n =
    listing (bytes_of " Where ") (bytes_of " AND ") (map (λ c. condition_piece book words query vertices edges c.condition) (take n clauses))

-- the names behind Return
unfoldable pub returns_text : Bytes → List Part → List ℕ → ℕ → Bytes
returns_text query vertices returns n = listing [] (bytes_of ", ") (map (vertex_at query vertices) (take n returns))

-- the whole text
unfoldable pub pattern_text : Bytes → List ℕ → Bytes → Pattern → Bytes
pattern_text book words query p =
    vertices_text query p.vertices p.counts.vertices
    ++ edges_text book words query p.vertices p.edges p.counts.edges
    ++ conditions_text book words query p.vertices p.edges p.clauses p.counts.clauses
    ++ bytes_of " Return " ++ returns_text query p.vertices p.returns p.counts.returns
