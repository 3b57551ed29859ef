-- What each step of weaving one text does to the words: vertices, edges, clauses, Return.
use Rattle.std.specs.Prelude.{ℕ, ◌+◌, ◌<◌, ◌≤◌, ◌≡◌, ◌⊎◌, List, ◌++◌, map, length, get_or, take, drop}
use Rattle.model.specs.Bytes.{Bytes}
use Rattle.model.specs.Weave.{WovenVertex, same_vertex, place_vertex, first_vertices, no_vertex, weave_vertex}
use Rattle.model.specs.Book.{Book}
use Rattle.model.specs.Pattern.{Edge}
use Rattle.model.specs.Answers.{name_at, edge_in}
use Rattle.model.specs.declared.Part.{Part}
use Rattle.model.specs.declared.Edge.{Edge as EdgeData}
use Rattle.woven_tables.specs.declared.vertices.Placed.{Placed}
use Rattle.woven_tables.specs.declared.vertices.Numbers.{Numbers}
use Rattle.woven_tables.specs.Tables.{text_of, ActorsInside, VerticesInside, vertices_at, edges_at, returns_at, vertex_of_word}
use Rattle.model.specs.PlainData.{no_part, no_edge, NameFits}
use Rattle.model.specs.Lists.{add_new_by}

-- the words stay but those of some tables
abbrev pub KeptOutside : ℕ → ℕ → List ℕ → List ℕ → Type 0
KeptOutside from to old new = (i : ℕ) → (i < from) ⊎ (to ≤ i) → get_or new i 0 ≡ get_or old i 0

-- a vertex has its place among the woven vertices, as a new one where it is new; a count past 24 says that it has no room
pub record VertexPlaced (query rules : Bytes) (old new : List ℕ) (n word : ℕ) (out : Placed) : Type 0 where
  pub at : out.at ≡ place_vertex (vertex_of_word query rules word) (vertices_at query rules old n)
  pub counted : out.count ≡ length (add_new_by same_vertex (vertices_at query rules old n) (vertex_of_word query rules word))
  pub vertices : out.count ≤ 24 → vertices_at query rules new out.count ≡ add_new_by same_vertex (vertices_at query rules old n) (vertex_of_word query rules word)
  pub inside : out.count ≤ 24 → VerticesInside query rules new out.count
  pub kept : KeptOutside 0 24 old new

-- what weaving makes of a text's vertices, of which so many stand in the array
abbrev pub text_vertices : Bytes → ℕ → List Bytes → List Part → ℕ → List WovenVertex
text_vertices text k actors parts count = map (weave_vertex k actors) (map (name_at text) (take count parts))

-- what is asked of the vertices of a text
pub record VerticesReady (base k : ℕ) (parts : List Part) (count : ℕ) : Type 0 where
  pub few_texts : k < 32
  pub few : count ≤ 8
  pub fit : (i : ℕ) → i < count → NameFits base (get_or parts i no_part)

-- the names of the actors, of the vertices that are woven and of those of a text lie inside their texts
pub record NamesStand (query rules : Bytes) (listed : List ℕ) (many : ℕ) (words : List ℕ) (n base k : ℕ) (parts : List Part) (count : ℕ) : Type 0 where
  pub actors : ActorsInside rules listed many
  pub woven : VerticesInside query rules words n
  pub own : (i : ℕ) → i < count → base + (get_or parts i no_part).start + (get_or parts i no_part).length ≤ length (text_of query rules k)

-- the vertices of a text are woven, each with its number; a count past 24 says that the limit is passed
pub record VerticesAdded (query rules : Bytes) (vs : List WovenVertex) (count : ℕ) (old new : List ℕ) (n : ℕ) (out : Numbers) : Type 0 where
  pub all : length vs ≡ count
  pub passed : 24 < out.count → 24 < length (first_vertices (vertices_at query rules old n) vs)
  pub vertices : out.count ≤ 24 → vertices_at query rules new out.count ≡ first_vertices (vertices_at query rules old n) vs
  pub numbers : out.count ≤ 24 → (i : ℕ) → i < length vs
      → get_or out.numbers i 0 ≡ place_vertex (get_or vs i no_vertex) (first_vertices (vertices_at query rules old n) vs)
  pub inside : out.count ≤ 24 → VerticesInside query rules new out.count
  pub kept : KeptOutside 0 24 old new

-- an edge with new numbers for its vertices
unfoldable pub renumbered_edge : List ℕ → Edge → Edge
renumbered_edge numbers e = record { name = e.name; label = e.label; from = get_or numbers e.from 0; to = get_or numbers e.to 0 }

-- what is asked of an edge of a text, its vertices having these numbers
pub record EdgeReady (base : ℕ) (numbers : List ℕ) (e : EdgeData) : Type 0 where
  pub name : NameFits base e.name
  pub label : e.label < 32
  pub from : e.from < 8
  pub to : e.to < 8
  pub woven_from : get_or numbers e.from 0 < 24
  pub woven_to : get_or numbers e.to 0 < 24

-- what is asked of the edges of a text: there is room for them
pub record EdgesReady (base k : ℕ) (edges : List EdgeData) (count : ℕ) (numbers : List ℕ) (woven : ℕ) : Type 0 where
  pub few_texts : k < 32
  pub few : count ≤ 16
  pub room : woven + count ≤ 48
  pub fit : (i : ℕ) → i < count → EdgeReady base numbers (get_or edges i no_edge)

-- the edges of a text are woven
pub record EdgesAdded (base k : ℕ) (edges : List EdgeData) (count : ℕ) (numbers old new : List ℕ) (woven : ℕ) : Type 0 where
  pub edges_are : (b : Book) (query rules : Bytes) → edges_at b query rules new (woven + count)
      ≡ edges_at b query rules old woven ++ map (renumbered_edge numbers) (map (edge_in b (drop base (text_of query rules k))) (take count edges))
  pub kept : KeptOutside 24 120 old new

-- a text's Return vertices are the woven pattern's
pub record ReturnsAdded (returns : List ℕ) (count : ℕ) (numbers old new : List ℕ) : Type 0 where
  pub returns_are : returns_at new count ≡ map (λ v. get_or numbers v 0) (take count returns)
  pub kept : KeptOutside 408 412 old new

-- what is asked of the Return vertices of a text
pub record ReturnsReady (returns : List ℕ) (count : ℕ) (numbers : List ℕ) : Type 0 where
  pub few : count ≤ 4
  pub fit : (i : ℕ) → i < count → (get_or returns i 0 < 8) × (get_or numbers (get_or returns i 0) 0 < 24)
