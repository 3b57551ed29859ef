-- Weaving: the woven pattern, its limits (12), and what is tied to an identity (13).
use Rattle.std.specs.Prelude.{ℕ, zero, suc, ◌+◌, List, [], ◌∷◌, ◌++◌, map, Bool, true, false, not, ◌&&◌, ◌||◌, length, get_or, ltb, eqb}
use Rattle.model.specs.Bytes.{Bytes, same}
use Rattle.model.specs.Choice.{pick, Maybe}
use Rattle.model.specs.Lists.{any, all, keep, joined, memℕ, below, place_where, firsts_by}
use Rattle.model.specs.Limits.{max_woven_vertices, max_woven_of_a_kind}
use Rattle.model.specs.Names.{Name, mem}
use Rattle.model.specs.Refusal.{Row, lowest, ◌if◌}
use Rattle.model.specs.QueryText.{QueryText}
use Rattle.model.specs.Pattern.{Edge, Clause, excluded, vertex_has, edge_has, pattern_of, PatternOver}
use Rattle.model.specs.Rules.{Rules, actors_of, enforced}
use Rattle.model.specs.Request.{Identity, Request}

-- a text to be met, with the actors of its own category
pub record Asked : Type 0 where
  pub text : QueryText
  pub actors : List Name

-- the query, with the actors of the request's category
unfoldable pub asked_query : Rules → Request → QueryText → Asked
asked_query r x q = record { text = q; actors = actors_of r x.category }

-- the enforced policies, in the order of their categories, each with the actors of its own category
unfoldable pub asked_policies : Rules → Request → List Asked
asked_policies r x = map (λ p. record { text = p.text; actors = actors_of r p.category }) (enforced r x.category)

-- a woven vertex: an actor vertex, by its name, which is one vertex in all texts; or an own vertex of the kth text, by its name there
pub data WovenVertex : Type 0 where
  actor : Bytes → WovenVertex
  own : ℕ → Bytes → WovenVertex

-- whether two woven vertices are the same: actor vertices of one name are, and own vertices of one name of the same text
unfoldable pub same_vertex : WovenVertex → WovenVertex → Bool
same_vertex (actor v) (actor u) = same v u
same_vertex (actor v) (own k u) = false
same_vertex (own j v) (actor u) = false
same_vertex (own j v) (own k u) = eqb j k && same v u

-- the place of a woven vertex in a list, counted from 0; the list's length if it is not there
unfoldable pub place_vertex : WovenVertex → List WovenVertex → ℕ
place_vertex v vs = place_where (same_vertex v) vs

-- every woven vertex once, in order of first appearance, behind those seen already
abbrev pub first_vertices : List WovenVertex → List WovenVertex → List WovenVertex
first_vertices seen vs = firsts_by same_vertex seen vs

-- what stands past the end of a list of woven vertices
abbrev pub no_vertex : WovenVertex
no_vertex = actor []

-- a pattern of woven vertices
abbrev pub WovenPattern : Type 0
WovenPattern = PatternOver WovenVertex

-- what weaving makes of a vertex of the kth text: weaving joins actor vertices of one name and separates all other vertices, even of one name
unfoldable pub weave_vertex : ℕ → List Bytes → Bytes → WovenVertex
weave_vertex k actors v = pick (mem v actors) (actor v) (own k v)

-- the patterns of the texts, of woven vertices, the texts counted from k
unfoldable pub named : ℕ → List Asked → List WovenPattern
named k [] = []
named k (a ∷ others) = let p = pattern_of a.text in
    record { vertices = map (weave_vertex k a.actors) p.vertices; edges = p.edges; clauses = p.clauses; returns = p.returns } ∷ named (k + 1) others

-- the woven number of vertex v of a pattern, vs being the woven vertices
unfoldable pub moved : List WovenVertex → WovenPattern → ℕ → ℕ
moved vs p v = place_vertex (get_or p.vertices v no_vertex) vs

-- an edge with the woven numbers of its vertices
unfoldable pub moved_edge : List WovenVertex → WovenPattern → Edge → Edge
moved_edge vs p e = record { name = e.name; label = e.label; from = moved vs p e.from; to = moved vs p e.to }

-- a clause with woven numbers, n being the edges of the patterns before
unfoldable pub moved_clause : List WovenVertex → WovenPattern → ℕ → Clause → Clause
moved_clause vs p n (excluded u v) = excluded (moved vs p u) (moved vs p v)
moved_clause vs p n (vertex_has v a r x) = vertex_has (moved vs p v) a r x
moved_clause vs p n (edge_has e a r x) = edge_has (n + e) a r x

-- the clauses of all patterns, one pattern after another
unfoldable pub moved_clauses : List WovenVertex → ℕ → List WovenPattern → List Clause
moved_clauses vs n [] = []
moved_clauses vs n (p ∷ ps) = map (moved_clause vs p n) p.clauses ++ moved_clauses vs (n + length p.edges) ps

-- the Return of the first text
unfoldable pub returns_of : List WovenVertex → List WovenPattern → List ℕ
returns_of vs [] = []
returns_of vs (p ∷ ps) = map (moved vs p) p.returns

-- the woven pattern: vertices by first appearance, every edge, exclusion and requirement, the Return of the first text, the query
unfoldable pub weave : List Asked → WovenPattern
weave asked =
    let ps = named 0 asked in
    let vs = first_vertices [] (joined (λ p. p.vertices) ps) in
    record { vertices = vs; edges = joined (λ p. map (moved_edge vs p) p.edges) ps; clauses = moved_clauses vs 0 ps; returns = returns_of vs ps }

-- an exclusion
unfoldable pub is_excluded : Clause → Bool
is_excluded (excluded u v) = true
is_excluded (vertex_has v a r x) = false
is_excluded (edge_has e a r x) = false

-- more vertices or more of another kind than fit
unfoldable pub woven_too_many : WovenPattern → Bool
woven_too_many p =
    ltb max_woven_vertices (length p.vertices) || ltb max_woven_of_a_kind (length p.edges)
    || ltb max_woven_of_a_kind (length (keep is_excluded p.clauses)) || ltb max_woven_of_a_kind (length (keep (λ c. not (is_excluded c)) p.clauses))

-- an identity is that of a woven vertex: of the actor vertex of its name
unfoldable pub identified_by : WovenVertex → Identity → Bool
identified_by (actor v) i = same v i.actor
identified_by (own k v) i = false

-- Nothing to believe: the next four count the vertices that are tied to an identity, and are proved to give exactly those of TiedTo

-- the vertices that have an identity
unfoldable pub with_identity : WovenPattern → List Identity → List ℕ
with_identity p ids = keep (λ v. any (identified_by (get_or p.vertices v no_vertex)) ids) (below (length p.vertices))

-- these vertices and those that an edge joins to one of them
unfoldable pub step_along : WovenPattern → List ℕ → List ℕ
step_along p vs = keep (λ v. memℕ v vs || any (λ e. eqb v e.from && memℕ e.to vs || eqb v e.to && memℕ e.from vs) p.edges)
    (below (length p.vertices))

-- k steps along edges, either way
unfoldable pub steps_along : ℕ → WovenPattern → List ℕ → List ℕ
steps_along zero p vs = vs
steps_along (suc k) p vs = steps_along k p (step_along p vs)

-- the vertices tied to an identity: no path needs more edges than there are vertices
unfoldable pub tied : WovenPattern → List Identity → List ℕ
tied p ids = steps_along (length p.vertices) p (with_identity p ids)

-- the table of faults of text 5
abbrev pub woven_faults : WovenPattern → List Identity → List Row
woven_faults p ids = (12 if woven_too_many p) ∷ (13 if not (all (λ v. memℕ v (tied p ids)) (below (length p.vertices)))) ∷ []

-- the lowest of them
unfoldable pub woven_fault : WovenPattern → List Identity → Maybe ℕ
woven_fault p ids = lowest (woven_faults p ids)
