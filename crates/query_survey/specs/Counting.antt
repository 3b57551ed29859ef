-- How many pieces of a text pass a test, and what counts towards each limit.
use Rattle.std.specs.Prelude.{ℕ, ◌+◌, List, [], ◌∷◌, ◌++◌, Bool, true, false, not, ◌||◌, ltb}
use Rattle.model.specs.Choice.{pick}
use Rattle.model.specs.Names.{mem}
use Rattle.model.specs.Grammar.{Piece, start, goes, comes, asks, returns}
use Rattle.model.specs.ReadQuery.{is_differ}
use Rattle.query_pieces.specs.Named.{vertices_in}
use Rattle.query_pieces.specs.Faults.{Test}

-- how many pieces pass a test, behind the pieces that are done
unfoldable pub count_where : Test → List Piece → List Piece → ℕ
count_where t done [] = 0
count_where t done (p ∷ ps) = pick (t done p ps) 1 0 + count_where t (done ++ (p ∷ [])) ps

-- a vertex that stands in no piece before
unfoldable pub new_vertex : Test
new_vertex done (start v) rest = not (mem v (vertices_in done))
new_vertex done (goes e l v) rest = not (mem v (vertices_in done))
new_vertex done (comes e l v) rest = not (mem v (vertices_in done))
new_vertex done (asks c) rest = false
new_vertex done (returns v) rest = false

-- an edge, an exclusion, a requirement, a returned name
unfoldable pub an_edge : Test
an_edge done p rest = elim p [ start v ↦ false | goes e l v ↦ true | comes e l v ↦ true | asks c ↦ false | returns v ↦ false ]

unfoldable pub an_exclusion : Test
an_exclusion done p rest = elim p [ start v ↦ false | goes e l v ↦ false | comes e l v ↦ false | asks c ↦ is_differ c | returns v ↦ false ]

unfoldable pub a_requirement : Test
a_requirement done p rest = elim p [ start v ↦ false | goes e l v ↦ false | comes e l v ↦ false | asks c ↦ not (is_differ c) | returns v ↦ false ]

unfoldable pub a_return : Test
a_return done p rest = elim p [ start v ↦ false | goes e l v ↦ false | comes e l v ↦ false | asks c ↦ false | returns v ↦ true ]

-- 8 vertices, 16 edges, 16 exclusions, 16 requirements, 4 Return names
unfoldable pub past_limits : List Piece → Bool
past_limits ps =
    ltb 8 (count_where new_vertex [] ps) || ltb 16 (count_where an_edge [] ps)
    || ltb 16 (count_where an_exclusion [] ps) || ltb 16 (count_where a_requirement [] ps)
    || ltb 4 (count_where a_return [] ps)
