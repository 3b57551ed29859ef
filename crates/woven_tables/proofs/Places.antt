-- Woven vertices in order of first appearance: one that is there keeps its place when others come behind. Assumes nothing.
use Prim.Native.Nat.{◌<◌, ◌≤◌}
use mathlib.Core.Path.{◌≡◌, refl, ◌∙◌}
use mathlib.Core.List.{List, [], ◌∷◌, ◌++◌}
use mathlib.Core.Bool.{Bool, true, false}
use lib.ListN.{length}
use Rattle.model.specs.Choice.{pick}
use Rattle.model.specs.Lists.{any, add_new_by, firsts_by}
use Rattle.model.proofs.Members.{◌∈◌, is_true, alike_i, add_new_by_old}
use Rattle.book_tables.proofs.ListedLaws.{place_end, place_kept, place_inside, place_none as nowhere}
use Rattle.model.specs.Weave.{WovenVertex, same_vertex, place_vertex, first_vertices}
use Rattle.model.proofs.FirstNames.{firsts_by_grow}
use Rattle.model.proofs.WovenVertices.{vertex_tells}

-- a vertex that is not there has the length of the list for its place
pub place_none : (w : WovenVertex) (vs : List WovenVertex) → any (same_vertex w) vs ≡ false → place_vertex w vs ≡ length vs
unfolding place_vertex
place_none w vs e = nowhere (same_vertex w) vs e

-- a vertex that is there has a place below the length
pub place_some : (w : WovenVertex) (vs : List WovenVertex) → any (same_vertex w) vs ≡ true → place_vertex w vs < length vs
unfolding place_vertex
place_some w vs e = place_inside (same_vertex w) vs e

-- a vertex that is put behind has the length for its place
pub place_behind : (w : WovenVertex) (vs : List WovenVertex) → any (same_vertex w) vs ≡ false → place_vertex w (vs ++ (w ∷ [])) ≡ length vs
unfolding place_vertex
place_behind w vs e = place_end (same_vertex w) vs w e (is_true (same_vertex w w) (vertex_tells.1 w))

-- a vertex keeps its place when one that is new comes behind
place_add_new : (w x : WovenVertex) (vs : List WovenVertex) → w ∈ vs → place_vertex w (add_new_by same_vertex vs x) ≡ place_vertex w vs
unfolding place_vertex add_new_by
place_add_new w x vs i = go (any (same_vertex x) vs)
  where
    go : (b : Bool) → place_vertex w (pick b vs (vs ++ (x ∷ []))) ≡ place_vertex w vs
    go true = refl
    go false = place_kept (same_vertex w) vs x (is_true (any (same_vertex w) vs) (alike_i same_vertex vertex_tells w vs i))

pub place_firsts : (w : WovenVertex) (vs ws : List WovenVertex) → w ∈ vs → place_vertex w (first_vertices vs ws) ≡ place_vertex w vs
unfolding firsts_by
place_firsts w vs [] i = refl
place_firsts w vs (x ∷ ws) i = place_firsts w (add_new_by same_vertex vs x) ws (add_new_by_old same_vertex vertex_tells vs x w i) ∙ place_add_new w x vs i

-- there are no fewer vertices than before
pub vertices_grow : (seen vs : List WovenVertex) → length seen ≤ length (first_vertices seen vs)
vertices_grow seen vs = firsts_by_grow same_vertex seen vs
