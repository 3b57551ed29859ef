-- Woven vertices: their test tells whether two are the same, so that the laws of lists by such a test hold of them.
use Prim.Native.Nat.{ℕ, ◌<◌}
use mathlib.Core.Path.{◌≡◌, sym, ap, ap₂, subst, ◌∙◌}
use mathlib.Core.Logic.{◌⊎◌, ◌↔◌}
use mathlib.Core.List.{List, []}
use native.Mathlib.Omega.{arith}
use lib.ListN.{length, get_or}
use lib.Dec.{T, eqb, eqb→eq, eqb_refl}
use Rattle.model.specs.Bytes.{same}
use Rattle.model.specs.Request.{Identity}
use Rattle.model.specs.Weave.{WovenVertex, actor, own, same_vertex, place_vertex, first_vertices, no_vertex, identified_by}
use Rattle.model.proofs.Decides.{and_iff, same→eq, same_refl}
use Rattle.model.proofs.Members.{◌∈◌, Tells, firsts_by_i, firsts_by_e}
use Rattle.model.proofs.Places.{at_place_by}
use Rattle.model.proofs.FirstNames.{firsts_by_once}

-- the test of woven vertices tells whether two are the same
pub vertex_tells : Tells same_vertex
unfolding same_vertex
vertex_tells = (tell, self)
  where
    tell : (x y : WovenVertex) → T (same_vertex x y) → x ≡ y
    tell (actor v) (actor u) t = ap actor (same→eq v u t)
    tell (actor v) (own k u) t = absurd t
    tell (own j v) (actor u) t = absurd t
    tell (own j v) (own k u) t = let r = (and_iff (eqb j k) (same v u)).1 t in ap₂ own (eqb→eq j k r.0) (same→eq v u r.1)

    self : (x : WovenVertex) → T (same_vertex x x)
    self (actor v) = same_refl v
    self (own k v) = (and_iff (eqb k k) (same v v)).0 (eqb_refl k, same_refl v)

-- a woven vertex of a list stands at its place
pub at_vertex : (vs : List WovenVertex) (v : WovenVertex) → v ∈ vs → (place_vertex v vs < length vs) × (get_or vs (place_vertex v vs) no_vertex ≡ v)
unfolding place_vertex
at_vertex vs v m = at_place_by same_vertex vertex_tells no_vertex vs v m

-- woven vertices of one place are one
pub vertex_by_place : (vs : List WovenVertex) (v u : WovenVertex) → v ∈ vs → u ∈ vs → place_vertex v vs ≡ place_vertex u vs → v ≡ u
vertex_by_place vs v u n k e = sym (at_vertex vs v n).1 ∙ ap (λ i. get_or vs i no_vertex) e ∙ (at_vertex vs u k).1

-- a woven vertex of the list is among the first appearances
pub first_vertices_i : (seen vs : List WovenVertex) (v : WovenVertex) → v ∈ vs → v ∈ first_vertices seen vs
first_vertices_i seen vs v m = firsts_by_i same_vertex vertex_tells seen vs v m

-- a first appearance was seen or is of the list
pub first_vertices_e : (seen vs : List WovenVertex) (v : WovenVertex) → v ∈ first_vertices seen vs → (v ∈ seen) ⊎ (v ∈ vs)
first_vertices_e seen vs v m = firsts_by_e same_vertex vertex_tells seen vs v m

-- each of the first appearances stands at its own place
pub first_vertices_once : (vs : List WovenVertex) (i : ℕ) → i < length (first_vertices [] vs)
    → place_vertex (get_or (first_vertices [] vs) i no_vertex) (first_vertices [] vs) ≡ i
unfolding place_vertex
first_vertices_once vs = firsts_by_once same_vertex vertex_tells no_vertex [] vs (λ i l. absurd (omega arith))

-- an identity is that of a woven vertex exactly if this is the actor vertex of its name
pub identified_exactly : (v : WovenVertex) (d : Identity) → T (identified_by v d) ↔ (v ≡ actor d.actor)
unfolding identified_by
identified_exactly v d = (known v, λ e. subst (λ z. T (identified_by z d)) (sym e) (same_refl d.actor))
  where
    known : (v : WovenVertex) → T (identified_by v d) → v ≡ actor d.actor
    known (actor u) t = ap actor (same→eq u d.actor t)
    known (own k u) t = absurd t
