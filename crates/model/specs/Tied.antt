-- Which vertices of a woven pattern are tied to an identity: by a path of edges, either way along each.
use Rattle.std.specs.Prelude.{ℕ, ◌<◌, ◌≡◌, ◌⊎◌, List, length, get_or}
use Rattle.model.specs.Lists.{◌∈◌}
use Rattle.model.specs.Pattern.{Edge}
use Rattle.model.specs.Request.{Identity}
use Rattle.model.specs.Weave.{WovenPattern, actor, no_vertex}

-- a number is the number of a vertex
abbrev pub IsVertex : WovenPattern → ℕ → Type 0
IsVertex p v = v < length p.vertices

-- an edge joins two vertices, whichever way it runs
abbrev pub Joins : Edge → ℕ → ℕ → Type 0
Joins e v u = ((v ≡ e.from) × (u ≡ e.to)) ⊎ ((v ≡ e.to) × (u ≡ e.from))

-- a path of edges from a vertex to another, either way along each
pub data Path (p : WovenPattern) : ℕ → ℕ → Type 0 where
  here : {v : ℕ} → IsVertex p v → Path p v v
  along : {v u w : ℕ} {e : Edge} → IsVertex p v → e ∈ p.edges → Joins e v u → Path p u w → Path p v w

-- a vertex has an identity: it is the actor vertex of the name of one
abbrev pub HasIdentity : WovenPattern → List Identity → ℕ → Type 0
HasIdentity p ids v = IsVertex p v × ((i : Identity) × (i ∈ ids) × (get_or p.vertices v no_vertex ≡ actor i.actor))

-- a vertex is tied to an identity: a path leads to a vertex that has one
abbrev pub TiedTo : WovenPattern → List Identity → ℕ → Type 0
TiedTo p ids v = (w : ℕ) × HasIdentity p ids w × Path p v w

-- a vertex that is not tied to an identity
abbrev pub Untied : WovenPattern → List Identity → Type 0
Untied p ids = (v : ℕ) × IsVertex p v × (TiedTo p ids v → ⊥)
