-- Identities on woven vertices, and the vertices that are tied to one, as sets in a word.
use Rattle.std.specs.Prelude.{ℕ, ◌+◌, ◌/◌, ◌%◌, ◌<◌, ◌≤◌, ◌≡◌, List, [], ◌∷◌, map, Bool, ◌&&◌, ◌||◌, get_or, take, eqb}
use Rattle.model.specs.Bytes.{Bytes}
use Rattle.model.specs.Choice.{pick, Maybe, nothing, just}
use Rattle.model.specs.Lists.{any, keep, below}
use Rattle.model.specs.Book.{Book}
use Rattle.model.specs.Request.{Identity}
use Rattle.model.specs.Weave.{steps_along, woven_fault, WovenVertex, no_vertex, identified_by}
use Rattle.model.specs.Answers.{identity_in}
use Rattle.model.specs.declared.Identity.{Identity as IdentityData}
use Rattle.bits.specs.Word.{bit}
use Rattle.text.specs.Parts.{HasPart}
use Rattle.book_tables.specs.Listed.{listed}
use Rattle.woven_tables.specs.declared.WovenCounts.{WovenCounts}
use Rattle.woven_tables.specs.Tables.{woven_at, identity_at, vertex_of_word}
use Rattle.model.specs.PlainData.{no_part}
use Rattle.woven_tables.specs.Steps.{KeptOutside}
use Rattle.woven_tables.specs.Reading.{ClausesInside}
use Rattle.weave.specs.Adding.{Kept}

-- the node that identities give to a woven vertex
unfoldable pub identity_of : List Identity → WovenVertex → Maybe ℕ
identity_of [] vertex = nothing
identity_of (i ∷ ids) vertex = let rest = identity_of ids vertex in pick (identified_by vertex i) (just i.node) rest

-- the identities of a request, of which so many stand in the array
abbrev pub identities_in : Bytes → List IdentityData → ℕ → List Identity
identities_in request identities count = map (identity_in request) (take count identities)

-- what stands past the end of an array
abbrev pub no_identity : IdentityData
no_identity = record { actor = no_part; node = 0 }

-- what is asked of identities: few, their actors are parts of the request, and their nodes are numbers of nodes
pub record IdentitiesReady (request : Bytes) (identities : List IdentityData) (count : ℕ) : Type 0 where
  pub few : count ≤ 8
  pub actors : (i : ℕ) → i < count → HasPart request (get_or identities i no_identity).actor
  pub nodes : (i : ℕ) → i < count → (get_or identities i no_identity).node < 256

-- each woven vertex has the node that its identity gives, or none, and the marked vertices are those that have one
pub record IdentitiesGiven (query rules : Bytes) (ids : List Identity) (old new : List ℕ) (n out : ℕ) : Type 0 where
  pub given : (v : ℕ) → v < n → identity_at new v ≡ identity_of ids (vertex_of_word query rules (get_or old v 0))
  pub marked : (v : ℕ) → v < n → bit out v ≡ any (identified_by (vertex_of_word query rules (get_or old v 0))) ids
  pub kept : KeptOutside 412 436 old new

-- the vertices below n that a word marks
unfoldable pub marked_below : ℕ → ℕ → List ℕ
marked_below n mask = keep (bit mask) (below n)

-- the vertices that an edge word runs from and to
abbrev pub from_of : ℕ → ℕ
from_of w = w / 256 % 256

abbrev pub to_of : ℕ → ℕ
to_of w = w % 256

-- an edge word joins v to a marked vertex
unfoldable pub joins : ℕ → ℕ → ℕ → Bool
joins mask v w = eqb v (from_of w) && bit mask (to_of w) || eqb v (to_of w) && bit mask (from_of w)

-- every edge in the words runs between vertices below n
abbrev pub EdgesLow : List ℕ → ℕ → ℕ → Type 0
EdgesLow words edges n = (i : ℕ) → i < edges → (from_of (get_or words (24 + i) 0) < n) × (to_of (get_or words (24 + i) 0) < n)

-- a mark at v comes from the marks before or along an edge
abbrev pub Stepped : List ℕ → ℕ → ℕ → ℕ → Type 0
Stepped words edges mask out = (v : ℕ) → bit out v ≡ bit mask v || any (joins mask v) (listed (λ i. get_or words (24 + i) 0) edges)

-- the marks are those of as many steps along the edges as there are vertices, whatever pattern stands in the words
abbrev pub TiedBy : List ℕ → ℕ → ℕ → ℕ → ℕ → Type 0
TiedBy words vertices edges mask out =
    (b : Book) (query rules : Bytes) (c : WovenCounts) → c.vertices ≡ vertices → c.edges ≡ edges
    → marked_below vertices out ≡ steps_along vertices (woven_at b query rules words c) (marked_below vertices mask)

-- what is asked of the words before identities are given
pub record FinishReady (query rules request : Bytes) (words : List ℕ) (c : WovenCounts) (identities : List IdentityData) (count : ℕ) : Type 0 where
  pub kept : Kept query rules words c
  pub low : EdgesLow words c.edges c.vertices
  pub identified : IdentitiesReady request identities count

-- the woven pattern stands as it was, with identities; 13 exactly if some vertex is not tied to one
pub record Finished (query rules : Bytes) (ids : List Identity) (old new : List ℕ) (c : WovenCounts) (out : Bool) : Type 0 where
  pub same_pattern : (b : Book) → woven_at b query rules new c ≡ woven_at b query rules old c
  pub values : ClausesInside query rules new (c.exclusions + c.requirements)
  pub given : (b : Book) (v : ℕ) → v < c.vertices → identity_at new v ≡ identity_of ids (get_or (woven_at b query rules new c).vertices v no_vertex)
  pub fault : (b : Book) → woven_fault (woven_at b query rules new c) ids ≡ pick out nothing (just 13)
