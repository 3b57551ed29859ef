-- The identities of a request's line, by places.
use Rattle.std.specs.Prelude.{ℕ, ◌<◌, ◌≡◌, List, ◌∷◌, map, Bool, true, false, not, ◌||◌, drop, Option, None, Some}
use Rattle.model.specs.Bytes.{Bytes}
use Rattle.model.specs.Choice.{Maybe, nothing, just, and_then}
use Rattle.model.specs.Lists.{each}
use Rattle.model.specs.Names.{mem}
use Rattle.model.specs.Request.{Claim, claim_of}
use Rattle.model.specs.Answers.{name_at}
use Rattle.model.specs.RequestPlaces.{words_from}
use Rattle.model.specs.declared.Part.{Part}
use Rattle.items.specs.declared.Next.{Next}
use Rattle.items.specs.declared.Next.TheVariants.{Item, Close}
use Rattle.item_forms.specs.declared.ClaimParts.{ClaimParts}
use Rattle.item_forms.specs.Ends.{line_at}
use Rattle.item_forms.specs.Forms.{claim_next}
use Rattle.item_forms.specs.Places.{WordPlaces}

-- the words of a line from a place on, where no word byte stands before
abbrev pub words_at : Bytes → ℕ → List Part
words_at s i = words_from false i (drop i s)

-- the identities from a place on, to the end of the line
unfoldable pub claims_from : Bytes → ℕ → Maybe (List Claim)
claims_from s i = line_at true i s (λ is. each claim_of is)

-- one identity more in front
unfoldable pub one_more : Claim → Maybe (List Claim) → Maybe (List Claim)
one_more x o = and_then o (λ xs. just (x ∷ xs))

-- they can be read
unfoldable pub are_read : Maybe (List Claim) → Bool
are_read nothing = false
are_read (just xs) = true

-- the actors that identities name
abbrev pub actors_in : List Claim → List Bytes
actors_in xs = map (λ c. c.actor) xs

-- an identity of an actor that is none of these, or of a node that is none of these
abbrev pub is_unknown : List Bytes → List Bytes → Claim → Bool
is_unknown actors nodes c = not (mem c.actor actors) || not (mem c.node nodes)

-- where the names of an identity stand, behind the place i; what follows it begins at e
pub record ClaimPlaces (s : Bytes) (i : ℕ) (a x : Part) (e : ℕ) : Type 0 where
  pub actor : WordPlaces s i a
  pub node : WordPlaces s i x
  pub onward : i < e

-- an identity whose names stand at these places, by what follows it
abbrev pub claim_of_places : Part → Part → ℕ → ClaimParts
claim_of_places a x e = record { actor = a; node = x; next = e }

-- an identity that was read, if one was
abbrev pub claim_at : Option (Next ClaimParts) → Option ClaimParts
claim_at (Some (Item x)) = Some x
claim_at (Some (Close e)) = None
claim_at None = None

-- where it stands
abbrev pub ClaimPlaced : Bytes → ℕ → Option ClaimParts → Type 0
ClaimPlaced s i (Some r) = ClaimPlaces s i r.actor r.node r.next
ClaimPlaced s i None = Unit {0}

-- the identity that follows, and where it stands
pub record NextClaim (s : Bytes) (i : ℕ) (r : Option ClaimParts) : Type 0 where
  pub is : r ≡ claim_at (claim_next 2 s i)
  pub placed : ClaimPlaced s i r

-- the identity whose names stand at these places
abbrev pub claim_on : Bytes → Part → Part → Claim
claim_on s a x = record { actor = name_at s a; node = name_at s x }

-- what f says of the identities from one place on, g says of those from another on
abbrev pub Left : {A : Type 0} → (List Claim → A) → (List Claim → A) → Bytes → ℕ → ℕ → Type 0
Left f g s from i = (xs : List Claim) → claims_from s from ≡ just xs → (ys : List Claim) × (claims_from s i ≡ just ys) × (f xs ≡ g ys)
