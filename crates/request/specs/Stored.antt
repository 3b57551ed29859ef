-- The identities of a request as plain data: the actors' names by places of the text, the nodes by number.
use Rattle.std.specs.Prelude.{ℕ, ◌≤◌, ◌<◌, ◌≡◌, List, map, length, get_or, take, replicate, Result, Ok, Err}
use Rattle.model.specs.Bytes.{Bytes}
use Rattle.model.specs.Choice.{nothing, just}
use Rattle.model.specs.Names.{place}
use Rattle.model.specs.Book.{Book, node_names}
use Rattle.model.specs.Request.{Claim, Identity}
use Rattle.model.specs.Answers.{part_of, name_at, identity_in}
use Rattle.model.specs.RequestPlaces.{no_identity, placed_by, slots}
use Rattle.model.specs.declared.Identity.{Identity as IdentityData}
use Rattle.text.specs.Parts.{HasPart}
use Rattle.book_tables.specs.declared.BookCounts.{BookCounts}
use Rattle.book_tables.specs.Listed.{listed}
use Rattle.book_tables.specs.View.{book_at}
use Rattle.rules_tables.specs.declared.RulesCounts.{RulesCounts}
use Rattle.request.specs.declared.Identities.{Identities}
use Rattle.request.specs.Claims.{words_at, claims_from}
use Rattle.request.specs.Faults.{FaultTold}

-- eight times no identity
abbrev pub no_identities : List IdentityData
no_identities = replicate 8 no_identity

-- an identity with the number of its node
abbrev pub numbered : Book → Claim → Identity
numbered b c = record { actor = c.actor; node = place c.node (node_names b) }

-- nothing but identities stands from a place to the end of the line
pub record ClaimsAsked (s : Bytes) (from : ℕ) : Type 0 where
  pub claims : List Claim
  pub are : claims_from s from ≡ just claims

-- the actors of the first identities, standing in a line
abbrev pub actor_names : Bytes → List IdentityData → ℕ → List Bytes
actor_names s list n = listed (λ j. name_at s (get_or list j no_identity).actor) n

-- they stand inside the line
abbrev pub InsideAll : Bytes → List IdentityData → ℕ → Type 0
InsideAll s list n = (j : ℕ) → j < n → HasPart s (get_or list j no_identity).actor

-- these identities, from a place on, stand in the array, wherever the line is the first of a text; their nodes are below a count;
-- each stands where its own words do, and the slots behind them hold none
pub record ClaimsStored (b : Book) (nodes : ℕ) (s : Bytes) (from : ℕ) (xs : List Claim) (r : Identities) : Type 0 where
  pub few : r.count ≤ 8
  pub is : (text : Bytes) → part_of text 0 (length s) ≡ s → map (identity_in text) (take r.count r.list) ≡ map (numbered b) xs
  pub below : (i : ℕ) → i < r.count → (get_or r.list i no_identity).node < nodes
  pub counted : r.count ≡ length xs
  pub whole : r.list ≡ slots (placed_by (words_at s from) (map (numbered b) xs))

-- the lowest fault of a line whose category has the number k and whose identities stand from a place on; or, without a fault, the identities
abbrev pub ClaimsTold : Bytes → List ℕ → BookCounts → Bytes → List ℕ → RulesCounts → ℕ → Bytes → ℕ → Result Identities ℕ → Type 0
ClaimsTold book words counts rules table sizes k s from (Err n) = FaultTold book words counts rules table sizes k s from (just n)
ClaimsTold book words counts rules table sizes k s from (Ok r) =
    FaultTold book words counts rules table sizes k s from nothing
    × ((xs : List Claim) → claims_from s from ≡ just xs → ClaimsStored (book_at book words counts) counts.nodes s from xs r)
