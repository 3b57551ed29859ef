-- The identities that are printed of a request: where their actors stand, and how many there are.
use Rattle.std.specs.Prelude.{ℕ, ◌≤◌, List, get_or}
use Rattle.model.specs.Bytes.{Bytes}
use Rattle.model.specs.RequestPlaces.{no_identity}
use Rattle.text.specs.Parts.{HasPart}
use Rattle.model.specs.declared.Identity.{Identity}

-- the first identities of eight slots: no more than there are slots, each with its actor in the text
pub record IdentitiesInside (text : Bytes) (identities : List Identity) (count : ℕ) : Type 0 where
  pub few : count ≤ 8
  pub actors : (i : ℕ) → HasPart text (get_or identities i no_identity).actor
