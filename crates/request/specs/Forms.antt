-- What the form of a request's line says: the line that the model reads, by places.
use Rattle.std.specs.Prelude.{◌≡◌, List, false, drop, Option, Some, None}
use Rattle.model.specs.Bytes.{Bytes}
use Rattle.model.specs.Choice.{Maybe, nothing, just}
use Rattle.model.specs.Request.{Claim, RequestLine}
use Rattle.model.specs.Answers.{name_at}
use Rattle.model.specs.RequestPlaces.{words_from}
use Rattle.model.specs.declared.Part.{Part}
use Rattle.item_forms.specs.Pieces.{behind}
use Rattle.item_forms.specs.Places.{WordPlaces}
use Rattle.request.specs.Claims.{words_at, claims_from}

-- a request's line by where the category's name stands
abbrev pub line_of : Bytes → Part → List Claim → RequestLine
line_of s w xs = record { category = name_at s w; claims = xs }

-- where its category's name stands; its identities and their words follow it
pub record LineRead (s : Bytes) (line : Maybe RequestLine) (w : Part) : Type 0 where
  pub places : WordPlaces s 0 w
  pub claims : List Claim
  pub are : claims_from s (behind w) ≡ just claims
  pub is : line ≡ just (line_of s w claims)
  pub words : drop 2 (words_from false 0 s) ≡ words_at s (behind w)

-- what a form says of the line that the model reads
abbrev pub FormRead : Bytes → Maybe RequestLine → Option Part → Type 0
FormRead s line (Some w) = LineRead s line w
FormRead s line None = line ≡ nothing
