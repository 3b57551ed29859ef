-- The names of each kind in the pieces of a text.
use Rattle.std.specs.Prelude.{List, [], ◌∷◌, true, false, T, Option, Some, None}
use Rattle.model.specs.Bytes.{Bytes}
use Rattle.model.specs.Lists.{joined}
use Rattle.model.specs.Grammar.{Piece}
use Rattle.model.specs.Answers.{name_at}
use Rattle.model.specs.declared.Part.{Part}
use Rattle.text.specs.Parts.{HasPart}
use Rattle.query_pieces.specs.Named.{vertex_in, edge_in, return_in}
use Rattle.query_pieces.specs.Steps.{walk_at}
use Rattle.query_pieces.specs.declared.Place.{Place}
use Rattle.query_pieces.specs.declared.Spot.TheVariants.{AtStart}
use Rattle.query_survey.specs.declared.Which.{Which}
use Rattle.query_survey.specs.declared.Which.TheVariants.{Vertex, Edge, Returned}

-- a list of pieces
abbrev pub Pieces : Type 0
Pieces = List Piece

-- the name of a kind in a piece, and the names in a list of pieces
unfoldable pub name_in : Which → Piece → List Bytes
name_in Vertex p = vertex_in p
name_in Edge p = edge_in p
name_in Returned p = return_in p

abbrev pub names_in : Which → List Piece → List Bytes
names_in w ps = joined (name_in w) ps

-- a name, or none, as a list
unfoldable pub as_list : Bytes → Option Part → List Bytes
as_list s (Some p) = name_at s p ∷ []
as_list s None = []

-- it lies inside the text
abbrev pub OfInside : Bytes → Option Part → Type 0
OfInside s (Some p) = HasPart s p
OfInside s None = T true

-- the place at which a text begins
abbrev pub text_start : Place
text_start = record { at = 0; close = false; spot = AtStart }

-- the pieces from a place on, and those of a whole text
abbrev pub found_at : Bytes → Place → List Piece
found_at s p = (walk_at s p).found

abbrev pub text_pieces : Bytes → List Piece
text_pieces s = found_at s text_start
