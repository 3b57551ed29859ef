-- Where the identities of a request stand in its text. An accepted request's line has brackets, spaces and words only, so they are found by its words.
use Rattle.std.specs.Prelude.{ℕ, ◌+◌, ◌-◌, List, [], ◌∷◌, ◌++◌, Bool, false, not, ◌&&◌, length, get_or, drop, replicate}
use Rattle.model.specs.Bytes.{Bytes}
use Rattle.model.specs.Choice.{pick}
use Rattle.model.specs.Words.{is_word_byte, run}
use Rattle.model.specs.Request.{Identity}
use Rattle.model.specs.declared.Part.{Part}
use Rattle.model.specs.declared.Identity.{Identity as IdentityData}

-- the words of a text, each by its start and its length: a word begins at a word byte that has no word byte before it.
-- `inside`: a word byte stands before the text; `at`: the place of the text's first byte
unfoldable pub words_from : Bool → ℕ → Bytes → List Part
words_from inside at [] = []
words_from inside at (b ∷ s) =
    let rest = words_from (is_word_byte b) (at + 1) s in
    pick (is_word_byte b && not inside) (record { start = at; length = length (run is_word_byte (b ∷ s)) } ∷ rest) rest

-- no identity
abbrev pub no_identity : IdentityData
no_identity = record { actor = record { start = 0; length = 0 }; node = 0 }

-- identities by the places of their actors, from the words behind the category on: each has three words, id ACTOR NODE
unfoldable pub placed_by : List Part → List Identity → List IdentityData
placed_by words [] = []
placed_by words (i ∷ is) = record { actor = get_or words 1 no_identity.actor; node = i.node } ∷ placed_by (drop 3 words) is

-- the identities of a request, whose first two words are `request` and the category's name
unfoldable pub identity_places : Bytes → List Identity → List IdentityData
identity_places text is = placed_by (drop 2 (words_from false 0 text)) is

-- eight slots: the identities, then none
unfoldable pub slots : List IdentityData → List IdentityData
slots is = is ++ replicate (8 - length is) no_identity
