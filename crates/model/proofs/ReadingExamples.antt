-- Reading worked through on small texts: what the counters of items, signs and pieces pass, and what a tail of pieces says. All by computation.
use mathlib.Core.Path.{◌≡◌, refl}
use mathlib.Core.List.{List, [], ◌∷◌}
use mathlib.Core.Bool.{true, false}
use Rattle.model.specs.Bytes.{bytes_of}
use Rattle.model.specs.Choice.{just}
use Rattle.model.specs.Names.{Name}
use Rattle.model.specs.Items.{none, more, word as word_item, plain_at, list_at}
use Rattle.model.specs.Signs.{Sign, word, mark, signs}
use Rattle.model.specs.QueryText.{end, right, differ}
use Rattle.model.specs.Grammar.{Piece, start, goes, asks, returns, in_chain, pieces, tail_of, query_text}
use Rattle.model.specs.Computing.{computing}

-- The items of a list: `ana` is read at its a; 2 more bytes are then passed, and the bracket ends the list. 4 bytes in all.
items_example : list_at plain_at true 0 (bytes_of "ana)") ≡ just (record { got = more (word_item (bytes_of "ana")) none; size = 4 })
unfolding computing
items_example = refl

-- behind the a: 2 bytes still to pass, then the bracket
items_passed : list_at plain_at false 2 (bytes_of "na)") ≡ just (record { got = none; size = 3 })
unfolding computing
items_passed = refl

-- The signs of `Match (v)`: `Match` is read at its M, and 4 more bytes are then passed.
abbrev match_signs : List Sign
match_signs = word (bytes_of "Match") ∷ mark (bytes_of "(") ∷ word (bytes_of "v") ∷ mark (bytes_of ")") ∷ []

signs_example : signs false false 0 (bytes_of "Match (v)") ≡ match_signs
unfolding computing
signs_example = refl

-- behind the M: in a chain, a word just before, 4 bytes still to pass
signs_passed : word (bytes_of "Match") ∷ signs true true 4 (bytes_of "atch (v)") ≡ match_signs
unfolding computing
signs_passed = refl

-- names of an edge, a label and two vertices
abbrev e : Name
e = bytes_of "e"

abbrev l : Name
l = bytes_of "l"

abbrev u : Name
u = bytes_of "u"

abbrev v : Name
v = bytes_of "v"

-- The pieces of `Match (v) Return v` behind Match: 3 signs of the piece `Match (v)` are still to pass, then Return is read, and the name is passed.
pieces_passed : pieces in_chain 3 (mark (bytes_of "(") ∷ word v ∷ mark (bytes_of ")") ∷ word (bytes_of "Return") ∷ word v ∷ []) ≡ just (returns v ∷ [])
unfolding computing
pieces_passed = refl

-- The tail behind (v) in `(v)-[e:l]->(u) Where u <> v Match (v) Return u`: the chain from v on, the condition, then one more Match and Return.
abbrev behind_v : List Piece
behind_v = goes e l u ∷ asks (differ u v) ∷ start v ∷ returns u ∷ []

tail_chain : (tail_of behind_v).chain v ≡ right v e l (end u)
unfolding computing
tail_chain = refl

tail_conditions : (tail_of behind_v).conditions ≡ differ u v ∷ []
unfolding computing
tail_conditions = refl

tail_later : (tail_of behind_v).later ≡ record { matches = record { chain = end v; conditions = [] } ∷ []; returns = u ∷ [] }
unfolding computing
tail_later = refl

-- a whole text: its first Match is the tail behind (v) put onto v
text_example : query_text (bytes_of "Match (v)-[e:l]->(u) Where u <> v Match (v) Return u")
    ≡ just (record {
      matches = record { chain = right v e l (end u); conditions = differ u v ∷ [] } ∷ record { chain = end v; conditions = [] } ∷ [];
      returns = u ∷ [];
    })
unfolding computing
text_example = refl
