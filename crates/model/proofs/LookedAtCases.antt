-- How many entries are looked at, computed: of the nodes of a book, for attributes at every place of a line and for absent ones.
use Prim.Native.Nat.{ℕ}
use Prim.Native.String.{String}
use mathlib.Core.Path.{◌≡◌, refl}
use mathlib.Core.List.{List, [], ◌∷◌, map}
use Rattle.model.specs.Bytes.{bytes_of}
use Rattle.model.specs.Refusal.{Outcome, accepted, refused}
use Rattle.model.specs.Book.{Book}
use Rattle.model.specs.ReadBook.{read_book}
use Rattle.model.specs.Graph.{node_entries, looked_at}
use Rattle.model.specs.Computing.{computing}

-- a mast with three channels, not in the order of their declarations; a station without entries; one with a single entry
abbrev masts : String
masts = "(vattr kind str)\n(vattr rate int)\n(vattr open bool)\n(node mast (rate 5) (kind 'mast') (open true))\n(node bare)\n(node hub (kind 'hub'))\n"

-- a node, an attribute, and how many entries of the node are looked at for it
record Case : Type 0 where
  node : ℕ
  attribute : String
  looked : ℕ

abbrev cases : List Case
cases =
    record { node = 0; attribute = "rate"; looked = 1 }
    ∷ record { node = 0; attribute = "kind"; looked = 2 }
    ∷ record { node = 0; attribute = "open"; looked = 3 }
    ∷ record { node = 0; attribute = "Rate"; looked = 3 }
    ∷ record { node = 1; attribute = "rate"; looked = 0 }
    ∷ record { node = 2; attribute = "kind"; looked = 1 }
    ∷ record { node = 2; attribute = "open"; looked = 1 }
    ∷ []

-- how many are looked at in what a text is read as
abbrev asked : Outcome Book → Case → List ℕ
asked (accepted b) c = looked_at (node_entries b c.node) (bytes_of c.attribute) ∷ []
asked (refused r) c = []

pub looked_by_hand : map (asked (read_book (bytes_of masts))) cases ≡ map (λ c. c.looked ∷ []) cases
unfolding computing
looked_by_hand = refl
