-- Names, and names in lists: membership, repeats, places, first appearances; names that are equal but for the case of letters.
use Rattle.std.specs.Prelude.{ℕ, ◌+◌, List, [], ◌∷◌, map, Bool, true, false, ◌&&◌, leb}
use Rattle.model.specs.Bytes.{Bytes, same}
use Rattle.model.specs.Choice.{pick}
use Rattle.model.specs.Lists.{any, place_where, add_new_by, firsts_by}

-- a name is the bytes of a word
abbrev pub Name : Type 0
Name = Bytes

-- a name is one of a list
unfoldable pub mem : Name → List Name → Bool
mem w ws = any (same w) ws

-- some name stands a second time
unfoldable pub twice : List Name → Bool
twice [] = false
twice (w ∷ ws) = let rest = twice ws in pick (mem w ws) true rest

-- the place of a name in a list, counted from 0; the list's length if it is not there
unfoldable pub place : Name → List Name → ℕ
place w ws = place_where (same w) ws

-- a name put behind a list that has it not yet
abbrev pub add_new : List Name → Name → List Name
add_new ws w = add_new_by same ws w

-- every name once, in order of first appearance, behind those seen already
abbrev pub firsts : List Name → List Name → List Name
firsts seen ws = firsts_by same seen ws

-- a byte, an upper case letter (A to Z, 65 to 90) as the lower case one
unfoldable pub lowered : ℕ → ℕ
lowered b = pick (leb 65 b && leb b 90) (b + 32) b

-- two names are equal but for the case of their letters
unfoldable pub same_but_case : Name → Name → Bool
same_but_case a b = same (map lowered a) (map lowered b)
