-- The faults 4, 5, 6 and 8 of a list of pieces, each found at some piece from what stands before it and after it.
use Rattle.std.specs.Prelude.{List, [], ◌∷◌, ◌++◌, Bool, true, false, not, ◌||◌}
use Rattle.model.specs.Choice.{pick}
use Rattle.model.specs.Names.{mem}
use Rattle.model.specs.Book.{Book}
use Rattle.model.specs.Grammar.{Piece, start, goes, comes, asks, returns}
use Rattle.model.specs.ReadQuery.{unknown, mistyped, from_itself}
use Rattle.query_pieces.specs.Named.{vertices_in, edges_in, returns_in}

-- a test of a piece: of the pieces before it, of itself, of the pieces after it
abbrev pub Test : Type 0
Test = List Piece → Piece → List Piece → Bool

-- a test holds at some piece, behind the pieces that are done
unfoldable pub some_where : Test → List Piece → List Piece → Bool
some_where t done [] = false
some_where t done (p ∷ ps) = let later = some_where t (done ++ (p ∷ [])) ps in pick (t done p ps) true later

-- 4: a name that is not declared, in a text of these pieces
unfoldable pub undeclared_at : Book → List Piece → Test
undeclared_at b text done (start v) rest = false
undeclared_at b text done (goes e l v) rest = not (mem l b.labels)
undeclared_at b text done (comes e l v) rest = not (mem l b.labels)
undeclared_at b text done (asks c) rest = unknown b c (vertices_in done) (edges_in done)
undeclared_at b text done (returns v) rest = not (mem v (vertices_in text))

-- 5: an edge variable in two places or also a vertex variable; a name returned twice
unfoldable pub twice_at : List Piece → Test
twice_at text done (start v) rest = false
twice_at text done (goes e l v) rest = mem e (edges_in rest) || mem e (vertices_in text)
twice_at text done (comes e l v) rest = mem e (edges_in rest) || mem e (vertices_in text)
twice_at text done (asks c) rest = false
twice_at text done (returns v) rest = mem v (returns_in rest)

-- 6: a relation or value that is not of the declared type
unfoldable pub mistyped_at : Book → Test
mistyped_at b done (start v) rest = false
mistyped_at b done (goes e l v) rest = false
mistyped_at b done (comes e l v) rest = false
mistyped_at b done (asks c) rest = mistyped b c (vertices_in done) (edges_in done)
mistyped_at b done (returns v) rest = false

-- 8: a vertex excluded from itself
unfoldable pub from_itself_at : Test
from_itself_at done (start v) rest = false
from_itself_at done (goes e l v) rest = false
from_itself_at done (comes e l v) rest = false
from_itself_at done (asks c) rest = from_itself c
from_itself_at done (returns v) rest = false
