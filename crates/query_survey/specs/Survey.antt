-- One walk over the pieces of a text: what is known behind each piece, and the fault that it comes to.
use Rattle.std.specs.Prelude.{ℕ, ◌-◌, List, [], ◌∷◌, ◌++◌, Bool, true, false, not, ◌||◌, eqb}
use Rattle.model.specs.Choice.{pick}
use Rattle.model.specs.Names.{mem}
use Rattle.model.specs.Book.{Book}
use Rattle.model.specs.Grammar.{Piece, start, goes, comes, asks, returns}
use Rattle.model.specs.ReadQuery.{unknown}
use Rattle.query_pieces.specs.Named.{vertices_in, edges_in, returns_in}
use Rattle.query_pieces.specs.Faults.{Test, mistyped_at, from_itself_at}
use Rattle.query_survey.specs.Counting.{new_vertex, an_edge, an_exclusion, a_requirement, a_return}
use Rattle.query_survey.specs.declared.Survey.{Survey}

-- 4, by the pieces before: a returned name stands in one of them
unfoldable pub undeclared_by : Book → Test
undeclared_by b done (start v) rest = false
undeclared_by b done (goes e l v) rest = not (mem l b.labels)
undeclared_by b done (comes e l v) rest = not (mem l b.labels)
undeclared_by b done (asks c) rest = unknown b c (vertices_in done) (edges_in done)
undeclared_by b done (returns v) rest = not (mem v (vertices_in done))

-- 5, by the pieces before: the later of two places is found
unfoldable pub repeats : Test
repeats done (start v) rest = mem v (edges_in done)
repeats done (goes e l v) rest = mem e (edges_in done) || mem e (vertices_in done) || mem v (edges_in done ++ (e ∷ []))
repeats done (comes e l v) rest = mem e (edges_in done) || mem e (vertices_in done) || mem v (edges_in done ++ (e ∷ []))
repeats done (asks c) rest = false
repeats done (returns v) rest = mem v (returns_in done)

-- what is known behind a piece more; done are the pieces before it
unfoldable pub surveyed : Book → List Piece → Survey → Piece → List Piece → Survey
surveyed b done t p rest = record {
  undeclared = pick (undeclared_by b done p rest) true t.undeclared;
  twice = pick (repeats done p rest) true t.twice;
  mistyped = pick (mistyped_at b done p rest) true t.mistyped;
  itself = pick (from_itself_at done p rest) true t.itself;
  vertices = pick (new_vertex done p rest) (t.vertices - 1) t.vertices;
  edges = pick (an_edge done p rest) (t.edges - 1) t.edges;
  exclusions = pick (an_exclusion done p rest) (t.exclusions - 1) t.exclusions;
  requirements = pick (a_requirement done p rest) (t.requirements - 1) t.requirements;
  returns = pick (a_return done p rest) (t.returns - 1) t.returns;
}

-- what is known at the end, from what is known behind the pieces that are done
unfoldable pub survey_from : Book → Survey → List Piece → List Piece → Survey
survey_from b t done [] = t
survey_from b t done (p ∷ ps) = survey_from b (surveyed b done t p ps) (done ++ (p ∷ [])) ps

-- before the first piece: no fault; 8 vertices, 16 edges, 16 exclusions, 16 requirements, 4 Return names, and one more of each passes the limit
abbrev pub unseen : Survey
unseen = record {
  undeclared = false;
  twice = false;
  mistyped = false;
  itself = false;
  vertices = 9;
  edges = 17;
  exclusions = 17;
  requirements = 17;
  returns = 5;
}

-- a limit is passed
unfoldable pub over_limit : Survey → Bool
over_limit t = eqb t.vertices 0 || eqb t.edges 0 || eqb t.exclusions 0 || eqb t.requirements 0 || eqb t.returns 0

-- the lowest fault, 3 to 8, of a text that keeps the grammar to its end or not; 0 is none
unfoldable pub verdict : Bool → Survey → ℕ
verdict whole t =
    pick whole
    (pick t.undeclared 4 (pick t.twice 5 (pick t.mistyped 6 (pick (over_limit t) 7 (pick t.itself 8 0)))))
    3
