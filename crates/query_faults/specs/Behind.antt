-- What is known behind a piece, and what the tables of names have there.
use Rattle.std.specs.Prelude.{◌≡◌, List, ◌++◌}
use Rattle.model.specs.Bytes.{Bytes}
use Rattle.model.specs.Book.{Book}
use Rattle.model.specs.Grammar.{Piece}
use Rattle.names_met.specs.Table.{Holds}
use Rattle.query_survey.specs.Names.{name_in, names_in}
use Rattle.query_survey.specs.Known.{Table}
use Rattle.query_survey.specs.Survey.{surveyed}
use Rattle.query_survey.specs.declared.Which.TheVariants.{Vertex, Edge, Returned}
use Rattle.query_faults.specs.declared.Passed.{Passed}
use Rattle.query_survey.specs.declared.Survey.{Survey}

-- behind a piece more: the survey goes on from t, and the tables have the names of the piece too
pub record Behind (b : Book) (s : Bytes) (done : List Piece) (t : Survey) (p : Piece) (vertices edges returned : Table) (r : Passed) : Type 0 where
  pub seen : (rest : List Piece) → r.survey ≡ surveyed b done t p rest
  pub vertex_names : Holds s vertices r.met.vertices (names_in Vertex done ++ name_in Vertex p)
  pub edge_names : Holds s edges r.met.edges (names_in Edge done ++ name_in Edge p)
  pub return_names : Holds s returned r.met.returned (names_in Returned done ++ name_in Returned p)
