-- What the tables of names have at a piece.
use Rattle.std.specs.Prelude.{ℕ, List}
use Rattle.model.specs.Bytes.{Bytes}
use Rattle.model.specs.Grammar.{Piece}
use Rattle.names_met.specs.Table.{Holds}
use Rattle.query_survey.specs.Names.{names_in}
use Rattle.query_survey.specs.declared.Which.TheVariants.{Vertex, Edge}
use Rattle.query_survey.specs.declared.Met.{Met}

-- a table of names: its words
abbrev pub Table : Type 0
Table = List ℕ

-- the vertices and edge variables of these pieces
pub record Known (s : Bytes) (vertices edges : Table) (met : Met) (done : List Piece) : Type 0 where
  pub vertex_names : Holds s vertices met.vertices (names_in Vertex done)
  pub edge_names : Holds s edges met.edges (names_in Edge done)
