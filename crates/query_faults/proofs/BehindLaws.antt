-- What is known behind each kind of piece, its names put in.
use mathlib.Core.Path.{◌≡◌}
use mathlib.Core.List.{List, [], ◌∷◌, ◌++◌}
use mathlib.Core.Bool.{Bool, true, false}
use Rattle.model.specs.Bytes.{Bytes}
use Rattle.model.specs.Book.{Book}
use Rattle.model.specs.QueryText.{Condition}
use Rattle.model.specs.Grammar.{Piece, start, goes, comes, asks, returns}
use Rattle.query_pieces.specs.Named.{vertex_in, edge_in, return_in}
use Rattle.query_pieces.specs.Steps.{piece_of}
use Rattle.model.specs.Answers.{name_at}
use Rattle.query_pieces.specs.declared.Link.{Link}
use Rattle.query_pieces.specs.declared.Piece.{Piece as PieceData}
use Rattle.query_pieces.specs.declared.Piece.TheVariants as piece
use Rattle.names_met.specs.Table.{Holds}
use Rattle.names_met.proofs.TableLaws.{holds_same}
use Rattle.query_faults.specs.Behind.{Behind}
use Rattle.query_survey.specs.Known.{Table}
use Rattle.query_survey.specs.Names.{name_in, names_in}
use Rattle.query_survey.specs.declared.Which.TheVariants.{Vertex, Edge, Returned}
use Rattle.query_faults.specs.declared.Passed.{Passed}
use Rattle.query_survey.specs.declared.Survey.{Survey}
use Rattle.query_survey.specs.Survey.{surveyed}

module _ (b : Book) (s : Bytes) (done : List Piece) (t : Survey) (vertices edges returned : Table) (r : Passed) where
  abbrev Seen : Piece → Type 0
  Seen p = (rest : List Piece) → r.survey ≡ surveyed b done t p rest

  abbrev Vertices : List Bytes → Type 0
  Vertices names = Holds s vertices r.met.vertices names

  abbrev Edges : List Bytes → Type 0
  Edges names = Holds s edges r.met.edges names

  abbrev Returns : List Bytes → Type 0
  Returns names = Holds s returned r.met.returned names

  abbrev Now : Piece → Type 0
  Now p = Behind b s done t p vertices edges returned r

  pub behind_start : (v : Bytes) → Seen (start v) → Vertices (names_in Vertex done ++ (v ∷ [])) → Edges (names_in Edge done)
      → Returns (names_in Returned done) → Now (start v)
  unfolding name_in vertex_in edge_in return_in
  behind_start v k hv he hr = record { seen = k; vertex_names = hv; edge_names = holds_same s edges _ _ he; return_names = holds_same s returned _ _ hr }

  pub behind_link : (e l v : Bytes) → ((rest : List Piece)
      → (r.survey ≡ surveyed b done t (goes e l v) rest) × (r.survey ≡ surveyed b done t (comes e l v) rest))
      → Vertices (names_in Vertex done ++ (v ∷ [])) → Edges (names_in Edge done ++ (e ∷ [])) → Returns (names_in Returned done)
      → Now (goes e l v) × Now (comes e l v)
  unfolding name_in vertex_in edge_in return_in
  behind_link e l v k hv he hr = (
    record { seen = λ rest. (k rest).0; vertex_names = hv; edge_names = he; return_names = holds_same s returned _ _ hr },
    record { seen = λ rest. (k rest).1; vertex_names = hv; edge_names = he; return_names = holds_same s returned _ _ hr },
  )

  pub behind_asks : (c : Condition) → Seen (asks c) → Vertices (names_in Vertex done) → Edges (names_in Edge done) → Returns (names_in Returned done)
      → Now (asks c)
  unfolding name_in vertex_in edge_in return_in
  behind_asks c k hv he hr = record {
    seen = k;
    vertex_names = holds_same s vertices _ _ hv;
    edge_names = holds_same s edges _ _ he;
    return_names =
        holds_same s returned _ _ hr;
  }

  pub behind_return : (v : Bytes) → Seen (returns v) → Vertices (names_in Vertex done) → Edges (names_in Edge done)
      → Returns (names_in Returned done ++ (v ∷ [])) → Now (returns v)
  unfolding name_in vertex_in edge_in return_in
  behind_return v k hv he hr = record { seen = k; vertex_names = holds_same s vertices _ _ hv; edge_names = holds_same s edges _ _ he; return_names = hr }

  -- a link, whichever way it points
  pub behind_linked : (l : Link) → Now (goes (name_at s l.edge) (name_at s l.label) (name_at s l.vertex))
      × Now (comes (name_at s l.edge) (name_at s l.label) (name_at s l.vertex)) → (points : Bool) → Now (piece_of s (piece.Linked points l))
  unfolding piece_of
  behind_linked l k true = k.0
  behind_linked l k false = k.1

  -- a piece that is of a kind
  pub behind_is : (p q : PieceData) → p ≡ q → Now (piece_of s q) → Now (piece_of s p)
  behind_is p q e k = rw e k
