-- The edges found so far, by their names, and an edge by its numbers.
use Rattle.std.specs.Prelude.{ℕ, ◌<◌, ◌≤◌, List, map, take, get_or, replicate}
use Rattle.model.specs.Bytes.{Bytes}
use Rattle.model.specs.Names.{place}
use Rattle.model.specs.Book.{Book}
use Rattle.model.specs.Answers.{name_at}
use Rattle.model.specs.declared.Edge.{Edge}
use Rattle.model.specs.PlainData.{no_edge}
use Rattle.text.specs.Parts.{HasPart}
use Rattle.query_pieces.specs.declared.Link.{Link}
use Rattle.query.specs.declared.found.Found.{Found}

-- the edges found
abbrev pub Edges : Type 0
Edges = Found Edge 16

-- the variables of the edges found
abbrev pub edge_names_of : Bytes → Edges → List Bytes
edge_names_of s r = map (λ e. name_at s e.name) (take r.count r.items)

-- the edges found are few enough, the variable of each a part of the text
pub record EdgesInside (s : Bytes) (r : Edges) : Type 0 where
  pub few : r.count ≤ 16
  pub inside : (i : ℕ) → i < r.count → HasPart s (get_or r.items i no_edge).name

-- no edge
abbrev pub no_edges : Edges
no_edges = record { items = replicate 16 no_edge; count = 0 }

-- the edge of a link between two vertices by number, its label by its number in the book
abbrev pub edge_made : Book → Bytes → Link → ℕ → ℕ → Edge
edge_made b s link from to = record { name = link.edge; label = place (name_at s link.label) b.labels; from = from; to = to }
