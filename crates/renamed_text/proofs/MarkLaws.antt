-- A name is marked by the number of its node. Assumes nothing.
use Prim.Native.Nat.{ℕ, ◌≤◌, ◌<◌}
use mathlib.Core.Path.{◌≡◌, ap, ◌∙◌}
use mathlib.Core.Bool.{Bool, false}
use mathlib.Core.List.{List}
use lib.ListN.{length, get_or}
use borrow.Author.Tests.{lt-ltb, le-ltb}
use Rattle.model.specs.Bytes.{Bytes}
use Rattle.model.specs.Names.{Name, place}
use Rattle.model.specs.Book.{node_names}
use Rattle.book_tables.specs.declared.BookCounts.{BookCounts}
use Rattle.book_tables.specs.View.{book_at}
use Rattle.book_tables.specs.Layout.{node_names as nodes_at}
use Rattle.book_tables.proofs.NameLaws.{length_names, node_names_law}
use Rattle.renamed_text.specs.Marks.{is_marked, marked_in}

module _ (text : Bytes) (words : List ℕ) (c : BookCounts) (marks : List Bool) (w : Name) (node : ℕ)
    (found : node ≡ place w (node_names (book_at text words c))) where
  nodes_length : length (node_names (book_at text words c)) ≡ c.nodes
  nodes_length = ap length (node_names_law text words c) ∙ length_names text words nodes_at c.nodes

  -- a node's mark
  pub mark_of : node < c.nodes → get_or marks node false ≡ marked_in text words c marks w
  unfolding is_marked
  mark_of l = rw (← found, nodes_length, lt-ltb node c.nodes l)

  -- no node has the name
  pub no_mark : c.nodes ≤ node → false ≡ marked_in text words c marks w
  unfolding is_marked
  no_mark g = rw (← found, nodes_length, le-ltb node c.nodes g)
