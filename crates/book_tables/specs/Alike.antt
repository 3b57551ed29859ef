-- Which names are taken for the same: the very name, or names that are equal but for the case of letters.
use Rattle.std.specs.Prelude.{ℕ, ◌≤◌, ◌<◌, ◌≡◌, List, Bool, true, false}
use Rattle.model.specs.Bytes.{Bytes, same}
use Rattle.model.specs.Lists.{any}
use Rattle.model.specs.Names.{same_but_case}
use Rattle.model.specs.Book.{node_names}
use Rattle.model.specs.ReadBook.{NamesAlike}
use Rattle.book_tables.specs.declared.BookCounts.{BookCounts}
use Rattle.book_tables.specs.declared.NameRule.{NameRule}
use Rattle.book_tables.specs.declared.NameRule.TheVariants.{Exact, AnyCase}
use Rattle.book_tables.specs.Layout as layout
use Rattle.book_tables.specs.View.{name_of, book_at}

-- the same by a rule
abbrev pub alike : NameRule → NamesAlike
alike Exact = same
alike AnyCase = same_but_case

-- a name is taken for one of these by a rule
abbrev pub taken : NameRule → Bytes → List Bytes → Bool
taken rule n ns = any (alike rule n) ns

-- a node whose name is taken for this one, or how many nodes there are if there is none
pub record NodeAlike (rule : NameRule) (text : Bytes) (words : List ℕ) (c : BookCounts) (name : Bytes) (r : ℕ) : Type 0 where
  pub inside : r ≤ c.nodes
  pub found : r < c.nodes → alike rule name (name_of text words layout.node_names r) ≡ true
  pub absent : c.nodes ≤ r → taken rule name (node_names (book_at text words c)) ≡ false
