-- Every label and attribute number in the woven words is of one that the book declares. What the words say is defined for any book, so it is
-- enough to look at a book that declares as many, all under one name: a number past them would say no name.
use Rattle.std.specs.Prelude.{ℕ, ◌≡◌, List, [], ◌∷◌}
use Rattle.model.specs.Bytes.{Bytes}
use Rattle.model.specs.Values.{ints}
use Rattle.model.specs.Book.{Attr, Book}
use Rattle.model.specs.Pattern.{PatternOver, Edge, Clause, excluded, vertex_has, edge_has}
use Rattle.model.specs.Graph.{Each}
use Rattle.book_tables.specs.Listed.{listed}
use Rattle.book_tables.specs.declared.BookCounts.{BookCounts}
use Rattle.woven_tables.specs.declared.WovenCounts.{WovenCounts}
use Rattle.woven_tables.specs.Tables.{woven_at}

-- the one name
abbrev pub a_name : Bytes
a_name = 97 ∷ []

-- so many attributes of that name
abbrev pub some_attrs : ℕ → List Attr
some_attrs n = listed (λ i. record { name = a_name; kind = ints }) n

-- a book that declares as many labels and attributes as are counted, all under one name
unfoldable pub one_named : BookCounts → Book
one_named k = record { vattrs = some_attrs k.vattrs; eattrs = some_attrs k.eattrs; labels = listed (λ i. a_name) k.labels; nodes = []; rels = [] }

-- a clause names an attribute that the book declares, if it names one
abbrev pub NamesOne : Clause → Type 0
NamesOne (excluded u v) = Unit {0}
NamesOne (vertex_has v a r x) = a ≡ a_name
NamesOne (edge_has e a r x) = a ≡ a_name

-- every edge and every clause of a pattern names what the book declares
pub record AllNamed {Vertex : Type 0} (p : PatternOver Vertex) : Type 0 where
  pub edges : Each (λ (e : Edge). e.label ≡ a_name) p.edges
  pub clauses : Each NamesOne p.clauses

-- so does the woven pattern in words
abbrev pub Declared : BookCounts → Bytes → Bytes → List ℕ → WovenCounts → Type 0
Declared k query rules woven c = AllNamed (woven_at (one_named k) query rules woven c)
