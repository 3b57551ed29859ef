-- What every accepted book is, so that the text written for it reads back as it.
use Prim.Native.Nat.{◌≤◌, ◌<◌}
use mathlib.Core.Path.{◌≡◌}
use mathlib.Core.List.{List, [], ◌∷◌, map}
use mathlib.Core.Bool.{Bool, true, false, ◌&&◌}
use lib.ListN.{length}
use lib.Dec.{T, eqb}
use Rattle.model.specs.Bytes.{same}
use Rattle.model.specs.Limits.{max_nodes, max_relationships, max_entries, max_declared}
use Rattle.model.specs.Lists.{all}
use Rattle.model.specs.Names.{Name, mem, twice, same_but_case}
use Rattle.model.specs.Lines.{Line}
use Rattle.model.specs.Values.{Entry}
use Rattle.model.specs.Book.{Attr, Node, Rel, Book, attr_names, node_names, entry_count}
use Rattle.model.specs.BookLines.{label, BookLine, vattr, eattr, node, rel}
use Rattle.model.specs.ReadBook.{suits}
use Rattle.model.specs.Graph.{Each}
use Rattle.model.specs.Tidy.{list_text, item_texts}
use Rattle.model.proofs.WrittenConditions.{IsName, WritableValue}

-- no element of a list is like an earlier one, by a test of a later and an earlier element
abbrev pub NoneAlike : {A : Type 0} → (A → A → Bool) → List A → Type 0
NoneAlike alike [] = Unit {0}
NoneAlike alike (x ∷ xs) = Each (λ y. T (alike y x) → ⊥) xs × NoneAlike alike xs

-- the names that are declared of one kind
pub record NamesMade (names : List Name) : Type 0 where
  pub each : Each IsName names
  pub apart : NoneAlike same names
  pub few : length names ≤ max_declared

-- the entries of a node or a relationship, by the attributes declared for it
pub record EntriesMade (ds : List Attr) (es : List Entry) : Type 0 where
  pub values : Each (λ e. WritableValue e.value) es
  pub once : twice (map (λ e. e.attr) es) ≡ false
  pub suited : all (suits ds) es ≡ true

-- the same label runs between the same nodes
abbrev pub same_run : Rel → Rel → Bool
same_run r t = same t.label r.label && eqb t.from r.from && eqb t.to r.to

-- a relationship: its label is declared, its ends are nodes
pub record RelMade (b : Book) (r : Rel) : Type 0 where
  pub label : mem r.label b.labels ≡ true
  pub from : r.from < length b.nodes
  pub to : r.to < length b.nodes
  pub entries : EntriesMade b.eattrs r.entries

-- a book
pub record Made (b : Book) : Type 0 where
  pub vattrs : NamesMade (attr_names b.vattrs)
  pub eattrs : NamesMade (attr_names b.eattrs)
  pub labels : NamesMade b.labels
  pub names : Each IsName (node_names b)
  pub nodes_apart : NoneAlike same_but_case (node_names b)
  pub nodes_few : length b.nodes ≤ max_nodes
  pub of_nodes : Each (λ (n : Node). EntriesMade b.vattrs n.entries) b.nodes
  pub rels : Each (RelMade b) b.rels
  pub rels_apart : NoneAlike same_run b.rels
  pub rels_few : length b.rels ≤ max_relationships
  pub entries_few : entry_count b ≤ max_entries

-- an entry that can be written
abbrev pub EntryMade : Entry → Type 0
EntryMade e = IsName e.attr × WritableValue e.value

-- a line that can be written
abbrev pub LineMade : BookLine → Type 0
LineMade (vattr n k) = IsName n
LineMade (eattr n k) = IsName n
LineMade (label n) = IsName n
LineMade (node n es) = IsName n × Each EntryMade es
LineMade (rel l x y es) = IsName l × IsName x × IsName y × Each EntryMade es

-- the line as it is written, without its line feed
abbrev pub written : BookLine → Line
written l = record { bytes = list_text (item_texts l); ended = true }
