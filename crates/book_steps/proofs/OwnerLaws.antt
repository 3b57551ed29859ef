-- Lines of nodes and relationships: each fault, and the line added.
use Prim.Native.Nat.{ℕ, ◌+◌, ◌*◌, ◌≤◌, ◌<◌}
use mathlib.Core.Path.{◌≡◌, refl, sym, ap, ◌∙◌}
use mathlib.Core.List.{List, [], ◌∷◌, map}
use mathlib.Core.Bool.{Bool, true, false, not, ◌||◌}
use native.Mathlib.Omega.{arith}
use lib.ListN.{length}
use lib.Dec.{leb, ltb, eqb}
use borrow.Author.Tests.{leb-false, ltb-false}
use Rattle.std.specs.Prelude.{Option, None, Some}
use Rattle.logic.specs.Flags.{neither}
use Rattle.model.specs.Bytes.{Bytes}
use Rattle.model.specs.Choice.{pick, Maybe, nothing, just}
use Rattle.model.specs.Lists.{all}
use Rattle.model.specs.Names.{mem, twice, place}
use Rattle.model.specs.Refusal.{lowest, ◌if◌}
use Rattle.model.specs.Lines.{fault, known}
use Rattle.model.specs.Values.{Entry}
use Rattle.model.specs.Book.{Book, node_names}
use Rattle.model.specs.BookLines.{node}
use Rattle.model.specs.ReadBook.{suits, undeclared, node_fault, line_fault, add_line}
use Rattle.model.specs.Answers.{name_at}
use Rattle.model.specs.declared.Part.{Part}
use Rattle.book_tables.specs.declared.BookCounts.{BookCounts}
use Rattle.book_tables.specs.declared.NameRule.{NameRule}
use Rattle.book_tables.specs.declared.Owner.TheVariants.{Node}
use Rattle.book_tables.specs.Layout.{vattr_names, node_names as nodes_at}
use Rattle.book_tables.specs.View.{slot_in, node_of, rel_of, book_at}
use Rattle.book_tables.specs.Fits.{Fits, Holds}
use Rattle.book_tables.specs.Owners.{more_owners}
use Rattle.book_tables.specs.Stores.{with_owner}
use Rattle.book_tables.proofs.ListedLaws.{length_listed}
use Rattle.book_tables.specs.Alike.{alike, NodeAlike}
use Rattle.book_tables.proofs.AlikeLaws.{alike_there, taken_mem}
use Rattle.book_tables.proofs.NameLaws.{mem_place, length_names, node_names_law}
use Rattle.book_tables.proofs.OwnerAdded.{node_added}
use Rattle.book_entries.specs.declared.EntriesRead.{EntriesRead}
use Rattle.book_entries.specs.Faults.{entries_fault}
use Rattle.book_entries.specs.Known.{EntriesKnown}
use Rattle.book_steps.specs.Steps.{step_of, NameAsked, owner_fault}
use Rattle.book_steps.proofs.StepLaws.{step_fault, step_added, word_name, word_new}

-- a fault, as the definitions have it
abbrev pub numbered : Option ℕ → Maybe ℕ
numbered None = nothing
numbered (Some n) = just n

-- the table of a node or a relationship: its entries' three tests, whether it is there, whether a count passes its limit
pub table : (u there t s full : Bool)
    → lowest ((4 if u) ∷ (5 if (there || t)) ∷ (6 if not s) ∷ (7 if full) ∷ []) ≡ numbered (owner_fault there (pick u (Some 4) (pick t (Some 5) (pick s None (Some 6)))) full)
unfolding lowest owner_fault
table true there t s full = refl
table false true true s full = refl
table false true false true full = refl
table false true false false full = refl
table false false true s full = refl
table false false false true true = refl
table false false false true false = refl
table false false false false full = refl

-- no fault: not there, none of its entries, no limit passed
pub record Fine (there : Bool) (own : Option ℕ) (full : Bool) : Type 0 where
  pub new : there ≡ false
  pub none : own ≡ None
  pub room : full ≡ false

pub owner_fine : (there : Bool) (own : Option ℕ) (full : Bool) → owner_fault there own full ≡ None → Fine there own full
unfolding owner_fault
owner_fine true None full h = absurd cc
owner_fine false None true h = absurd cc
owner_fine false None false h = record { new = refl; none = refl; room = refl }
owner_fine there (Some n) full h = absurd (some (eqb n 4) there h)
  where
    some : (four there : Bool) → ◌≡◌ {A = Option ℕ} (pick four (Some n) (pick there (Some 5) (Some n))) None → ⊥
    some true there q = cc
    some false true q = cc
    some false false q = cc

module _ (text : Bytes) (words : List ℕ) (c : BookCounts) (fits : Fits text words c) (read : EntriesRead) (es : List Entry) where
  abbrev book : Book
  book = book_at text words c

  pub holds : Holds text words c book
  holds = record { fits = fits; is = refl }

  pub nodes_length : length (node_names book) ≡ c.nodes
  nodes_length = ap length (node_names_law text words c) ∙ length_names text words nodes_at c.nodes

  nodes_count : length book.nodes ≡ c.nodes
  unfolding book_at
  nodes_count = length_listed (node_of text words) c.nodes

  pub rels_count : length book.rels ≡ c.relationships
  unfolding book_at
  rels_count = length_listed (rel_of text words) c.relationships

  -- a node's number is inside exactly if its name is declared
  pub node_mem : (n : Bytes) (a : ℕ) → a ≡ place n (node_names book) → mem n (node_names book) ≡ ltb a c.nodes
  node_mem n a e = mem_place n (node_names book) ∙ rw (e, nodes_length)

  module _ (rule : NameRule) (name : Part) (asked : NameAsked text name) (after : EntriesKnown text words c vattr_names c.vattrs es read)
      (a : ℕ) (found : NodeAlike rule text words c (name_at text name) a) where
    abbrev full : Bool
    full = leb 256 c.nodes || ltb 2048 (c.entries + read.count)

    node_fault_law : line_fault (alike rule) book (node (name_at text name) es) ≡ numbered (owner_fault (ltb a c.nodes) read.fault full)
    unfolding line_fault node_fault entries_fault book_at
    node_fault_law =
        rw (alike_there rule text words c (name_at text name) a found, nodes_count, fits.counted, ← after.count)
        (table (undeclared book.vattrs es) (ltb a c.nodes) (twice (map (λ e. e.attr) es)) (all (suits book.vattrs) es) full
        ∙ ap (λ (n : Option ℕ). numbered (owner_fault (ltb a c.nodes) n full)) (sym after.fault))

    pub node_refused : (n : ℕ) → Some n ≡ owner_fault (ltb a c.nodes) read.fault full → step_of rule book (node (name_at text name) es) ≡ fault n
    node_refused n e = step_fault rule book (node (name_at text name) es) n (node_fault_law ∙ rw (← e))

    pub node_fine : owner_fault (ltb a c.nodes) read.fault full ≡ None
        → (step_of rule book (node (name_at text name) es)
        ≡ known (book_at text (with_owner words c Node (name.start * 32 + name.length) (slot_in text (name.start * 32 + name.length)) read.count)
        (more_owners Node c read.count)))
        × Fits text (with_owner words c Node (name.start * 32 + name.length) (slot_in text (name.start * 32 + name.length)) read.count)
        (more_owners Node c read.count)
    node_fine z =
        let ok = owner_fine (ltb a c.nodes) read.fault full z in
        let r = neither (leb 256 c.nodes) (ltb 2048 (c.entries + read.count)) ok.room in
        let few = leb-false 256 c.nodes r.0 in
        let q = ltb-false 2048 (c.entries + read.count) r.1 in
        let k = after.count in
        let h = node_added text words c book holds es (omega arith) (name.start * 32 + name.length) few
        (word_new text name asked (node_names book)
        (taken_mem rule (name_at text name) (node_names book) (alike_there rule text words c (name_at text name) a found ∙ ok.new)))
        (after.stored ok.none (omega arith)) in (
          step_added rule book (node (name_at text name) es) _ (node_fault_law ∙ rw z)
              (rw k (h.is ∙ ap (λ (n : Bytes). add_line book (node n es)) (word_name text name asked))),
          rw k h.fits,
        )

-- without a fault there is room
pub owner_room : (there : Bool) (own : Option ℕ) (full : Bool) (count limit total : ℕ)
    → owner_fault there own full ≡ None → full ≡ (leb limit count || ltb 2048 total) → (count < limit) × (total ≤ 2048)
owner_room there own full count limit total z e =
    let ok = owner_fine there own full z in
    let r = neither (leb limit count) (ltb 2048 total) (sym e ∙ ok.room) in
    (leb-false limit count r.0, ltb-false 2048 total r.1)
