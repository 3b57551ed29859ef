-- Lines that declare a name: each fault, and the line added.
use Prim.Native.Nat.{ℕ, ◌+◌, ◌*◌, ◌/◌, ◌%◌, ◌≤◌, ◌<◌}
use mathlib.Core.Path.{◌≡◌, refl, ap, ◌∙◌}
use mathlib.Core.List.{List}
use mathlib.Core.Bool.{false}
use native.Mathlib.Omega.{arith}
use lib.ListN.{length}
use borrow.Author.Tests.{le-leb, lt-leb, lt-ltb, le-ltb}
use Rattle.model.specs.Bytes.{Bytes}
use Rattle.model.specs.Choice.{nothing, just}
use Rattle.model.specs.Names.{mem, place}
use Rattle.model.specs.Refusal.{lowest}
use Rattle.model.specs.Lines.{fault, known, fault_or}
use Rattle.model.specs.Values.{Kind}
use Rattle.model.specs.Book.{Book, attr_names}
use Rattle.model.specs.BookLines.{BookLine, label}
use Rattle.model.specs.ReadBook.{name_fault, line_fault, add_line}
use Rattle.model.specs.Answers.{name_at}
use Rattle.model.specs.declared.Part.{Part}
use Rattle.book_tables.specs.declared.BookCounts.{BookCounts}
use Rattle.book_tables.specs.declared.NameRule.{NameRule}
use Rattle.book_tables.specs.declared.Owner.{Owner}
use Rattle.book_tables.specs.declared.Owner.TheVariants.{Node, Relationship}
use Rattle.book_tables.specs.Alike.{alike}
use Rattle.book_tables.specs.Layout.{label_names}
use Rattle.book_tables.specs.View.{name_in, kind_in, book_at}
use Rattle.book_tables.specs.Fits.{Fits, Holds}
use Rattle.book_tables.specs.Owners.{tables_of, attrs_of, declares, more_attrs}
use Rattle.book_tables.specs.Stores.{more_labels, with_attr, with_label}
use Rattle.book_tables.proofs.NameLaws.{mem_place, length_names}
use Rattle.book_tables.proofs.OwnerLaws.{owner_declared}
use Rattle.book_tables.proofs.Added.{NewName, label_added, attr_added}
use Rattle.book_steps.specs.Steps.{step_of, NameAsked}

-- a name among names declared already: 5
pub name_twice : (n : Bytes) (ns : List Bytes) (count : ℕ) → length ns ≡ count → place n ns < count → name_fault n ns ≡ just 5
unfolding name_fault lowest
name_twice n ns count e l = rw (mem_place n ns, lt-ltb (place n ns) (length ns) (omega arith))

pub name_new : (n : Bytes) (ns : List Bytes) (count : ℕ) → length ns ≡ count → count ≤ place n ns → mem n ns ≡ false
name_new n ns count e l = mem_place n ns ∙ le-ltb (place n ns) (length ns) (omega arith)

-- a new name past the limit: 7
pub name_full : (n : Bytes) (ns : List Bytes) (count : ℕ) → length ns ≡ count → count ≤ place n ns → 32 ≤ count → name_fault n ns ≡ just 7
unfolding name_fault lowest
name_full n ns count e l m = rw (name_new n ns count e l, le-leb 32 (length ns) (omega arith))

pub name_fine : (n : Bytes) (ns : List Bytes) (count : ℕ) → length ns ≡ count → count ≤ place n ns → count < 32 → name_fault n ns ≡ nothing
unfolding name_fault lowest
name_fine n ns count e l m = rw (name_new n ns count e l, lt-leb 32 (length ns) (omega arith))

-- a line with a fault, and one without
pub step_fault : (rule : NameRule) (b : Book) (line : BookLine) (n : ℕ) → line_fault (alike rule) b line ≡ just n → step_of rule b line ≡ fault n
unfolding step_of fault_or
step_fault rule b line n e = rw e

pub step_added : (rule : NameRule) (b : Book) (line : BookLine) (b' : Book) → line_fault (alike rule) b line ≡ nothing → b' ≡ add_line b line
    → step_of rule b line ≡ known b'
unfolding step_of fault_or
step_added rule b line b' e q = rw (e, q)

-- the fault of a declared attribute is that of its name
declared_fault : (rule : NameRule) (b : Book) (o : Owner) (n : Bytes) (k : Kind)
    → line_fault (alike rule) b (declares o n k) ≡ name_fault n (attr_names (attrs_of o b))
unfolding line_fault
declared_fault rule b Node n k = refl
declared_fault rule b Relationship n k = refl

-- a name's word
module _ (text : Bytes) (name : Part) (asked : NameAsked text name) where
  abbrev name_word : ℕ
  name_word = name.start * 32 + name.length

  word_start : name_word / 32 ≡ name.start
  word_start = let s = asked.short in omega arith

  word_length : name_word % 32 ≡ name.length
  word_length = let s = asked.short in omega arith

  pub word_name : name_in text (name.start * 32 + name.length) ≡ name_at text name
  unfolding name_in name_at
  word_name = rw (word_start, word_length)

  pub word_new : (ns : List Bytes) → mem (name_at text name) ns ≡ false → NewName text ns (name.start * 32 + name.length)
  word_new ns e = record {
    inside = rw (word_start, word_length) asked.inside;
    new = rw word_name e;
  }

-- the lines that declare names
module _ (rule : NameRule) (text : Bytes) (words : List ℕ) (c : BookCounts) (name : Part) (asked : NameAsked text name) (fits : Fits text words c) where
  abbrev book : Book
  book = book_at text words c

  abbrev word : ℕ
  word = name.start * 32 + name.length

  holds : Holds text words c book
  holds = record { fits = fits; is = refl }

  labels_length : length book.labels ≡ c.labels
  unfolding book_at
  labels_length = length_names text words label_names c.labels

  module _ (a : ℕ) (found : a ≡ place (name_at text name) book.labels) where
    pub label_twice : a < c.labels → step_of rule book (label (name_at text name)) ≡ fault 5
    unfolding line_fault
    label_twice l = step_fault rule book (label (name_at text name)) 5 (name_twice (name_at text name) book.labels c.labels labels_length (rw (← found) l))

    pub label_full : c.labels ≤ a → 32 ≤ c.labels → step_of rule book (label (name_at text name)) ≡ fault 7
    unfolding line_fault
    label_full l m = step_fault rule book (label (name_at text name)) 7
        (name_full (name_at text name) book.labels c.labels labels_length (rw (← found) l) m)

    pub label_fine : c.labels ≤ a → c.labels < 32
        → (step_of rule book (label (name_at text name)) ≡ known (book_at text (with_label words c word) (more_labels c)))
        × Fits text (with_label words c word) (more_labels c)
    unfolding line_fault
    label_fine l m =
        let h = label_added text words c book holds word m
        (word_new text name asked book.labels (name_new (name_at text name) book.labels c.labels labels_length (rw (← found) l))) in (
          step_added rule book (label (name_at text name)) _ (name_fine (name_at text name) book.labels c.labels labels_length (rw (← found) l) m)
              (h.is ∙ ap (λ (n : Bytes). add_line book (label n)) (word_name text name asked)),
          h.fits,
        )

  module _ (o : Owner) (kind a : ℕ) (found : a ≡ place (name_at text name) (attr_names (attrs_of o book))) where
    abbrev names : List Bytes
    names = attr_names (attrs_of o book)

    abbrev line : BookLine
    line = declares o (name_at text name) (kind_in kind)

    size : length names ≡ (tables_of o c).declared
    size = owner_declared text words c o

    pub attr_twice : a < (tables_of o c).declared → step_of rule book line ≡ fault 5
    attr_twice l = step_fault rule book line 5
        (declared_fault rule book o (name_at text name) (kind_in kind) ∙ name_twice (name_at text name) names (tables_of o c).declared size (rw (← found) l))

    pub attr_full : (tables_of o c).declared ≤ a → 32 ≤ (tables_of o c).declared → step_of rule book line ≡ fault 7
    attr_full l m = step_fault rule book line 7
        (declared_fault rule book o (name_at text name) (kind_in kind) ∙ name_full (name_at text name) names (tables_of o c).declared size (rw (← found) l) m)

    abbrev stored : List ℕ
    stored = with_attr words (tables_of o c).attributes (tables_of o c).declared word kind

    pub attr_fine : (tables_of o c).declared ≤ a → (tables_of o c).declared < 32
        → (step_of rule book line ≡ known (book_at text stored (more_attrs o c))) × Fits text stored (more_attrs o c)
    attr_fine l m =
        let h = attr_added text words c book holds o word kind m
        (word_new text name asked names (name_new (name_at text name) names (tables_of o c).declared size (rw (← found) l))) in (
          step_added rule book line _ (declared_fault rule book o (name_at text name) (kind_in kind)
              ∙ name_fine (name_at text name) names (tables_of o c).declared size (rw (← found) l) m)
              (h.is ∙ ap (λ (n : Bytes). add_line book (declares o n (kind_in kind))) (word_name text name asked)),
          h.fits,
        )
