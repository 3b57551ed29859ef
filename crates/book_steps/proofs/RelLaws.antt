-- Lines of relationships: each fault, and the line added.
use Prim.Native.Nat.{ℕ, ◌+◌, ◌*◌, ◌≤◌, ◌<◌}
use mathlib.Core.Path.{◌≡◌, refl, sym, ap, ◌∙◌}
use mathlib.Core.List.{List, map}
use mathlib.Core.Bool.{Bool, true, false, not, ◌||◌, ◌&&◌}
use native.Mathlib.Omega.{arith}
use lib.Dec.{leb, ltb}
use Rattle.std.specs.Prelude.{Option, None, Some}
use borrow.Author.Tests.{lt-ltb, le-ltb, leb-false, ltb-false}
use Rattle.logic.specs.Flags.{neither}
use Rattle.model.specs.Bytes.{Bytes}
use Rattle.model.specs.Lists.{all}
use Rattle.model.specs.Names.{mem, twice, place}
use Rattle.model.specs.Refusal.{lowest}
use Rattle.model.specs.Lines.{fault, known}
use Rattle.model.specs.Values.{Entry}
use Rattle.model.specs.Book.{Book, node_names}
use Rattle.model.specs.BookLines.{rel}
use Rattle.model.specs.ReadBook.{suits, undeclared, related, rel_fault, line_fault}
use Rattle.book_tables.specs.declared.BookCounts.{BookCounts}
use Rattle.book_tables.specs.declared.NameRule.{NameRule}
use Rattle.book_tables.specs.declared.Owner.TheVariants.{Relationship}
use Rattle.book_tables.specs.Alike.{alike}
use Rattle.book_tables.specs.Layout.{eattr_names, label_names}
use Rattle.book_tables.specs.View.{name_of, book_at}
use Rattle.book_tables.specs.Fits.{Fits}
use Rattle.book_tables.specs.Owners.{more_owners}
use Rattle.book_tables.specs.Stores.{with_owner}
use Rattle.book_tables.proofs.NameLaws.{mem_place, length_names, place_named}
use Rattle.book_tables.proofs.OwnerAdded.{rel_added}
use Rattle.book_entries.specs.declared.EntriesRead.{EntriesRead}
use Rattle.book_entries.specs.Faults.{entries_fault}
use Rattle.book_entries.specs.Known.{EntriesKnown}
use Rattle.book_steps.specs.Steps.{step_of, owner_fault}
use Rattle.book_steps.proofs.StepLaws.{step_fault, step_added}
use Rattle.book_steps.proofs.OwnerLaws.{numbered, table, owner_fine, holds, rels_count, node_mem}

-- one of three names is missing
some_missing : (a b c u : Bool) → (a && b && c) ≡ false → (not a || not b || not c || u) ≡ true
some_missing true true true u h = absurd (let z : ◌≡◌ {A = ℕ} 0 1 = cc in omega arith)
some_missing true true false u h = refl
some_missing true false true u h = refl
some_missing true false false u h = refl
some_missing false true true u h = refl
some_missing false true false u h = refl
some_missing false false true u h = refl
some_missing false false false u h = refl

module _ (rule : NameRule) (text : Bytes) (words : List ℕ) (c : BookCounts) (fits : Fits text words c) (read : EntriesRead) (es : List Entry)
    (label from to : Bytes) where
  abbrev book : Book
  book = book_at text words c

  label_mem : (l : ℕ) → l ≡ place label book.labels → mem label book.labels ≡ ltb l c.labels
  unfolding book_at
  label_mem l e = mem_place label book.labels ∙ rw (e, length_names text words label_names c.labels)

  rel_missing : (mem label book.labels && mem from (node_names book) && mem to (node_names book)) ≡ false → step_of rule book (rel label from to es) ≡ fault 4
  unfolding line_fault rel_fault lowest
  rel_missing h = step_fault rule book (rel label from to es) 4
      (rw (some_missing (mem label book.labels) (mem from (node_names book)) (mem to (node_names book)) (undeclared book.eattrs es) h))

  pub label_missing : (l : ℕ) → l ≡ place label book.labels → c.labels ≤ l → step_of rule book (rel label from to es) ≡ fault 4
  label_missing l e h = rel_missing (rw (label_mem l e, le-ltb l c.labels h))

  pub from_missing : (x : ℕ) → x ≡ place from (node_names book) → c.nodes ≤ x → step_of rule book (rel label from to es) ≡ fault 4
  from_missing x e h = rel_missing (rw (node_mem text words c fits read es from x e, le-ltb x c.nodes h)
      (middle (mem label book.labels) (mem to (node_names book))))
    where
      middle : (a b : Bool) → (a && false && b) ≡ false
      middle true b = refl
      middle false b = refl

  pub to_missing : (y : ℕ) → y ≡ place to (node_names book) → c.nodes ≤ y → step_of rule book (rel label from to es) ≡ fault 4
  to_missing y e h = rel_missing (rw (node_mem text words c fits read es to y e, le-ltb y c.nodes h)
      (last (mem label book.labels && mem from (node_names book))))
    where
      last : (a : Bool) → (a && false) ≡ false
      last true = refl
      last false = refl

  module _ (l x y : ℕ) (el : l ≡ place label book.labels) (ex : x ≡ place from (node_names book)) (ey : y ≡ place to (node_names book))
      (lin : l < c.labels) (xin : x < c.nodes) (yin : y < c.nodes) where
    pub labelled : name_of text words label_names l ≡ label
    unfolding book_at
    labelled = rw el (place_named text words label_names c.labels label (rw (← el) lin))

    module _ (after : EntriesKnown text words c eattr_names c.eattrs es read) (there : Bool)
        (is-there : there ≡ related book (name_of text words label_names l) x y) where
      abbrev full : Bool
      full = leb 1024 c.relationships || ltb 2048 (c.entries + read.count)

      there_related : related book label (place from (node_names book)) (place to (node_names book)) ≡ there
      there_related = sym (is-there ∙ rw (labelled, ex, ey))

      rel_fault_law : line_fault (alike rule) book (rel label from to es) ≡ numbered (owner_fault there read.fault full)
      unfolding line_fault rel_fault entries_fault book_at
      rel_fault_law =
          rw (
            label_mem l el,
            lt-ltb l c.labels lin,
            node_mem text words c fits read es from x ex,
            lt-ltb x c.nodes xin,
            node_mem text words c fits read es to y ey,
            lt-ltb y c.nodes yin,
            there_related,
            rels_count text words c fits read es,
            fits.counted,
            ← after.count,
          )
          (table (undeclared book.eattrs es) there (twice (map (λ e. e.attr) es)) (all (suits book.eattrs) es) full
          ∙ ap (λ (n : Option ℕ). numbered (owner_fault there n full)) (sym after.fault))

      pub rel_refused : (n : ℕ) → Some n ≡ owner_fault there read.fault full → step_of rule book (rel label from to es) ≡ fault n
      rel_refused n e = step_fault rule book (rel label from to es) n (rel_fault_law ∙ rw (← e))

      pub rel_fine : owner_fault there read.fault full ≡ None
          → (step_of rule book (rel label from to es)
          ≡ known (book_at text (with_owner words c Relationship (l * 65536 + x * 256 + y) x read.count) (more_owners Relationship c read.count)))
          × Fits text (with_owner words c Relationship (l * 65536 + x * 256 + y) x read.count) (more_owners Relationship c read.count)
      rel_fine z =
          let ok = owner_fine there read.fault full z in
          let r = neither (leb 1024 c.relationships) (ltb 2048 (c.entries + read.count)) ok.room in
          let few = leb-false 1024 c.relationships r.0 in
          let q = ltb-false 2048 (c.entries + read.count) r.1 in
          let k = after.count in
          let h = rel_added text words c book (holds text words c fits read es) es (omega arith) l x y label from to few lin xin yin labelled (sym ex) (sym ey)
          (after.stored ok.none (omega arith)) in
          (step_added rule book (rel label from to es) _ (rel_fault_law ∙ rw z) (rw k h.is), rw k h.fits)
