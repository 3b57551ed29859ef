-- The entries at the end of a line, one after another.
use Prim.Native.Nat.{ℕ, ◌≤◌}
use mathlib.Core.Path.{◌≡◌, refl, sym, ap, ◌∙◌, subst}
use mathlib.Core.List.{List, [], ◌∷◌, ◌++◌, append_assoc, append-nil}
use mathlib.Core.Bool.{Bool, true, false}
use native.Mathlib.Omega.{arith}
use lib.ListN.{length}
use Rattle.std.specs.Prelude.{None, Option, Some}
use Rattle.bits.specs.WordLaws.{bit_zero}
use Rattle.model.specs.Bytes.{Bytes}
use Rattle.model.specs.Choice.{pick, Maybe, nothing, and_then}
use Rattle.model.specs.Lists.{any, all, each}
use Rattle.model.specs.Names.{mem, twice}
use Rattle.model.specs.Values.{Entry}
use Rattle.model.specs.Forms.{entry_of}
use Rattle.model.specs.BookLines.{BookLine}
use Rattle.model.specs.ReadBook.{undeclared}
use Rattle.model.specs.Answers.{name_at, value_of}
use Rattle.items.specs.declared.Next.{Next}
use Rattle.items.specs.declared.Next.TheVariants.{Item, Close}
use Rattle.item_forms.specs.declared.EntryParts.{EntryParts}
use Rattle.item_forms.specs.declared.Form.{Form}
use Rattle.item_forms.specs.Ends.{form_ends, form_at}
use Rattle.item_forms.specs.Forms.{on_entry}
use Rattle.item_forms.specs.Places.{EntryPlaces, EntryPlaced, NextEntry}
use Rattle.item_forms.proofs.ListLaws.{form_entries}
use Rattle.book_tables.specs.declared.BookCounts.{BookCounts}
use Rattle.book_tables.specs.Listed.{listed}
use Rattle.book_tables.specs.View.{entries_from}
use Rattle.book_tables.specs.Agree.{Agree}
use Rattle.book_tables.proofs.AgreeLaws.{agree_same, agree_trans}
use Rattle.book_entries.specs.declared.EntriesRead.{EntriesRead}
use Rattle.book_entries.specs.Faults.{entries_fault}
use Rattle.book_entries.specs.Known.{EntriesKnown, EntryAdded, entry_read}
use Rattle.book_lines.specs.Forms.{FormAsked}
use Rattle.book_lines.specs.Names.{moved_part}
use Rattle.book_lines.specs.Entries.{shift, entries_form, EntriesGot}
use Rattle.book_lines.proofs.PieceLaws.{name_moved, value_moved}

-- the rest of a form, by the next entry
abbrev rest_form : Form → Bytes → ℕ → (List Entry → Maybe BookLine) → Maybe BookLine
rest_form within line at k = form_at within true at line (λ is. and_then (each entry_of is) k)

module _ (within : Form) (line : Bytes) (at : ℕ) (r : Option (Next EntryParts)) (e : NextEntry within.inner line at r) where
  entry_on : (k : List Entry → Maybe BookLine) (p : EntryParts) → r ≡ Some (Item p)
      → rest_form within line at k ≡ rest_form within line p.next (λ es. k (record { attr = name_at line p.name; value = value_of line p.value } ∷ es))
  unfolding on_entry
  entry_on k p h = form_entries line within true at k ∙ rw (sym e.is ∙ h)

  entry_close : (k : List Entry → Maybe BookLine) (z : ℕ) → r ≡ Some (Close z) → rest_form within line at k ≡ pick (form_ends within line z) (k []) nothing
  unfolding on_entry
  entry_close k z h = form_entries line within true at k ∙ rw (sym e.is ∙ h)

  entry_none : (k : List Entry → Maybe BookLine) → r ≡ None → rest_form within line at k ≡ nothing
  unfolding on_entry
  entry_none k h = form_entries line within true at k ∙ rw (sym e.is ∙ h)

pub entry_stands : {d : ℕ} (line : Bytes) (at : ℕ) (r : Option (Next EntryParts)) → NextEntry d line at r
    → (p : EntryParts) → r ≡ Some (Item p) → EntryPlaces line at p.name p.value p.next
entry_stands line at r e p h = subst (EntryPlaced line at) h e.placed

-- where reading the entries stands: those read, and that the line goes on behind them
pub record Reading (within : Form) (text line : Bytes) (words words' : List ℕ) (c : BookCounts) (offset declared from at : ℕ)
    (known : EntriesRead) : Type 0 where
  pub got : List Entry
  pub form : (k : List Entry → Maybe BookLine) → entries_form within line from k ≡ rest_form within line at (λ es. k (got ++ es))
  pub after : EntriesKnown text words' c offset declared got known
  pub agrees : Agree c words words'
  pub few : known.count ≤ at
  pub inside : at ≤ length line

-- before the first entry
none_known : (text : Bytes) (words : List ℕ) (c : BookCounts) (offset declared : ℕ)
    → EntriesKnown text words c offset declared [] (record { fault = None; seen = 0; count = 0 })
unfolding entries_fault undeclared any all twice mem entries_from listed
none_known text words c offset declared = record {
  count = refl;
  fault = refl;
  seen = λ a l. bit_zero a;
  stored = λ z room. record { are = refl; each = λ i l. absurd (omega arith) };
}

module _ {within : Form} (text line : Bytes) (words : List ℕ) (c : BookCounts) (offset declared from : ℕ) where
  pub reading_starts : from ≤ length line → Reading within text line words words c offset declared from from (record { fault = None; seen = 0; count = 0 })
  reading_starts l = record {
    got = [];
    form = λ k. form_entries line within false from k ∙ sym (form_entries line within true from k);
    after = none_known text words c offset declared;
    agrees = agree_same c words;
    few = omega arith;
    inside = l;
  }

  module _ (words' : List ℕ) (at : ℕ) (known : EntriesRead) (reading : Reading within text line words words' c offset declared from at known)
      (r : Option (Next EntryParts)) (e : NextEntry within.inner line at r) where
    -- with one entry more
    pub reading_on : (base : ℕ) → FormAsked text line words c base → (words'' : List ℕ) (known' : EntriesRead) (p : EntryParts) → r ≡ Some (Item p)
        → EntryAdded text words' words'' c offset declared (moved_part base p.name) (shift base p.value) known known'
        → Reading within text line words words'' c offset declared from p.next known'
    reading_on base f words'' known' p h added =
        let s = entry_stands line at r e p h in
        let x : Entry = entry_read text (moved_part base p.name) (shift base p.value) in
        let y : Entry = record { attr = name_at line p.name; value = value_of line p.value } in
        let named = name_moved text line base f.is f.inside p.name s.inside in
        let same : x ≡ y = λ t. record { attr = named t; value = value_moved text line base f.is f.inside p.value s.ends t } in
        record {
          got = reading.got ++ (x ∷ []);
          form = λ k. reading.form k
              ∙ entry_on within line at r e (λ es. k (reading.got ++ es)) p h
              ∙ (λ t. rest_form within line p.next (λ es. k (reading.got ++ (sym same t ∷ es))))
              ∙ (λ t. rest_form within line p.next (λ es. k (sym (append_assoc reading.got (x ∷ []) es) t)));
          after = added.after reading.got reading.after;
          agrees = agree_trans c words words' words'' reading.agrees added.agrees;
          few = omega (arith, added.counted, reading.few, s.behind);
          inside = s.next;
        }

    -- at the closing bracket
    pub reading_ends : length line ≤ 65536 → (z : ℕ) → r ≡ Some (Close z) → (t : Bool) → t ≡ form_ends within line z → t ≡ true
        → EntriesGot within text line words' c offset declared from known
    reading_ends l z h t te th = record {
      got = reading.got;
      form = λ k. reading.form k ∙ entry_close within line at r e (λ es. k (reading.got ++ es)) z h ∙ rw (sym te ∙ th) (ap k (append-nil reading.got));
      after = reading.after;
      few = omega (arith, reading.few, reading.inside);
    }

    pub reading_spoilt : (z : ℕ) → r ≡ Some (Close z) → (t : Bool) → t ≡ form_ends within line z → t ≡ false → (k : List Entry → Maybe BookLine)
        → entries_form within line from k ≡ nothing
    reading_spoilt z h t te th k = reading.form k ∙ entry_close within line at r e (λ es. k (reading.got ++ es)) z h ∙ rw (sym te ∙ th)

    pub reading_broken : r ≡ None → (k : List Entry → Maybe BookLine) → entries_form within line from k ≡ nothing
    reading_broken h k = reading.form k ∙ entry_none within line at r e (λ es. k (reading.got ++ es)) h
