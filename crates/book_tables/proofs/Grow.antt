-- What fits under some counts fits under greater ones; and entries stored one after another.
use Prim.Native.Nat.{ℕ, ◌+◌, ◌*◌, ◌/◌, ◌%◌, ◌≤◌, ◌<◌}
use mathlib.Core.Path.{◌≡◌}
use mathlib.Core.List.{List, [], ◌∷◌, ◌++◌}
use native.Mathlib.Omega.{arith}
use lib.ListN.{length, length-append}
use Rattle.logic.specs.Tests.{either, equal_or_not}
use Rattle.model.specs.Bytes.{Bytes}
use Rattle.model.specs.Values.{Entry}
use Rattle.book_tables.specs.declared.BookCounts.{BookCounts}
use Rattle.book_tables.specs.Layout.{types_behind, entries}
use Rattle.book_tables.specs.View.{word_at, start_part, name_of, kind_in, attr_of, attrs_at, entry_of, entries_from, entries_in}
use Rattle.book_tables.specs.Fits.{EntryFits, EntriesFit, RelFits}
use Rattle.book_tables.specs.Stores.{EntriesStored, own_entries}
use Rattle.book_tables.proofs.ListedLaws.{listed_more}

-- more attributes declared, more entries counted
pub entry_fits_more : (text : Bytes) (words : List ℕ) (d d' k : ℕ) → d ≤ d' → EntryFits text words d k → EntryFits text words d' k
entry_fits_more text words d d' k l f = record { attribute = omega (arith, f.attribute); inside = f.inside }

pub entries_fit_more : (text : Bytes) (words : List ℕ) (d d' n n' w : ℕ) → d ≤ d' → n ≤ n' → EntriesFit text words d n w → EntriesFit text words d' n' w
entries_fit_more text words d d' n n' w l m f = record {
  counted = omega (arith, f.counted);
  each = λ i h. entry_fits_more text words d d' (start_part w + i) l (f.each i h);
}

-- more labels and nodes
pub rel_fits_more : (l l' n n' w : ℕ) → l ≤ l' → n ≤ n' → RelFits l n w → RelFits l' n' w
rel_fits_more l l' n n' w le lf f = record { label = omega (arith, f.label); from = omega (arith, f.from); to = omega (arith, f.to) }

-- one attribute more
pub attrs_end : (text : Bytes) (words : List ℕ) (offset n : ℕ)
    → attrs_at text words offset (n + 1)
    ≡ attrs_at text words offset n ++ (record { name = name_of text words offset n; kind = kind_in (word_at words (offset + types_behind + n)) } ∷ [])
unfolding attrs_at attr_of
attrs_end text words offset n = listed_more (attr_of text words offset) n

-- the word of an owner's entries, taken apart
pub own_start : (e n : ℕ) → n < 4096 → (e * 4096 + n) / 4096 ≡ e
own_start e n l = omega arith

pub own_count : (e n : ℕ) → n < 4096 → (e * 4096 + n) % 4096 ≡ n
own_count e n l = omega arith

-- entries stored behind those counted are an owner's
module _ (text : Bytes) (words : List ℕ) (offset declared : ℕ) (c : BookCounts) (es : List Entry)
    (stored : EntriesStored text words offset declared c.entries es) (few : length es < 4096) where
  pub own_entries_law : entries_in text words offset (own_entries c (length es)) ≡ es
  unfolding entries_in
  own_entries_law = rw (own_start c.entries (length es) few, own_count c.entries (length es) few) stored.are

  pub own_fit : EntriesFit text words declared (c.entries + length es) (own_entries c (length es))
  own_fit = record {
    counted = omega arith;
    each = λ i l. rw (own_start c.entries (length es) few) (stored.each i (omega arith));
  }

-- one entry more
module _ (text : Bytes) (words : List ℕ) (offset declared start : ℕ) (es : List Entry) (e : Entry) where
  pub entries_end : entries_from text words offset start (length es + 1)
      ≡ entries_from text words offset start (length es) ++ (entry_of text words offset (start + length es) ∷ [])
  unfolding entries_from
  entries_end = listed_more (λ i. entry_of text words offset (start + i)) (length es)

  pub stored_more :
      EntriesStored text words offset declared start es
      → entry_of text words offset (start + length es) ≡ e
      → EntryFits text words declared (start + length es)
      → EntriesStored text words offset declared start (es ++ (e ∷ []))
  stored_more s here fits = record {
    are = rw (length-append es (e ∷ []), entries_end, s.are, here);
    each = λ i l. either (equal_or_not i (length es)) (λ q. rw q fits) (λ q. s.each i (omega (arith, length-append es (e ∷ []))));
  }
