-- What a loaded book says lies inside its text and its tables. Assumes nothing.
use Prim.Native.Nat.{ℕ, ◌+◌, ◌-◌, ◌≤◌, ◌<◌}
use mathlib.Core.Path.{◌≡◌, refl, sym, subst}
use mathlib.Core.List.{List}
use native.Mathlib.Omega.{arith}
use lib.ListN.{get_or}
use Rattle.model.specs.Bytes.{Bytes}
use Rattle.model.specs.Choice.{Maybe, nothing, just}
use Rattle.book_tables.specs.declared.BookCounts.{BookCounts}
use Rattle.book_tables.specs.declared.Owner.{Owner}
use Rattle.book_tables.specs.declared.Owner.TheVariants.{Node, Relationship}
use Rattle.book_tables.specs.Layout as layout
use Rattle.book_tables.specs.Owners.{tables_of, AttrTable}
use Rattle.book_tables.specs.View.{start_part, count_part}
use Rattle.book_tables.specs.Fits.{NamesFit, EntriesFit, Fits}
use Rattle.book_tables.proofs.OwnerLaws.{attr_table, owner_fits}
use Rattle.book_lookup.specs.Entries.{seek}
use Rattle.book_lookup.specs.Ready.{EntryReady}
use Rattle.book_lookup.proofs.SeekLaws.{seek_within}
use Rattle.entry_order.specs.Slots.{slot_of, Slots}
use Rattle.putting.specs.Putting.{Declared}
use Rattle.tidy_text.specs.Pieces.{slot_in}
use Rattle.tidy_text.specs.Inside.{AttrsInside, LabelsInside, SlotInside, EntriesInside, HeadInside, OwnerInside}

-- The slot of each declared attribute, as the slots say it.
pub slot_inside : {book : Bytes} {words : List ℕ} {offset declared owner : ℕ} {slots : List ℕ} → EntriesInside book words offset declared owner
    → Slots words owner slots → (a : ℕ) → a < declared → SlotInside book words offset a (get_or slots a 0)
unfolding slot_in
slot_inside {book} {words} {offset} inside slots a l =
    subst (SlotInside book words offset a) (sym (slots.each a (omega (arith, inside.few)))) (inside.each a l)

module _ {book : Bytes} {words : List ℕ} {c : BookCounts} (fits : Fits book words c) where
  -- a name counted at an offset
  declared : (offset count : ℕ) → NamesFit book words offset count → offset + count ≤ 416 → (i : ℕ) → i < count → Declared book words offset i
  declared offset count names h i l = record { room = omega (arith, fits.room); inside = names.inside i l }

  -- declared attributes, and labels
  pub attrs_inside : (o : Owner) → AttrsInside book words (tables_of o c).attributes (tables_of o c).declared
  attrs_inside o i l = let t = attr_table book words c fits o in record {
    low = omega (arith, t.low, t.few);
    room = fits.room;
    name = declared _ _ t.names (omega (arith, t.low, t.few)) i l;
  }

  pub labels_inside : LabelsInside book words c.labels
  labels_inside i l = declared _ _ fits.labels (omega (arith, fits.within.labels)) i l

  -- the entry of a slot that is not empty
  slot_ready : (count w : ℕ) → EntriesFit book words count c.entries w → (a : ℕ) → 0 < slot_in words w a → EntryReady book words (slot_in words w a - 1)
  unfolding slot_in slot_of
  slot_ready count w fit a = go (seek words a (start_part w) (count_part w)) refl
    where
      go : (m : Maybe ℕ) → seek words a (start_part w) (count_part w) ≡ m → 0 < slot_of m → EntryReady book words (slot_of m - 1)
      go nothing e l = absurd (omega arith)
      go (just k) e l =
          let within = seek_within words a (count_part w) (start_part w) k e in
          let place : start_part w + within.0 ≡ k + 1 - 1 = omega (arith, within.2) in
          let counted = fit.counted in
          let limit = fits.within.entries in
          let room = fits.room in
          record {
            room = omega (arith, within.1, within.2);
            inside = rw place at (fit.each within.0 within.1).inside;
          }

  -- the entries that a word says
  entries_inside : (offset count w : ℕ) → AttrTable book words offset count → EntriesFit book words count c.entries w
      → EntriesInside book words offset count w
  entries_inside offset count w t fit = record {
    few = t.few;
    slotted = record {
      room = omega (arith, fit.counted, fits.within.entries, fits.room);
      attributes = λ i l. omega (arith, (fit.each i l).attribute, t.few);
    };
    each = λ a l. record { name = declared _ _ t.names (omega (arith, t.low, t.few)) a l; entry = slot_ready count w fit a };
  }

  -- what stands before the attributes
  head_inside : (o : Owner) (i : ℕ) → i < (tables_of o c).count → HeadInside book words o i
  head_inside Node i l = declared _ _ fits.nodes (omega (arith, fits.within.nodes)) i l
  head_inside Relationship i l = let r = fits.rels i l in (
    omega (arith, fits.within.relationships, fits.room),
    record {
      label = labels_inside _ r.label;
      from = declared _ _ fits.nodes (omega (arith, fits.within.nodes)) _ r.from;
      to = declared _ _ fits.nodes (omega (arith, fits.within.nodes)) _ r.to;
    },
  )

  -- the word of an owner's entries is in the tables
  low_entries : (o : Owner) (i : ℕ) → i < (tables_of o c).count → (tables_of o c).entries + i < layout.book_words
  low_entries Node i l = omega (arith, fits.within.nodes)
  low_entries Relationship i l = omega (arith, fits.within.relationships)

  -- the line of each node and each relationship
  pub owner_inside : (o : Owner) (i : ℕ) → i < (tables_of o c).count → OwnerInside book words o (tables_of o c) i
  owner_inside o i l = record {
    low = low_entries o i l;
    room = fits.room;
    head = head_inside o i l;
    entries = entries_inside _ _ _ (attr_table book words c fits o) (owner_fits book words c fits o i l);
  }
