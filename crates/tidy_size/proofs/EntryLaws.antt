-- Laws of an owner's entries in the order of the attributes declared: slot by slot.
use Prim.Native.Nat.{ℕ, ◌+◌, ◌-◌, ◌*◌, ◌<◌}
use mathlib.Core.Path.{◌≡◌, refl, sym, ap, ◌∙◌}
use mathlib.Core.List.{List, [], ◌∷◌, ◌++◌, map}
use native.Mathlib.Omega.{arith}
use lib.ListN.{length, length-append}
use Rattle.model.specs.Bytes.{Bytes, bytes_of}
use Rattle.model.specs.Choice.{Maybe, nothing, just}
use Rattle.model.specs.Lists.{joined}
use Rattle.model.specs.Values.{Value, Entry}
use Rattle.model.specs.Book.{Attr}
use Rattle.model.specs.Graph.{value_in}
use Rattle.model.specs.Writing.{each_behind}
use Rattle.model.specs.Tidy.{entry_text, entry_if, in_order}
use Rattle.model.proofs.Places.{map_append, joined_end}
use Rattle.book_tables.specs.Listed.{listed}
use Rattle.book_tables.specs.View.{name_of, attr_of, attrs_at, start_part, count_part, entries_from, entries_in}
use Rattle.book_tables.proofs.ListedLaws.{listed_more}
use Rattle.book_lookup.specs.Entries.{seek, maybe_value}
use Rattle.book_lookup.proofs.SeekLaws.{seek_within}
use Rattle.book_lookup.proofs.FoundLaws.{seek_value}
use Rattle.entry_order.specs.Slots.{slot_of}
use Rattle.tidy_size.specs.Pieces.{entry_at, entries_text}
use Rattle.tidy_size.specs.Sizes.{Size, entry_most}
use Rattle.tidy_size.specs.Ready.{EntryIn, OwnerIn, EntryShort, OwnerShort}
use Rattle.tidy_size.proofs.LengthLaws.{behind_length}

-- what a slot says
slot_none : (m : Maybe ℕ) → slot_of m ≡ 0 → m ≡ nothing
unfolding slot_of
slot_none nothing e = refl
slot_none (just k) e = absurd (omega arith)

slot_some : (m : Maybe ℕ) → 0 < slot_of m → m ≡ just (slot_of m - 1)
unfolding slot_of
slot_some nothing l = absurd (omega arith)
slot_some (just k) l = ap just (omega arith)

-- the text of an entry that may be missing, behind its space
abbrev maybe_text : Bytes → Maybe Value → Bytes
maybe_text name v = each_behind (bytes_of " ") (map entry_text (entry_if name v))

no_text : (name : Bytes) → length (maybe_text name nothing) ≡ 0
unfolding each_behind entry_if
no_text name = refl

one_text : (name : Bytes) (v : Value) → length (maybe_text name (just v)) ≡ length (bytes_of " " ++ entry_text (record { attr = name; value = v }))
unfolding each_behind entry_if
one_text name v = simp length-append (omega arith)

-- entries in the order of one attribute more
order_more : (ds : List Attr) (d : Attr) (es : List Entry)
    → length (each_behind (bytes_of " ") (map entry_text (in_order (ds ++ (d ∷ [])) es)))
    ≡ length (each_behind (bytes_of " ") (map entry_text (in_order ds es))) + length (maybe_text d.name (value_in es d.name))
unfolding in_order
order_more ds d es =
    let f : Attr → List Entry = λ d. entry_if d.name (value_in es d.name) in
    ap (λ (l : List Entry). length (each_behind (bytes_of " ") (map entry_text l))) (joined_end f ds d)
    ∙ ap (λ (l : List Bytes). length (each_behind (bytes_of " ") l)) (map_append entry_text (joined f ds) (f d))
    ∙ behind_length (bytes_of " ") (map entry_text (joined f ds)) (map entry_text (f d))

-- no entries in any order
order_none : (ds : List Attr) → in_order ds [] ≡ []
unfolding in_order joined entry_if value_in
order_none [] = refl
order_none (d ∷ ds) = order_none ds

module _ (text : Bytes) (words : List ℕ) (offset owner : ℕ) where
  -- an owner of no entries
  empty_owner : count_part owner ≡ 0 → entries_in text words offset owner ≡ []
  unfolding entries_in entries_from listed
  empty_owner e = rw e refl

  pub no_entries : (declared : ℕ) → count_part owner ≡ 0 → 0 ≡ length (entries_text text words offset declared owner)
  unfolding entries_text each_behind
  no_entries declared e = rw (empty_owner e, order_none (attrs_at text words offset declared)) refl

  -- one attribute more
  entries_more : (a : ℕ) → length (entries_text text words offset (a + 1) owner)
      ≡ length (entries_text text words offset a owner)
      + length (maybe_text (name_of text words offset a) (value_in (entries_in text words offset owner) (name_of text words offset a)))
  unfolding entries_text attrs_at attr_of
  entries_more a = rw (listed_more (attr_of text words offset) a) (order_more (listed (attr_of text words offset) a) (attr_of text words offset a)
      (entries_in text words offset owner))

module _ (words : List ℕ) (offset declared owner : ℕ) where
  -- the size of an owner's entries of as many attributes
  abbrev pub EntriesSize : ℕ → ℕ → Type 0
  EntriesSize a size = Size (entry_most * a) (OwnerIn words offset declared owner) (λ text. entries_text text words offset a owner) size

  -- the value of an attribute's name is that of what its slot says
  value_sought : (text : Bytes) → OwnerIn words offset declared owner text → (a : ℕ) → a < declared
      → value_in (entries_in text words offset owner) (name_of text words offset a) ≡ maybe_value text words (seek words a (start_part owner) (count_part owner))
  unfolding entries_in
  value_sought text o a l = sym (seek_value text words offset declared o.names a l (count_part owner) (start_part owner) (λ i m. (o.each i m).attribute))

  -- before the first attribute
  pub entries_first : EntriesSize 0 0
  unfolding entries_text attrs_at listed in_order joined each_behind
  entries_first = record { small = omega arith; is = λ text of. omega arith }

  -- what the slot of an attribute says
  module _ (a slot : ℕ) (l : a < declared) (is : slot ≡ slot_of (seek words a (start_part owner) (count_part owner))) where
    -- an attribute that is absent
    pub entries_pass : slot ≡ 0 → (size : ℕ) → EntriesSize a size → EntriesSize (a + 1) size
    unfolding maybe_value
    entries_pass e size s = record {
      small = omega (arith, s.small);
      is = λ text o.
          let none = value_sought text o a l ∙ ap (maybe_value text words) (slot_none _ (sym is ∙ e)) in
          let empty = ap (λ v. length (maybe_text (name_of text words offset a) v)) none ∙ no_text (name_of text words offset a) in
          omega (arith, s.is text o, entries_more text words offset owner a, empty);
    }

    -- one that is present: its entry is one of the owner's
    module _ (some : 0 < slot) where
      sought : seek words a (start_part owner) (count_part owner) ≡ just (slot - 1)
      sought = rw is (slot_some _ (omega arith))

      pub entry_short : OwnerShort words offset declared owner → EntryShort words (slot - 1)
      entry_short short =
          let within = seek_within words a (count_part owner) (start_part owner) (slot - 1) sought in
          let place : start_part owner + within.0 ≡ slot - 1 = within.2 in
          let below : within.0 < count_part owner = within.1 in
          record {
            room = omega (arith, short.room);
            short = rw place at (short.short within.0 below);
          }

      entry_in : EntryShort words (slot - 1) → (text : Bytes) → OwnerIn words offset declared owner text → EntryIn words (offset + a) (slot - 1) text
      entry_in short text o =
          let within = seek_within words a (count_part owner) (start_part owner) (slot - 1) sought in
          let place : start_part owner + within.0 ≡ slot - 1 = within.2 in
          record {
            named = o.names.inside a l;
            ready = record { room = short.room; inside = rw place at (o.each within.0 within.1).inside };
          }

      pub entries_take : OwnerShort words offset declared owner → (size more : ℕ) → EntriesSize a size
          → Size entry_most (EntryIn words (offset + a) (slot - 1)) (λ text. bytes_of " " ++ entry_text (entry_at text words (offset + a) (slot - 1))) more
          → EntriesSize (a + 1) (size + more)
      unfolding maybe_value entry_at name_of
      entries_take short size more s m = record {
        small = omega (arith, s.small, m.small);
        is = λ text o.
            let one = value_sought text o a l ∙ ap (maybe_value text words) sought in
            let long = ap (λ v. length (maybe_text (name_of text words offset a) v)) one ∙ one_text (name_of text words offset a) _ in
            omega (arith, s.is text o, entries_more text words offset owner a, long, m.is text (entry_in (entry_short short) text o));
      }

  -- behind the last attribute
  pub entries_whole : (a size : ℕ) → a ≡ declared → EntriesSize a size → EntriesSize declared size
  entries_whole a size e s = record {
    small = omega (arith, s.small);
    is = λ text o. s.is text o ∙ ap (λ (n : ℕ). length (entries_text text words offset n owner)) e;
  }
