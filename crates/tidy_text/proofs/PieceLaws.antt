-- Laws of single pieces: a type by its word, an attribute's slot, a text value. Assumes nothing.
use Prim.Native.Nat.{ℕ, ◌+◌, ◌-◌, ◌<◌}
use mathlib.Core.Path.{◌≡◌, sym, ap}
use mathlib.Core.List.{List, [], ◌++◌}
use native.Mathlib.Omega.{arith}
use lib.ListN.{length}
use lib.Seq.{take_all}
use borrow.Author.Tests.{eq-eqb, ne_eqb}
use Rattle.model.specs.Bytes.{Bytes, bytes_of}
use Rattle.model.specs.Answers.{part_of}
use Rattle.model.specs.Tidy.{kind_text}
use Rattle.model.specs.Values.{Kind}
use Rattle.book_tables.specs.View.{count_part}
use Rattle.book_lookup.specs.Entries.{seek}
use Rattle.book_lookup.proofs.ValueLaws.{kind_ints, kind_strs, kind_bools}
use Rattle.entry_order.specs.Slots.{slot_of}
use Rattle.tidy_text.specs.Pieces.{type_piece, entry_piece, slot_piece, slot_in, entries_text}
use Rattle.tidy_text.proofs.TextLaws.{texts_empty}

-- The type that a word says.
abbrev type_text : Kind → Bytes
type_text k = bytes_of " " ++ kind_text k ++ bytes_of ")\n"

pub int_piece : (t : ℕ) → t ≡ 0 → bytes_of " int)\n" ≡ type_piece t
unfolding type_piece kind_text
int_piece t e = sym (ap type_text (kind_ints t e))

pub str_piece : (t : ℕ) → t ≡ 1 → bytes_of " str)\n" ≡ type_piece t
unfolding type_piece kind_text
str_piece t e = sym (ap type_text (kind_strs t e))

pub bool_piece : (t : ℕ) → 1 < t → bytes_of " bool)\n" ≡ type_piece t
unfolding type_piece kind_text
bool_piece t l = sym (ap type_text (kind_bools t l))

-- A whole text is the part of it that starts at 0 and has its length.
pub whole_part : (t : Bytes) → part_of t 0 (length t) ≡ t
unfolding part_of
whole_part t = take_all (length t) t (omega arith)

-- An empty slot gives nothing, another its entry.
module _ (book : Bytes) (words : List ℕ) (offset a : ℕ) where
  pub empty_slot : (slot : ℕ) → slot ≡ 0 → [] ≡ slot_piece book words offset a slot
  unfolding slot_piece
  empty_slot slot e = rw (eq-eqb slot 0 e)

  pub full_slot : (slot : ℕ) → (slot ≡ 0 → ⊥) → entry_piece book words offset a (slot - 1) ≡ slot_piece book words offset a slot
  unfolding slot_piece
  full_slot slot h = rw (ne_eqb slot 0 h)

-- An owner of no entries gives nothing.
pub no_entries : (book : Bytes) (words : List ℕ) (offset owner n : ℕ) → count_part owner ≡ 0 → [] ≡ entries_text book words offset owner n
unfolding entries_text
no_entries book words offset owner n e = sym (texts_empty _ n none)
  where
    empty : (a : ℕ) → slot_in words owner a ≡ 0
    empty a = unfold slot_in seek slot_of in rw e

    none : (a : ℕ) → slot_piece book words offset a (slot_in words owner a) ≡ []
    none a = sym (empty_slot book words offset a (slot_in words owner a) (empty a))
