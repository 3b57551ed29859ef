-- Laws of slots: entries are stored from the last to the first, so that each slot ends as the first entry of its attribute.
use Prim.Native.Nat.{ℕ, ◌+◌, ◌-◌, ◌/◌, ◌<◌}
use mathlib.Core.Path.{◌≡◌, refl, sym, ap, ◌∙◌}
use mathlib.Core.List.{List}
use native.Mathlib.Omega.{arith}
use lib.ListN.{length, get_or, set, replicate, length-set, length-replicate, get_or-replicate}
use lib.Seq.{get_or-set_same, get_or-set_other}
use borrow.Author.Tests.{eq-eqb, ne_eqb}
use Rattle.logic.specs.Tests.{either, equal_or_not}
use Rattle.book_tables.specs.View.{start_part, count_part, entry_head}
use Rattle.book_lookup.specs.Entries.{seek}
use Rattle.book_lookup.proofs.SeekLaws.{seek_begins, seek_passes, seek_finds, seek_ends}
use Rattle.entry_order.specs.Slots.{slot_of, Slots}

-- the slots of an owner's entries from one on
pub record SlotsFrom (words : List ℕ) (owner first : ℕ) (slots : List ℕ) : Type 0 where
  pub wide : length slots ≡ 32
  pub each : (a : ℕ) → a < 32 → get_or slots a 0 ≡ slot_of (seek words a (start_part owner + first) (count_part owner - first))

module _ (words : List ℕ) (owner : ℕ) where
  -- behind the last entry there is none
  pub no_slots : SlotsFrom words owner (count_part owner) (replicate 32 0)
  unfolding slot_of
  no_slots = record {
    wide = length-replicate {A = ℕ} 32 0;
    each = λ a h. get_or-replicate 32 a 0 0 h ∙ sym (ap slot_of (seek_ends words a (start_part owner) (count_part owner) (count_part owner) (omega arith)));
  }

  -- one entry more, before them: it is the first of its attribute, and the others' slots stay
  pub one_slot_more : (i : ℕ) (slots : List ℕ) → i < count_part owner → entry_head words (start_part owner + i) / 4 < 32 → SlotsFrom words owner (i + 1) slots
      → SlotsFrom words owner i (set slots (entry_head words (start_part owner + i) / 4) (start_part owner + i + 1))
  unfolding slot_of
  one_slot_more i slots below small h =
      let k = start_part owner + i in
      record {
        wide = length-set slots (entry_head words k / 4) (k + 1) ∙ h.wide;
        each = λ a l. either (equal_or_not a (entry_head words k / 4))
            (λ e. rw e (get_or-set_same slots (entry_head words k / 4) (k + 1) 0 (omega (arith, small, h.wide))
            ∙ sym (ap slot_of (seek_finds words (entry_head words k / 4) (start_part owner) (count_part owner) i below (eq-eqb (entry_head words k / 4) _ refl)))))
            (λ (_, d). get_or-set_other slots (entry_head words k / 4) a (k + 1) 0 d ∙ h.each a l
            ∙ sym (ap slot_of (seek_passes words a (start_part owner) (count_part owner) i below (ne_eqb _ _ (λ e. d (sym e))))));
      }

  -- from the first entry on: all of them
  pub all_slots : (slots : List ℕ) → SlotsFrom words owner 0 slots → Slots words owner slots
  all_slots slots h = record { each = λ a l. h.each a l ∙ sym (ap slot_of (seek_begins words a (start_part owner) (count_part owner))) }
