-- Laws of the names in a table: none in zeros, one more, and how a walk along the chain of a name's slot goes. Assumes nothing.
use Prim.Native.Nat.{ℕ, suc, ◌+◌, ◌*◌, ◌-◌, ◌≤◌, ◌<◌}
use mathlib.Core.Path.{◌≡◌, refl, sym, ap, ap₂, ◌∙◌}
use mathlib.Core.List.{List, [], ◌∷◌, ◌++◌, append-nil}
use mathlib.Core.Bool.{Bool, true, false}
use native.Mathlib.Omega.{arith}
use lib.ListN.{length, set, length-set, take, drop, replicate, length-replicate, get_or-replicate}
use lib.Seq.{get_or-set_same, get_or-set_other}
use Rattle.logic.specs.Tests.{either, equal_or_not}
use Rattle.model.specs.Bytes.{Bytes, same}
use Rattle.model.specs.Names.{mem, place}
use Rattle.model.specs.Answers.{part_of, name_at}
use Rattle.model.specs.declared.Part.{Part}
use Rattle.chains.specs.Chains.{last_of, linked, Walked}
use Rattle.chains.specs.Walks.{Falls}
use Rattle.chains.specs.Slots.{slot_of}
use Rattle.chains.proofs.ChainLaws.{chained_kept, length_linked, linked_apart, linked_chained}
use Rattle.chains.proofs.ChainLaws.{chained_falls, walk_first, walk_inside, walk_next, walk_over}
use Rattle.chains.proofs.SlotLaws.{slot_small}
use Rattle.book_tables.specs.View.{word_at, name_in, name_of, names_at}
use Rattle.book_tables.proofs.ListedLaws.{listed_none, listed_same, scan_all}
use Rattle.book_tables.proofs.NameLaws.{same_equal, names_end_law, name_mem, place_out, found_none}
use Rattle.names_met.specs.Table.{Names, words_from, names_met, name_met, slot_met, Entries, Indexed, Holds}

-- names with another slot are other names
found_none_in_slot : (name text : Bytes) (words : List ℕ) (offset count : ℕ)
    → ((i : ℕ) → i < count → slot_of (name_of text words offset i) ≡ slot_of name → same name (name_of text words offset i) ≡ false)
    → count ≡ place name (names_at text words offset count)
found_none_in_slot name text words offset count h =
    found_none name text words offset count count refl
    (scan_all (same name) (name_of text words offset) count (λ i l. go i l (same name (name_of text words offset i)) refl))
  where
    go : (i : ℕ) → i < count → (b : Bool) → same name (name_of text words offset i) ≡ b → same name (name_of text words offset i) ≡ false
    go i l true e = h i l (ap slot_of (sym (same_equal name (name_of text words offset i) e)))
    go i l false e = e

-- a full table says nothing
pub holds_full : (s : Bytes) (table : List ℕ) (names : Names) → Holds s table (length table) names
holds_full s table names = record { inside = omega arith; lists = λ l. absurd (omega arith) }

pub holds_same : (s : Bytes) (table : List ℕ) (n : ℕ) (names : Names) → Holds s table n names → Holds s table n (names ++ [])
holds_same s table n names h = rw (append-nil names) h

-- a table of zeros has no name
pub holds_none : (s : Bytes) (size : ℕ) → 256 ≤ size → Holds s (replicate size 0) 0 []
unfolding names_at last_of
holds_none s size l = record {
  inside = omega arith;
  lists = λ u. record {
    has = record {
      room = omega (arith, length-replicate {A = ℕ} size 0);
      inside = λ k b. absurd (omega arith);
      chains = record { firsts = λ k b. get_or-replicate size (0 + k) 0 0 (omega arith); nexts = λ i b. absurd (omega arith) };
    };
    are = listed_none (name_met s (replicate size 0));
  };
}

-- a name more
module _ (s : Bytes) (t : List ℕ) (n : ℕ) (name : Part)
    (fits : 258 + 2 * n ≤ length t) (short : name.length < 32) (ends : name.start + name.length ≤ length s) where
  abbrev word : ℕ
  word = name.start * 32 + name.length

  abbrev nm : Bytes
  nm = name_at s name

  abbrev at : ℕ
  at = words_from (length t) + n

  abbrev t₁ : List ℕ
  t₁ = set t at word

  abbrev t₂ : List ℕ
  t₂ = linked t₁ 0 256 (slot_of nm) n

  long₁ : length t₁ ≡ length t
  long₁ = length-set t at word

  long₂ : length t₂ ≡ length t
  long₂ = length_linked t₁ 0 256 (slot_of nm) n ∙ long₁

  -- the words of names that are not the new one's stay
  kept : (p : ℕ) → words_from (length t) ≤ p → word_at t₂ p ≡ word_at t₁ p
  kept p l = linked_apart t₁ 0 256 (slot_of nm) n p (λ e. omega (arith, slot_small nm)) (λ e. omega arith)

  named : word_at t₂ at ≡ word
  named = kept at (omega arith) ∙ get_or-set_same t at word 0 (omega arith)

  old : (k : ℕ) → k < n → word_at t₂ (words_from (length t₂) + k) ≡ word_at t (words_from (length t) + k)
  old k l = rw long₂ (kept (words_from (length t) + k) (omega arith) ∙ get_or-set_other t at (words_from (length t) + k) word 0 (λ e. omega arith))

  new : word_at t₂ (words_from (length t₂) + n) ≡ word
  new = rw long₂ named

  old_name : (k : ℕ) → k < n → name_met s t₂ k ≡ name_met s t k
  unfolding name_of
  old_name k l = ap (name_in s) (old k l)

  new_name_law : name_met s t₂ n ≡ nm
  unfolding name_of name_in name_at
  new_name_law = ap (name_in s) new ∙ ap₂ (part_of s) (omega arith) (omega arith)

  module _ (held : Entries s t n) where
    entries_more : Entries s t₂ (n + 1)
    entries_more = record {
      room = omega (arith, long₂);
      inside = λ k l. either (equal_or_not k n) (λ e. rw (e, new) (omega arith)) (λ e. rw (old k (omega arith)) (held.inside k (omega arith)));
      chains = linked_chained t₁ 0 256 (slot_of nm) n 256 (slot_met s t₂) (omega arith) (omega (arith, long₁)) (slot_small nm) (ap slot_of new_name_law)
          (chained_kept t t₁ 0 256 256 (slot_met s t) (slot_met s t₂) n held.chains
          (λ k l. get_or-set_other t at (0 + k) word 0 (λ e. omega arith))
          (λ k l. get_or-set_other t at (256 + k) word 0 (λ e. omega arith))
          (λ k l. ap slot_of (sym (old_name k l))));
    }

  holds_more : (names : Names) → Indexed s t n names → Holds s t₂ (n + 1) (names ++ (nm ∷ []))
  unfolding names_at
  holds_more names h = record {
    inside = omega (arith, long₂);
    lists = λ l. record {
      has = entries_more h.has;
      are = names_end_law s t₂ (words_from (length t₂)) n
          ∙ ap₂ (λ (ns : Names) (x : Bytes). ns ++ (x ∷ [])) (listed_same (name_met s t₂) (name_met s t) n old_name ∙ h.are) new_name_law;
    };
  }

  -- as the code comes to it
  pub holds_added : (words slot : ℕ) (t' : List ℕ) → words ≡ words_from (length t)
      → slot ≡ slot_of (take (name.start + name.length - name.start) (drop name.start s))
      → t' ≡ linked (set t (words + n) word) 0 256 slot n → (names : Names) → Holds s t n names → Holds s t' (n + 1) (names ++ (nm ∷ []))
  unfolding name_at part_of
  holds_added words slot t' ew es et names h =
      let d : name.start + name.length - name.start ≡ name.length = omega arith in
      rw (et, ew, es, d) (holds_more names (h.lists (omega arith)))

-- a walk along the chain of a name's slot: no name before the entry is this one
abbrev pub NameWalk : Bytes → List ℕ → ℕ → Bytes → ℕ → Type 0
NameWalk s table n w entry = Walked (slot_met s table) (slot_of w) n (λ k. same w (name_met s table k)) entry

module _ (s : Bytes) (table : List ℕ) (n : ℕ) (h : Entries s table n) (w : Bytes) where
  abbrev test : ℕ → Bool
  test k = same w (name_met s table k)

  pub names_first : (slot entry : ℕ) → slot ≡ slot_of w → entry ≡ word_at table (0 + slot) → NameWalk s table n w entry
  names_first slot entry q e =
      walk_first table 0 256 256 (slot_met s table) n h.chains (slot_of w) test entry (slot_small w) (e ∙ ap (λ (k : ℕ). word_at table (0 + k)) q)

  pub names_over : (entry : ℕ) → entry ≡ 0 → NameWalk s table n w entry → false ≡ mem w (names_met s table n)
  names_over entry z walk =
      sym (place_out s table (words_from (length table)) n w (omega (
        arith,
        found_none_in_slot w s table (words_from (length table)) n
            (walk_over table 0 256 256 (slot_met s table) n h.chains (slot_of w) test entry z walk),
      )))

  pub names_fall : (slot : ℕ) → slot ≡ slot_of w → Falls table 256 (word_at table (0 + slot))
  names_fall slot q = chained_falls table 0 256 256 (slot_met s table) n slot h.chains (omega (arith, q, slot_small w)) (omega (arith, h.room))

  module _ (k : ℕ) (walk : NameWalk s table n w (suc k)) where
    pub names_inside : k < n
    names_inside = walk_inside table 0 256 256 (slot_met s table) n h.chains (slot_of w) test (suc k) k refl walk

    -- t is what comparing the name with the number's says
    module _ (words : ℕ) (from : words ≡ words_from (length table)) (t : Bool) (is : t ≡ same w (name_of s table words k)) where
      tested : t ≡ test k
      tested = is ∙ ap (λ (p : ℕ). same w (name_of s table p k)) from

      pub name_found : t ≡ true → true ≡ mem w (names_met s table n)
      name_found e = sym (name_mem s table (words_from (length table)) n w k names_inside (sym (same_equal w (name_met s table k) (sym tested ∙ e))))

      pub names_next : t ≡ false → (next : ℕ) → next ≡ word_at table (256 + k) → NameWalk s table n w next
      names_next f next e = walk_next table 0 256 256 (slot_met s table) n h.chains (slot_of w) test (suc k) k refl walk next (sym tested ∙ f) e
