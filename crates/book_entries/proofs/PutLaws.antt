-- Storing an entry behind those stored: what was there is kept, and the entry is there.
use Prim.Native.Nat.{ℕ, ◌+◌, ◌*◌, ◌/◌, ◌%◌, ◌≤◌, ◌<◌}
use mathlib.Core.Path.{◌≡◌, refl, sym, ap, ◌∙◌, subst}
use mathlib.Core.List.{List, [], ◌∷◌, ◌++◌}
use mathlib.Core.Bool.{Bool, true, false}
use native.Mathlib.Omega.{arith}
use lib.ListN.{length, set, length-set}
use lib.Seq.{get_or-set_same, get_or-set_other}
use lib.Dec.{ltb}
use borrow.Author.Tests.{lt-ltb, ltb-true}
use Rattle.model.specs.Bytes.{Bytes}
use Rattle.model.specs.Choice.{pick}
use Rattle.model.specs.Values.{Entry}
use Rattle.model.specs.Answers.{value_of}
use Rattle.model.specs.declared.Value.{Value}
use Rattle.book_tables.specs.declared.BookCounts.{BookCounts}
use Rattle.book_tables.specs.Layout.{entries, book_words}
use Rattle.book_tables.specs.View.{word_at, name_of, entry_head, entry_of}
use Rattle.book_tables.specs.Fits.{Within, EntryFits}
use Rattle.book_tables.specs.Agree.{Free, Agree}
use Rattle.book_tables.specs.Stores.{with_entry, EntriesStored}
use Rattle.book_tables.specs.ValueWords.{EndsBefore}
use Rattle.book_tables.proofs.AgreeLaws.{set_agrees, agree_same, agree_trans}
use Rattle.book_tables.proofs.Grow.{stored_more}
use Rattle.book_tables.proofs.OwnerAdded.{pending, stored_kept}
use Rattle.book_entries.specs.Known.{EntryPut}

-- the three words of entry k
module _ (words : List ℕ) (k x y z : ℕ) where
  abbrev one : List ℕ
  one = set words (entries + 3 * k) x

  abbrev two : List ℕ
  two = set one (entries + 3 * k + 1) y

  with_agrees : (c : BookCounts) → Free c (entries + 3 * k) → Free c (entries + 3 * k + 1) → Free c (entries + 3 * k + 2)
      → Agree c words (with_entry words k x y z)
  unfolding with_entry
  with_agrees c f g h =
      agree_trans c words two (set two (entries + 3 * k + 2) z)
      (agree_trans c words one two (set_agrees c words (entries + 3 * k) x f) (set_agrees c one (entries + 3 * k + 1) y g))
      (set_agrees c two (entries + 3 * k + 2) z h)

  with_low : (q : ℕ) → q < entries → word_at (with_entry words k x y z) q ≡ word_at words q
  unfolding with_entry
  with_low q l =
      get_or-set_other two (entries + 3 * k + 2) q z 0 (omega arith)
      ∙ get_or-set_other one (entries + 3 * k + 1) q y 0 (omega arith)
      ∙ get_or-set_other words (entries + 3 * k) q x 0 (omega arith)

  module _ (room : book_words ≤ length words) (small : k < 2048) where
    with_head : word_at (with_entry words k x y z) (entries + 3 * k) ≡ x
    unfolding with_entry
    with_head =
        get_or-set_other two (entries + 3 * k + 2) (entries + 3 * k) z 0 (omega arith)
        ∙ get_or-set_other one (entries + 3 * k + 1) (entries + 3 * k) y 0 (omega arith)
        ∙ get_or-set_same words (entries + 3 * k) x 0 (omega arith)

    with_first : word_at (with_entry words k x y z) (entries + 3 * k + 1) ≡ y
    unfolding with_entry
    with_first =
        get_or-set_other two (entries + 3 * k + 2) (entries + 3 * k + 1) z 0 (omega arith)
        ∙ get_or-set_same one (entries + 3 * k + 1) y 0 (rw length-set (omega arith))

    with_second : word_at (with_entry words k x y z) (entries + 3 * k + 2) ≡ z
    unfolding with_entry
    with_second = get_or-set_same two (entries + 3 * k + 2) z 0 (rw (length-set, length-set) (omega arith))

module _ (words words' : List ℕ) (k attribute : ℕ) (value : Value) (put : EntryPut words k attribute value words') where
  abbrev stored_words : List ℕ
  stored_words = with_entry words k (attribute * 4 + put.said.kind) put.said.first put.said.second

  by_room : (P : List ℕ → Type 0) → (k < 2048 → P stored_words) → P words → P words'
  by_room P p q = subst P (sym put.put) (go (ltb k 2048) refl)
    where
      go : (t : Bool) → ltb k 2048 ≡ t → P (pick t stored_words words)
      go true e = p (ltb-true k 2048 e)
      go false e = q

  -- nothing that is counted, up to entry k, is changed
  pub put_agrees : (c : BookCounts) → Within c → (n : ℕ) → c.entries + n ≤ k → Agree (pending c n) words words'
  put_agrees c w n l =
      by_room (Agree (pending c n) words)
      (λ r.
      let f : Free (pending c n) (entries + 3 * k) = omega arith in
      let g : Free (pending c n) (entries + 3 * k + 1) = omega arith in
      let h : Free (pending c n) (entries + 3 * k + 2) = omega arith in
      with_agrees words k (attribute * 4 + put.said.kind) put.said.first put.said.second (pending c n) f g h)
      (agree_same (pending c n) words)

  pub put_low : (q : ℕ) → q < entries → word_at words' q ≡ word_at words q
  put_low q l = by_room (λ (x : List ℕ). word_at x q ≡ word_at words q)
      (λ r. with_low words k (attribute * 4 + put.said.kind) put.said.first put.said.second q l) refl

  put_there : k < 2048 → words' ≡ stored_words
  put_there l = put.put ∙ rw (lt-ltb k 2048 l)

  module _ (text : Bytes) (offset declared : ℕ) (low : offset ≤ 64) (room : book_words ≤ length words) (small : k < 2048)
      (l : attribute < declared) (few : declared ≤ 32) (inside : EndsBefore (length text) value) (e : Entry)
      (named : name_of text words offset attribute ≡ e.attr) (valued : value_of text value ≡ e.value) where
    put_head : entry_head words' k ≡ attribute * 4 + put.said.kind
    put_head = rw (put_there small) (with_head words k _ _ _ room small)

    put_first : word_at words' (entries + 3 * k + 1) ≡ put.said.first
    put_first = rw (put_there small) (with_first words k _ _ _ room small)

    put_second : word_at words' (entries + 3 * k + 2) ≡ put.said.second
    put_second = rw (put_there small) (with_second words k _ _ _ room small)

    put_attribute : entry_head words' k / 4 ≡ attribute
    put_attribute = omega (arith, put_head, put.says.type)

    put_type : entry_head words' k % 4 ≡ put.said.kind
    put_type = omega (arith, put_head, put.says.type)

    put_name : name_of text words' offset attribute ≡ e.attr
    unfolding name_of
    put_name = ap (Rattle.book_tables.specs.View.name_in text) (put_low (offset + attribute) (omega arith)) ∙ named

    pub put_entry : entry_of text words' offset k ≡ e
    unfolding entry_of
    put_entry = rw (put_attribute, put_type, put_first, put_second, put_name, put.says.value text, valued)

    pub put_fits : EntryFits text words' declared k
    put_fits = record {
      attribute = rw put_attribute l;
      inside = λ t. rw (put_first, put_second) (put.says.inside (length text) inside (sym put_type ∙ t));
    }

    pub put_stored : (c : BookCounts) → Within c → (es : List Entry) → k ≡ c.entries + length es
        → EntriesStored text words offset declared c.entries es → EntriesStored text words' offset declared c.entries (es ++ (e ∷ []))
    put_stored c w es at s =
        stored_more text words' offset declared c.entries es e
        (stored_kept text words words' c offset declared es (put_agrees c w (length es) (omega arith)).tables (λ i m. put_low (offset + i) (omega arith)) s)
        (rw (← at) put_entry)
        (rw (← at) put_fits)
