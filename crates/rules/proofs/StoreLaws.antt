-- Storing the names of a list: one name after another.
use Prim.Native.Nat.{ℕ, suc, ◌+◌, ◌*◌, ◌/◌, ◌%◌, ◌≤◌, ◌<◌}
use mathlib.Core.Path.{◌≡◌, refl, sym, ap, subst, ◌∙◌}
use mathlib.Core.List.{List, [], ◌∷◌, ◌++◌, append_assoc, append-nil}
use native.Mathlib.Omega.{arith}
use lib.ListN.{length, set, length-set, length-append}
use lib.Seq.{get_or-set_same, get_or-set_other}
use Rattle.std.specs.Prelude.{Some, None}
use Rattle.logic.specs.Tests.{either, equal_or_not}
use Rattle.model.specs.Bytes.{Bytes}
use Rattle.model.specs.Answers.{part_of, name_at}
use Rattle.model.specs.declared.Part.{Part}
use Rattle.item_forms.specs.Pieces.{behind, item_place, name_next}
use mathlib.Core.Bool.{false}
use Rattle.text.proofs.PlaceLaws.{part_in_part}
use Rattle.book_tables.specs.Listed.{listed}
use Rattle.book_tables.specs.View.{word_at, name_in, name_of, names_at}
use Rattle.book_tables.specs.Fits.{Inside}
use Rattle.book_tables.proofs.NameLaws.{names_end_law}
use Rattle.book_tables.proofs.AgreeLaws.{names_kept}
use Rattle.item_forms.specs.Places.{WordPlaces}
use Rattle.name_lists.proofs.Behind.{name_step, names_done}
use Rattle.rules.specs.Stored.{LineAt, NamesStored, Storing}

-- a part of the line is a part of its text
pub part_of_line : (text : Bytes) (base : ℕ) (s : Bytes) (p m : ℕ) → LineAt text base s → p + m ≤ length s → part_of text (base + p) m ≡ part_of s p m
part_of_line text base s p m l h = sym (part_in_part text base (length s) p m h) ∙ ap (λ (t : Bytes). part_of t p m) l.is

-- a name's word taken apart
word_start : (a m : ℕ) → m < 32 → (a * 32 + m) / 32 ≡ a
word_start a m l = omega arith

word_size : (a m : ℕ) → m < 32 → (a * 32 + m) % 32 ≡ m
word_size a m l = omega arith

pub name_of_line : (text : Bytes) (base : ℕ) (s : Bytes) (i : ℕ) (w : Part) → LineAt text base s → WordPlaces s i w
    → name_in text ((base + w.start) * 32 + w.length) ≡ name_at s w
unfolding name_in name_at
name_of_line text base s i w l h =
    let m : w.length < 32 = omega (arith, h.short) in
    rw (word_start (base + w.start) w.length m, word_size (base + w.start) w.length m) (part_of_line text base s w.start w.length l h.inside)

pub inside_of_line : (text : Bytes) (base : ℕ) (s : Bytes) (i : ℕ) (w : Part) → LineAt text base s → WordPlaces s i w
    → Inside text (((base + w.start) * 32 + w.length) / 32) (((base + w.start) * 32 + w.length) % 32)
inside_of_line text base s i w l h =
    let m : w.length < 32 = omega (arith, h.short) in
    rw (word_start (base + w.start) w.length m, word_size (base + w.start) w.length m) (omega (arith, l.inside, h.inside))

pub stored_none : (words : List ℕ) (at : ℕ) (s : Bytes) (base : ℕ) → NamesStored words words at s base []
unfolding names_at listed
stored_none words at s base = record {
  size = refl;
  below = λ z l. refl;
  above = λ z l. refl;
  are = λ text l. refl;
  inside = λ text l j h. absurd (omega arith);
}

module _ (words words' : List ℕ) (at : ℕ) (s : Bytes) (base : ℕ) where
  module _ (done : List Bytes) (st : NamesStored words words' at s base done) (i : ℕ) (w : Part) (h : WordPlaces s i w) (room : at + length done < length words)
    where
      abbrev word : ℕ
      word = (base + w.start) * 32 + w.length

      abbrev more : List ℕ
      more = set words' (at + length done) word

      one_longer : length (done ++ (name_at s w ∷ [])) ≡ length done + 1
      one_longer = length-append done (name_at s w ∷ [])

      kept : (j : ℕ) → j < length done → word_at more (at + j) ≡ word_at words' (at + j)
      kept j l = get_or-set_other words' (at + length done) (at + j) word 0 (omega arith)

      new : word_at more (at + length done) ≡ word
      new = get_or-set_same words' (at + length done) word 0 (omega (arith, st.size))

      stored_more : NamesStored words more at s base (done ++ (name_at s w ∷ []))
      unfolding name_of
      stored_more = record {
        size = length-set words' (at + length done) word ∙ st.size;
        below = λ z l. get_or-set_other words' (at + length done) z word 0 (omega arith) ∙ st.below z l;
        above = λ z l. get_or-set_other words' (at + length done) z word 0 (omega (arith, one_longer)) ∙ st.above z (omega (arith, one_longer));
        are = λ text l. rw one_longer (names_end_law text more at (length done)
            ∙ rw (names_kept text words' more at (length done) kept, st.are text l, new, name_of_line text base s i w l h));
        inside = λ text l j b. either (equal_or_not j (length done))
            (λ e. rw (e, new) (inside_of_line text base s i w l h))
            (λ e. let b' : j < length done = omega (arith, one_longer, e.1) in rw (kept j b') (st.inside text l j b'));
      }

  module _ (i n : ℕ) (ns : List Bytes) (g : Storing words words' at s base i n ns) where
    pub storing_next : {w : Part} → Some w ≡ item_place (name_next 2 false s i) → WordPlaces s i w → at + length ns ≤ length words
        → Storing words (set words' (at + n) ((base + w.start) * 32 + w.length)) at s base (behind w) (n + 1) ns
    storing_next {w} e h room =
        let z = name_step s i g.rest w e g.here in
        let longer : length ns ≡ length g.done + length g.rest.names = ap length g.split ∙ length-append g.done g.rest.names in
        let some : length g.rest.names ≡ suc (length z.0.names) = ap length z.2 in
        record {
          done = g.done ++ (name_at s w ∷ []);
          rest = z.0;
          here = z.1;
          split = g.split ∙ ap (λ (l : List Bytes). g.done ++ l) z.2 ∙ sym (append_assoc g.done (name_at s w ∷ []) z.0.names);
          count = let c = length-append g.done (name_at s w ∷ []) in let c' = g.count in omega (arith, c, c');
          stored = subst (λ (v : ℕ). NamesStored words (set words' (at + v) ((base + w.start) * 32 + w.length)) at s base (g.done ++ (name_at s w ∷ [])))
              (sym g.count)
              (stored_more g.done g.stored i w h (omega (arith, longer, some)));
        }

    pub storing_done : None ≡ item_place (name_next 2 false s i) → (n ≡ length ns) × NamesStored words words' at s base ns
    storing_done e =
        let d : ns ≡ g.done = g.split ∙ ap (λ (l : List Bytes). g.done ++ l) (names_done s i g.rest e g.here) ∙ append-nil g.done in
        (g.count ∙ ap length (sym d), subst (NamesStored words words' at s base) (sym d) g.stored)

    pub storing_room : at + length ns ≤ length words → {w : Part} → Some w ≡ item_place (name_next 2 false s i) → at + n < length words
    storing_room room {w} e =
        let z = name_step s i g.rest w e g.here in
        let longer : length ns ≡ length g.done + length g.rest.names = ap length g.split ∙ length-append g.done g.rest.names in
        let some : length g.rest.names ≡ suc (length z.0.names) = ap length z.2 in
        omega (arith, longer, some, g.count)
