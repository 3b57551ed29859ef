-- A value suits its attribute exactly if it is of the type stored beside the attribute's name.
use Prim.Native.Nat.{ℕ, ◌+◌, ◌<◌}
use mathlib.Core.Path.{◌≡◌, refl, sym, ap, ◌∙◌}
use mathlib.Core.List.{List, [], ◌∷◌, ◌++◌, map}
use mathlib.Core.Bool.{Bool, true, false, ◌&&◌, ◌||◌}
use native.Mathlib.Omega.{arith}
use lib.Dec.{eqb}
use borrow.Author.Tests.{eq-eqb, ne_eqb}
use Rattle.logic.specs.Flags.{and_false, or_false}
use Rattle.logic.specs.Tests.{either, equal_or_not}
use Rattle.bits.specs.Word.{bit, with}
use Rattle.bits.specs.WordLaws.{bit_with}
use Rattle.model.specs.Bytes.{Bytes, same}
use Rattle.model.specs.Lists.{any}
use Rattle.model.specs.Names.{mem}
use Rattle.model.specs.Values.{Entry, of_kind}
use Rattle.model.specs.Book.{Attr}
use Rattle.model.specs.ReadBook.{suits}
use Rattle.book_tables.specs.Listed.{listed}
use Rattle.book_tables.specs.Layout.{types_behind}
use Rattle.book_tables.specs.View.{word_at, name_of, names_at, kind_in, attr_of, attrs_at}
use Rattle.book_tables.specs.Fits.{NamesFit}
use Rattle.book_tables.proofs.ListedLaws.{map_end, scan_found, scan_all}
use Rattle.book_tables.proofs.NameLaws.{equal_same, same_equal, name_mem}
use Rattle.book_tables.proofs.MemberLaws.{mem_end}

-- two names are not the same bytes
pub differ_same : (a b : Bytes) → (a ≡ b → ⊥) → same a b ≡ false
differ_same a b n = go (same a b) refl
  where
    go : (t : Bool) → same a b ≡ t → t ≡ false
    go true e = absurd (n (same_equal a b e))
    go false e = refl

module _ (text : Bytes) (words : List ℕ) (offset declared : ℕ) (f : NamesFit text words offset declared) where
  -- names of two numbers are the same exactly if the numbers are
  pub same_numbers : (a b : ℕ) → a < declared → b < declared → same (name_of text words offset a) (name_of text words offset b) ≡ eqb a b
  same_numbers a b l m = either (equal_or_not a b)
      (λ e. equal_same _ _ (ap (name_of text words offset) e) ∙ sym (eq-eqb a b e))
      (λ n. differ_same _ _ (λ e. n.1 (f.differ a b l m e)) ∙ sym (ne_eqb a b n.1))

  module _ (a : ℕ) (l : a < declared) (e : Entry) (named : name_of text words offset a ≡ e.attr) where
    abbrev fitting : Attr → Bool
    fitting d = same d.name e.attr && of_kind d.kind e.value

    abbrev kind_at : Bool
    kind_at = of_kind (kind_in (word_at words (offset + types_behind + a))) e.value

    pub suits_kind : suits (attrs_at text words offset declared) e ≡ of_kind (kind_in (word_at words (offset + types_behind + a))) e.value
    unfolding suits attrs_at attr_of
    suits_kind = go kind_at refl
      where
        other : (i : ℕ) → i < declared → kind_at ≡ false → fitting (attr_of text words offset i) ≡ false
        other i m k = either (equal_or_not i a)
            (λ q. rw (q, k) (and_false (same (name_of text words offset a) e.attr)))
            (λ n. rw (← named, same_numbers i a m l, ne_eqb i a n.1))

        go : (t : Bool) → kind_at ≡ t → any fitting (listed (attr_of text words offset) declared) ≡ t
        go true k = scan_found fitting (attr_of text words offset) declared a l (rw (equal_same _ _ named, k))
        go false k = scan_all fitting (attr_of text words offset) declared (λ i m. other i m k)

    -- the bits of the attributes seen
    pub seen_more : (seen : ℕ) (es : List Entry)
        → ((b : ℕ) → b < declared → bit seen b ≡ mem (name_of text words offset b) (map (λ x. x.attr) es))
        → (b : ℕ) → b < declared → bit (with seen a) b ≡ mem (name_of text words offset b) (map (λ x. x.attr) (es ++ (e ∷ [])))
    seen_more seen es h b m =
        bit_with seen a b
        ∙ rw (
          h b m,
          map_end (λ (x : Entry). x.attr) es e,
          mem_end (name_of text words offset b) e.attr (map (λ (x : Entry). x.attr) es),
          ← named,
          same_numbers b a m l,
        )

  -- an attribute that is not declared is no bit
  pub seen_same : (e : Entry) → mem e.attr (names_at text words offset declared) ≡ false → (seen : ℕ) (es : List Entry)
      → ((b : ℕ) → b < declared → bit seen b ≡ mem (name_of text words offset b) (map (λ x. x.attr) es))
      → (b : ℕ) → b < declared → bit seen b ≡ mem (name_of text words offset b) (map (λ x. x.attr) (es ++ (e ∷ [])))
  seen_same e none seen es h b m =
      h b m ∙ sym (ap (mem (name_of text words offset b)) (map_end (λ (x : Entry). x.attr) es e)
      ∙ mem_end (name_of text words offset b) e.attr (map (λ (x : Entry). x.attr) es)
      ∙ ap (λ (t : Bool). mem (name_of text words offset b) (map (λ (x : Entry). x.attr) es) || t)
      (differ_same _ _ (λ q. absurd (clash (name_mem text words offset declared e.attr b m q))))
      ∙ or_false (mem (name_of text words offset b) (map (λ (x : Entry). x.attr) es)))
    where
      clash : mem e.attr (names_at text words offset declared) ≡ true → ⊥
      clash there = let z : ◌≡◌ {A = ℕ} 0 1 = cc in omega arith
