-- A relationship is there already exactly if its word is.
use Prim.Native.Nat.{ℕ, ◌+◌, ◌*◌, ◌<◌}
use mathlib.Core.Path.{◌≡◌, refl, sym, ap}
use mathlib.Core.List.{List}
use mathlib.Core.Bool.{Bool, true, false, ◌&&◌}
use native.Mathlib.Omega.{arith}
use lib.Dec.{eqb}
use borrow.Author.Tests.{eq-eqb, eqb-true}
use Rattle.logic.specs.Tests.{either, equal_or_not}
use Rattle.model.specs.Bytes.{Bytes, same}
use Rattle.model.specs.Book.{Rel}
use Rattle.model.specs.ReadBook.{related}
use Rattle.book_tables.specs.declared.BookCounts.{BookCounts}
use Rattle.book_tables.specs.Layout.{label_names}
use Rattle.book_tables.specs.View.{name_of, label_part, from_part, to_part, rel_word, rel_from, rel_of, book_at}
use Rattle.book_tables.specs.Fits.{Fits}
use Rattle.book_tables.proofs.ListedLaws.{scan_all, scan_found}
use Rattle.book_tables.proofs.NameLaws.{equal_same, same_equal}

-- a relationship runs with label l from x to y
unfoldable pub runs_between : Bytes → ℕ → ℕ → Rel → Bool
runs_between l x y r = same r.label l && eqb r.from x && eqb r.to y

all_three : (a b c : Bool) → a ≡ true → b ≡ true → c ≡ true → (a && b && c) ≡ true
all_three a b c p q r = rw (p, q, r)

not_all : (a b c : Bool) → (a ≡ true → b ≡ true → c ≡ true → ⊥) → (a && b && c) ≡ false
not_all true true true h = absurd (h refl refl refl)
not_all true true false h = refl
not_all true false c h = refl
not_all false b c h = refl

module _ (text : Bytes) (words : List ℕ) (c : BookCounts) (f : Fits text words c)
    (l x y : ℕ) (lin : l < c.labels) (xin : x < c.nodes) (yin : y < c.nodes) where
  abbrev pub runs : Rel → Bool
  runs = runs_between (name_of text words label_names l) x y

  runs_yes : (i : ℕ) → rel_word words i ≡ l * 65536 + x * 256 + y → runs (rel_of text words i) ≡ true
  unfolding runs_between rel_of
  runs_yes i e =
      let w = f.within in
      all_three _ _ _
      (equal_same _ _ (ap (name_of text words label_names) (let q : label_part (rel_word words i) ≡ l = omega arith in q)))
      (eq-eqb _ _ (let q : from_part (rel_word words i) ≡ x = omega arith in q))
      (eq-eqb _ _ (let q : to_part (rel_word words i) ≡ y = omega arith in q))

  pub runs_no : (i : ℕ) → i < c.relationships → (rel_word words i ≡ l * 65536 + x * 256 + y → ⊥) → runs (rel_of text words i) ≡ false
  unfolding runs_between rel_of
  runs_no i h n = not_all _ _ _ (λ p q r.
      let a : label_part (rel_word words i) ≡ l = f.labels.differ (label_part (rel_word words i)) l (f.rels i h).label lin (same_equal _ _ p) in
      let b = eqb-true (from_part (rel_word words i)) x q in
      let d = eqb-true (to_part (rel_word words i)) y r in
      n (omega arith))

  -- a walk along the chain of the node x
  pub related_here : (i : ℕ) → i < c.relationships → rel_word words i ≡ l * 65536 + x * 256 + y
      → true ≡ related (book_at text words c) (name_of text words label_names l) x y
  unfolding related book_at runs_between
  related_here i h e = sym (scan_found runs (rel_of text words) c.relationships i h (runs_yes i e))

  pub related_not : ((i : ℕ) → i < c.relationships → rel_from words i ≡ x → runs (rel_of text words i) ≡ false)
      → false ≡ related (book_at text words c) (name_of text words label_names l) x y
  unfolding related book_at runs_between
  related_not h = sym (scan_all runs (rel_of text words) c.relationships (λ i m. either (equal_or_not (rel_from words i) x)
      (h i m)
      (λ (_, d). runs_no i m (λ e. let w = f.within in d (omega arith)))))
