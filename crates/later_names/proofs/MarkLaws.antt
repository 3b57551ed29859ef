-- The marks of the later names: how they are set one by one, and that they tell which names are later ones.
use Prim.Native.Nat.{ℕ, zero, suc, ◌+◌, ◌≤◌, ◌<◌}
use mathlib.Core.Path.{◌≡◌, refl, sym, ap, ap₂, ◌∙◌}
use mathlib.Core.List.{List, [], ◌∷◌, ◌++◌}
use mathlib.Core.Bool.{Bool, true, false, ◌&&◌, ◌||◌}
use native.Mathlib.Omega.{arith}
use lib.ListN.{length, get_or, set, replicate, length-set, length-replicate, get_or-replicate}
use lib.Seq.{get_or-set_same, get_or-set_other, ext_get_or}
use lib.Dec.{ltb, eqb}
use borrow.Author.Tests.{lt-ltb, le-ltb, eq-eqb, ne_eqb}
use Rattle.logic.specs.Flags.{and_true, and_false, or_false, neither}
use Rattle.logic.specs.Tests.{either, equal_or_not, below_or_not}
use Rattle.model.specs.Bytes.{Bytes, same}
use Rattle.model.specs.Choice.{pick}
use Rattle.model.specs.Lists.{any}
use Rattle.model.specs.Names.{Name, mem, place}
use Rattle.model.specs.Book.{node_names}
use Rattle.model.specs.Renaming.{later_names}
use Rattle.book_tables.specs.declared.BookCounts.{BookCounts}
use Rattle.book_tables.specs.Layout as layout
use Rattle.book_tables.specs.Listed.{listed}
use Rattle.book_tables.specs.View.{name_of, names_at, book_at}
use Rattle.book_tables.specs.Fits.{Fits}
use Rattle.book_tables.proofs.ListedLaws.{any_end, length_listed, get_or_listed}
use Rattle.book_tables.proofs.NameLaws.{equal_same, same_equal, node_names_law, place_named, place_out}
use Rattle.later_names.specs.Later.{is_later, later_marks}
use Rattle.later_names.proofs.LaterLaws.{later_at, later_below, later_suc}
use Rattle.later_names.proofs.NumberLaws.{names_listed, later_at_law}

-- another number is below k exactly if it is below the next
pub below_next : (i k next : ℕ) → next ≡ k + 1 → (i ≡ k → ⊥) → ltb i k ≡ ltb i next
below_next i k next e d = either (below_or_not i k)
    (λ h. lt-ltb i k h ∙ sym (lt-ltb i next (omega arith)))
    (λ h. le-ltb i k h ∙ sym (le-ltb i next (omega (arith, d))))

-- the marks of the numbers below k are set, and no others
pub record MarkedSoFar (names : List Name) (marks : List Bool) (k : ℕ) : Type 0 where
  pub long : length marks ≡ 256
  pub each : (i : ℕ) → i < 256 → get_or marks i false ≡ (ltb i k && is_later names i)

module _ (names : List Name) where
  pub marks_none : MarkedSoFar names (replicate 256 false) 0
  marks_none = record {
    long = length-replicate {A = Bool} 256 false;
    each = λ i l. get_or-replicate 256 i false false l ∙ rw (le-ltb i 0 (omega arith));
  }

  pub marks_more : (marks : List Bool) (k : ℕ) (t : Bool) → k < 256 → MarkedSoFar names marks k → t ≡ is_later names k
      → MarkedSoFar names (set marks k t) (k + 1)
  marks_more marks k t l w e = record {
    long = length-set marks k t ∙ w.long;
    each = λ i h. either (equal_or_not i k)
        (λ q. rw (q, lt-ltb k (k + 1) (omega arith)) (get_or-set_same marks k t false (let z = w.long in omega arith) ∙ e))
        (λ (_, d). get_or-set_other marks k i t false d ∙ w.each i h ∙ ap (λ z. z && is_later names i) (below_next i k (k + 1) (omega arith) d));
  }

  pub marks_all : (marks : List Bool) (k : ℕ) → length names ≡ k → MarkedSoFar names marks k → marks ≡ later_marks names
  unfolding later_marks
  marks_all marks k e w = ext_get_or false marks (listed (λ i. ltb i (length names) && is_later names i) 256)
      (w.long ∙ sym (length_listed (λ i. ltb i (length names) && is_later names i) 256))
      (λ i l. let h : i < 256 = (let z = w.long in omega arith) in
      w.each i h ∙ ap (λ z. ltb i z && is_later names i) (sym e) ∙ sym (get_or_listed (λ i. ltb i (length names) && is_later names i) 256 i false h))

-- the mark of a number
pub mark_at_law : (names : List Name) (i : ℕ) → i < 256 → get_or (later_marks names) i false ≡ (ltb i (length names) && is_later names i)
unfolding later_marks
mark_at_law names i l = get_or_listed (λ i. ltb i (length names) && is_later names i) 256 i false l

-- a name that is none of the names is no later one
none_later : (f : ℕ → Name) (w : Name) (k : ℕ) → mem w (listed f k) ≡ false → mem w (later_below f k) ≡ false
unfolding mem any listed later_names
none_later f w zero e = refl
none_later f w (suc k) e =
    let (rest, here) = neither (any (same w) (listed f k)) (same w (f k)) (sym (any_end (same w) (listed f k) (f k)) ∙ e) in
    ap (any (same w)) (later_suc f k) ∙ go (later_at f k) (none_later f w k rest) here
  where
    go : (t : Bool) → any (same w) (later_below f k) ≡ false → same w (f k) ≡ false
        → any (same w) (pick t (later_below f k ++ (f k ∷ [])) (later_below f k)) ≡ false
    go true r h = any_end (same w) (later_below f k) (f k) ∙ rw (r, h)
    go false r h = r

-- names of which no two are the same
module _ (f : ℕ → Name) (n : ℕ) (differ : (i j : ℕ) → i < n → j < n → f i ≡ f j → i ≡ j) where
  -- names are the same exactly if their numbers are
  pub same_number : (i j : ℕ) → i < n → j < n → same (f i) (f j) ≡ eqb i j
  same_number i j l m = either (equal_or_not i j)
      (λ e. equal_same (f i) (f j) (ap f e) ∙ sym (eq-eqb i j e))
      (λ (_, d). go d (same (f i) (f j)) refl)
    where
      go : (i ≡ j → ⊥) → (t : Bool) → same (f i) (f j) ≡ t → same (f i) (f j) ≡ eqb i j
      go d true e = absurd (d (differ i j l m (same_equal (f i) (f j) e)))
      go d false e = e ∙ sym (ne_eqb i j d)

  -- a number's name is one of the later names below another exactly if it is below and later
  pub later_mem : (j k : ℕ) → j < n → k ≤ n → mem (f j) (later_below f k) ≡ (ltb j k && later_at f j)
  unfolding mem any listed later_names
  later_mem j zero l m = rw (le-ltb j 0 (omega arith))
  later_mem j (suc k) l m = ap (any (same (f j))) (later_suc f k) ∙ go (later_at f k) refl (later_mem j k l (omega arith))
    where
      step : (t : Bool) → any (same (f j)) (later_below f k) ≡ (ltb j k && later_at f j)
          → any (same (f j)) (pick t (later_below f k ++ (f k ∷ [])) (later_below f k)) ≡ ((ltb j k && later_at f j) || (t && eqb j k))
      step true r = any_end (same (f j)) (later_below f k) (f k) ∙ ap₂ (λ a b. a || b) r (same_number j k l (omega arith))
      step false r = r ∙ sym (or_false (ltb j k && later_at f j))

      go : (t : Bool) → later_at f k ≡ t → any (same (f j)) (later_below f k) ≡ (ltb j k && later_at f j)
          → any (same (f j)) (pick t (later_below f k ++ (f k ∷ [])) (later_below f k)) ≡ (ltb j (suc k) && later_at f j)
      go t e r = step t r ∙ either (equal_or_not j k)
          (λ q. rw (q, e, le-ltb k k (omega arith), eq-eqb k k refl, lt-ltb k (suc k) (omega arith)) (and_true t))
          (λ (_, d). rw (ne_eqb j k d, and_false t) (or_false (ltb j k && later_at f j) ∙ ap (λ z. z && later_at f j) (below_next j k (suc k) (omega arith) d)))

-- the marks tell which names are later ones
module _ (text : Bytes) (words : List ℕ) (c : BookCounts) (fits : Fits text words c) where
  abbrev names : List Name
  names = node_names (book_at text words c)

  abbrev name_at : ℕ → Name
  name_at = name_of text words layout.node_names

  pub names_counted : length names ≡ c.nodes
  names_counted = ap length (names_listed text words c) ∙ length_listed name_at c.nodes

  pub marks_tell : (w : Name) → mem w (later_names [] names)
      ≡ pick (ltb (place w names) (length names)) (get_or (later_marks names) (place w names) false) false
  unfolding names_at
  marks_tell w = rw (node_names_law text words c) (either (below_or_not at c.nodes)
      (λ l. rw (lt-ltb at (length all) (let z = counted in omega arith))
      (ap (λ z. mem z (later_names [] all)) (sym (place_named text words layout.node_names c.nodes w l))
      ∙ later_mem name_at c.nodes fits.nodes.differ at c.nodes l (omega arith) ∙ sym (marked l)))
      (λ l. rw (le-ltb at (length all) (let z = counted in omega arith))
      (none_later name_at w c.nodes (place_out text words layout.node_names c.nodes w l))))
    where
      all : List Name
      all = names_at text words layout.node_names c.nodes

      at : ℕ
      at = place w all

      counted : length all ≡ c.nodes
      counted = length_listed name_at c.nodes

      marked : at < c.nodes → get_or (later_marks all) at false ≡ (ltb at c.nodes && later_at name_at at)
      marked l = mark_at_law all at (let z = fits.within.nodes in omega arith)
          ∙ ap₂ (λ n t. ltb at n && t) counted (later_at_law name_at c.nodes all refl at l)
