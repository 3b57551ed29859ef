-- Laws of comparisons.
use Prim.Native.Nat.{ℕ, zero, suc, ◌+◌, ◌≤◌, ◌<◌}
use mathlib.Core.Path.{◌≡◌, refl, ap, ◌∙◌}
use mathlib.Core.List.{[], ◌∷◌}
use mathlib.Core.Bool.{Bool, true, false, not, ◌&&◌}
use native.Mathlib.Omega.{arith}
use lib.ListN.{length, get_or, drop}
use lib.Dec.{T, eqb, eqb→eq}
use borrow.Author.Tests.{eq-eqb, ne_eqb, lt-ltb, le-ltb}
use Rattle.logic.specs.Tests.{and_left, and_right}
use Rattle.logic.specs.Flags.{neither}
use Rattle.logic.specs.Lists.{drop_at, drop_end}
use Rattle.model.specs.Bytes.{Bytes, bytes_of, same}
use Rattle.model.specs.Choice.{pick, Maybe, nothing, just}
use Rattle.model.specs.Lists.{any}
use Rattle.model.specs.Names.{mem}
use Rattle.model.specs.Forms.{never_names, name_of}
use Rattle.model.specs.TextOrder.{less, equal, greater, byte_order}
use Rattle.compare.specs.Compare.{begins_one_of_six, same_near}

-- texts of different lengths differ
pub same_lengths : (a b : Bytes) → (length a ≡ length b → ⊥) → same a b ≡ false
unfolding same
same_lengths [] [] h = absurd (h refl)
same_lengths [] (y ∷ b) h = refl
same_lengths (x ∷ a) [] h = refl
same_lengths (x ∷ a) (y ∷ b) h = go (eqb x y) (same_lengths a b (λ e. h (ap suc e)))
  where
    go : (t : Bool) → same a b ≡ false → pick t (same a b) false ≡ false
    go true r = r
    go false r = refl

module _ (a b : Bytes) (i : ℕ) where
  pub same_end : length a ≤ i → length b ≤ i → same (drop i a) (drop i b) ≡ true
  unfolding same
  same_end l m = rw (drop_end a i l, drop_end b i m)

  pub compare_end : length a ≤ i → length b ≤ i → byte_order (drop i a) (drop i b) ≡ equal
  unfolding byte_order
  compare_end l m = rw (drop_end a i l, drop_end b i m)

  pub compare_shorter : length a ≤ i → i < length b → byte_order (drop i a) (drop i b) ≡ less
  unfolding byte_order
  compare_shorter l m = rw (drop_end a i l, drop_at b i m)

  pub compare_longer : i < length a → length b ≤ i → byte_order (drop i a) (drop i b) ≡ greater
  unfolding byte_order
  compare_longer l m = rw (drop_at a i l, drop_end b i m)

  module _ (l : i < length a) (m : i < length b) where
    pub same_step : get_or a i 0 ≡ get_or b i 0 → same (drop i a) (drop i b) ≡ same (drop (i + 1) a) (drop (i + 1) b)
    unfolding same
    same_step e = rw (drop_at a i l, drop_at b i m, eq-eqb (get_or a i 0) (get_or b i 0) e)

    pub same_differs : (get_or a i 0 ≡ get_or b i 0 → ⊥) → same (drop i a) (drop i b) ≡ false
    unfolding same
    same_differs e = rw (drop_at a i l, drop_at b i m, ne_eqb (get_or a i 0) (get_or b i 0) e)

    pub compare_less : get_or a i 0 < get_or b i 0 → byte_order (drop i a) (drop i b) ≡ less
    unfolding byte_order
    compare_less h = rw (drop_at a i l, drop_at b i m, lt-ltb (get_or a i 0) (get_or b i 0) h)

    pub compare_greater : get_or b i 0 < get_or a i 0 → byte_order (drop i a) (drop i b) ≡ greater
    unfolding byte_order
    compare_greater h = rw (drop_at a i l, drop_at b i m, le-ltb (get_or a i 0) (get_or b i 0) (omega arith), lt-ltb (get_or b i 0) (get_or a i 0) h)

    pub compare_step : get_or b i 0 ≤ get_or a i 0 → get_or a i 0 ≤ get_or b i 0 → byte_order (drop i a) (drop i b) ≡ byte_order (drop (i + 1) a) (drop (i + 1) b)
    unfolding byte_order
    compare_step h k = rw (drop_at a i l, drop_at b i m, le-ltb (get_or a i 0) (get_or b i 0) h, le-ltb (get_or b i 0) (get_or a i 0) k)

pick_both : (x y z : Bool) → pick x (pick y z false) false ≡ pick (x && y) z false
pick_both true y z = refl
pick_both false y z = refl

-- the same from a place on: a row of the same bytes, and the same behind it
same_row_law : (a b : Bytes) (i n : ℕ) → i + n < length a → i + n < length b
    → same (drop i a) (drop i b) ≡ pick (same_near a b i n) (same (drop (i + suc n) a) (drop (i + suc n) b)) false
unfolding same
same_row_law a b i zero l m = rw (drop_at a i (omega arith), drop_at b i (omega arith))
same_row_law a b i (suc n) l m =
    let e : i + suc n + 1 ≡ i + suc (suc n) = omega arith in
    same_row_law a b i n (omega arith) (omega arith)
    ∙ rw (drop_at a (i + suc n) l, drop_at b (i + suc n) m, e)
    (pick_both (same_near a b i n) (eqb (get_or a (i + suc n) 0) (get_or b (i + suc n) 0)) (same (drop (i + suc (suc n)) a) (drop (i + suc (suc n)) b)))

-- two texts stand as what is left of them behind a row of the same bytes
pub compare_row : (a b : Bytes) (i n : ℕ) → i + n < length a → i + n < length b → T (same_near a b i n)
    → byte_order (drop i a) (drop i b) ≡ byte_order (drop (i + suc n) a) (drop (i + suc n) b)
compare_row a b i zero l m t =
    let e = eqb→eq (get_or a i 0) (get_or b i 0) t in
    compare_step a b i (omega arith) (omega arith) (omega (arith, e)) (omega (arith, e))
compare_row a b i (suc n) l m t =
    let e = eqb→eq (get_or a (i + suc n) 0) (get_or b (i + suc n) 0) (and_right (same_near a b i n) _ t) in
    let k : i + suc n + 1 ≡ i + suc (suc n) = omega arith in
    compare_row a b i n (omega arith) (omega arith) (and_left (same_near a b i n) _ t)
    ∙ rw k at (compare_step a b (i + suc n) l m (omega (arith, e)) (omega (arith, e)))

module _ (a b : Bytes) (i n : ℕ) (l : i + n < length a) (m : i + n < length b) where
  pub row_same : same_near a b i n ≡ true → same (drop i a) (drop i b) ≡ same (drop (i + suc n) a) (drop (i + suc n) b)
  row_same e = same_row_law a b i n l m ∙ rw e

  pub row_differs : same_near a b i n ≡ false → same (drop i a) (drop i b) ≡ false
  row_differs e = same_row_law a b i n l m ∙ rw e

-- the same exactly if equal
pub same_itself : (a : Bytes) → same a a ≡ true
unfolding same
same_itself [] = refl
same_itself (x ∷ a) = rw (eq-eqb x x refl) (same_itself a)

pub same_equal : (a b : Bytes) → same a b ≡ true → a ≡ b
unfolding same
same_equal [] [] e = refl
same_equal [] (y ∷ b) e = let z : ◌≡◌ {A = ℕ} 0 1 = cc in absurd (omega arith)
same_equal (x ∷ a) [] e = let z : ◌≡◌ {A = ℕ} 0 1 = cc in absurd (omega arith)
same_equal (x ∷ a) (y ∷ b) e = go (eqb x y) refl e (same_equal a b)
  where
    go : (t : Bool) → eqb x y ≡ t → pick t (same a b) false ≡ true → (same a b ≡ true → a ≡ b) → x ∷ a ≡ y ∷ b
    go true p e r = let w : x ≡ y = borrow.Author.Tests.eqb-true x y p in let v : a ≡ b = r e in cc
    go false p e r = let z : ◌≡◌ {A = ℕ} 0 1 = cc in absurd (omega arith)

-- a word of another length than the six is none of them
pub name_by_length : (w : Bytes) → ((n : ℕ) → 3 ≤ n → n ≤ 6 → length w ≡ n → ⊥) → true ≡ not (mem w never_names)
unfolding mem any never_names
name_by_length w h =
    rw (
      same_lengths w (bytes_of "Match") (h 5 (omega arith) (omega arith)),
      same_lengths w (bytes_of "Where") (h 5 (omega arith) (omega arith)),
      same_lengths w (bytes_of "AND") (h 3 (omega arith) (omega arith)),
      same_lengths w (bytes_of "Return") (h 6 (omega arith) (omega arith)),
      same_lengths w (bytes_of "true") (h 4 (omega arith) (omega arith)),
      same_lengths w (bytes_of "false") (h 5 (omega arith) (omega arith)),
    )

-- texts that begin with different bytes differ
pub same_firsts : (a b : Bytes) → 0 < length b → eqb (get_or a 0 0) (get_or b 0 0) ≡ false → same a b ≡ false
unfolding same
same_firsts [] [] l e = absurd (omega (arith, l))
same_firsts [] (y ∷ b) l e = refl
same_firsts (x ∷ a) [] l e = refl
same_firsts (x ∷ a) (y ∷ b) l e = rw e refl

-- a word with another first byte than the six is none of them
pub name_by_first : (w : Bytes) → begins_one_of_six (get_or w 0 0) ≡ false → true ≡ not (mem w never_names)
unfolding mem any never_names begins_one_of_six
name_by_first w h =
    let r5 = neither _ _ h in
    let r4 = neither _ _ r5.0 in
    let r3 = neither _ _ r4.0 in
    let r2 = neither _ _ r3.0 in
    let r1 = neither _ _ r2.0 in
    rw (
      same_firsts w (bytes_of "Match") (omega arith) r1.0,
      same_firsts w (bytes_of "Where") (omega arith) r1.1,
      same_firsts w (bytes_of "AND") (omega arith) r2.1,
      same_firsts w (bytes_of "Return") (omega arith) r3.1,
      same_firsts w (bytes_of "true") (omega arith) r4.1,
      same_firsts w (bytes_of "false") (omega arith) r5.1,
    )

-- a word is a name if it is none of the six
pub name_of_law : (w : Bytes) → name_of w ≡ pick (not (mem w never_names)) (just w) nothing
unfolding name_of
name_of_law w = go (mem w never_names)
  where
    go : (x : Bool) → pick {A = Maybe Bytes} x nothing (just w) ≡ pick (not x) (just w) nothing
    go true = refl
    go false = refl
