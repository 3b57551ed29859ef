-- Later names, and the first that is stuck, as names come one by one at the end.
use Prim.Native.Nat.{ℕ, zero, suc, ◌+◌, ◌<◌}
use mathlib.Core.Path.{◌≡◌, refl, sym, ap, ◌∙◌}
use mathlib.Core.List.{List, [], ◌∷◌, ◌++◌, append_assoc, append-nil}
use mathlib.Core.Bool.{Bool, true, false, ◌||◌}
use native.Mathlib.Omega.{arith}
use lib.Dec.{ltb}
use borrow.Author.Tests.{lt-ltb, le-ltb, ltb-true, ltb-false}
use Rattle.logic.specs.Flags.{or_true, or_false}
use Rattle.logic.specs.Tests.{either, equal_or_not}
use Rattle.model.specs.Bytes.{Bytes}
use Rattle.model.specs.Choice.{pick, nothing, just}
use Rattle.model.specs.Lists.{any}
use Rattle.model.specs.Names.{Name, same_but_case}
use Rattle.model.specs.Renaming.{later_names, cannot_have, first_stuck}
use Rattle.book_tables.specs.Listed.{listed}
use Rattle.book_tables.proofs.ListedLaws.{any_end}
use Rattle.later_names.specs.Ends.{one, total}
use Rattle.later_names.proofs.Totals.{any_counted}
use Rattle.later_names.proofs.CaseLaws.{any_moved}

-- a name behind the others is later if it is, case aside, one of them or of those above
later_end : (above xs : List Name) (x : Name) → later_names above (xs ++ (x ∷ []))
    ≡ pick (any (same_but_case x) above || any (same_but_case x) xs) (later_names above xs ++ (x ∷ [])) (later_names above xs)
unfolding later_names any
later_end above [] x = rw (or_false (any (same_but_case x) above))
later_end above (y ∷ ys) x =
    go (any (same_but_case y) above) (any (same_but_case x) above || pick (same_but_case x y) true (any (same_but_case x) ys))
    (later_end (y ∷ above) ys x ∙ ap (λ t. pick t (R ++ (x ∷ [])) R) (turned (same_but_case x y) (any (same_but_case x) above) (any (same_but_case x) ys)))
  where
    R : List Name
    R = later_names (y ∷ above) ys

    turned : (p b c : Bool) → (pick p true b || c) ≡ (b || pick p true c)
    turned true b c = sym (or_true b)
    turned false b c = refl

    go : (a t : Bool) → later_names (y ∷ above) (ys ++ (x ∷ [])) ≡ pick t (R ++ (x ∷ [])) R
        → pick a (y ∷ later_names (y ∷ above) (ys ++ (x ∷ []))) (later_names (y ∷ above) (ys ++ (x ∷ [])))
        ≡ pick t (pick a (y ∷ R) R ++ (x ∷ [])) (pick a (y ∷ R) R)
    go true true e = ap (λ z. y ∷ z) e
    go true false e = ap (λ z. y ∷ z) e
    go false true e = e
    go false false e = e

-- no name is stuck so far: the next one is or not
stuck_end : (s : Bytes) (names above xs : List Name) (x : Name) → first_stuck s names above xs ≡ nothing
    → first_stuck s names above (xs ++ (x ∷ [])) ≡ pick (cannot_have s names (above ++ xs) x) (just x) nothing
unfolding first_stuck
stuck_end s names above [] x e = rw (append-nil above)
stuck_end s names above (y ∷ ys) x e = go (cannot_have s names above y) e (stuck_end s names (above ++ (y ∷ [])) ys x)
  where
    go : (t : Bool) → pick t (just y) (first_stuck s names (above ++ (y ∷ [])) ys) ≡ nothing
        → (first_stuck s names (above ++ (y ∷ [])) ys ≡ nothing
        → first_stuck s names (above ++ (y ∷ [])) (ys ++ (x ∷ [])) ≡ pick (cannot_have s names ((above ++ (y ∷ [])) ++ ys) x) (just x) nothing)
        → pick t (just y) (first_stuck s names (above ++ (y ∷ [])) (ys ++ (x ∷ []))) ≡ pick (cannot_have s names (above ++ (y ∷ ys)) x) (just x) nothing
    go true d rest = cc
    go false d rest = rest d ∙ ap (λ z. pick (cannot_have s names z x) (just x) nothing) (append_assoc above (y ∷ []) ys)

-- what is stuck stays so
stuck_kept : (s : Bytes) (names above xs : List Name) (x n : Name) → first_stuck s names above xs ≡ just n → first_stuck s names above (xs ++ (x ∷ [])) ≡ just n
unfolding first_stuck
stuck_kept s names above [] x n e = cc
stuck_kept s names above (y ∷ ys) x n e = go (cannot_have s names above y) e (stuck_kept s names (above ++ (y ∷ [])) ys x n)
  where
    go : (t : Bool) → pick t (just y) (first_stuck s names (above ++ (y ∷ [])) ys) ≡ just n
        → (first_stuck s names (above ++ (y ∷ [])) ys ≡ just n → first_stuck s names (above ++ (y ∷ [])) (ys ++ (x ∷ [])) ≡ just n)
        → pick t (just y) (first_stuck s names (above ++ (y ∷ [])) (ys ++ (x ∷ []))) ≡ just n
    go true d rest = d
    go false d rest = rest d

module _ (f : ℕ → Name) where
  -- the name of a number is, case aside, one above
  abbrev pub later_at : ℕ → Bool
  later_at k = any (same_but_case (f k)) (listed f k)

  -- the later names of the numbers below
  abbrev pub later_below : ℕ → List Name
  later_below k = later_names [] (listed f k)

  -- none, and one number more
  pub later_none : later_below 0 ≡ []
  unfolding listed later_names
  later_none = refl

  pub later_suc : (k : ℕ) → later_below (suc k) ≡ pick (later_at k) (later_below k ++ (f k ∷ [])) (later_below k)
  unfolding listed any
  later_suc k = later_end [] (listed f k) (f k)

  pub later_more : (k : ℕ) → later_below (k + 1) ≡ pick (later_at k) (later_below k ++ (f k ∷ [])) (later_below k)
  later_more k = ap later_below (native.Mathlib.Numerals.add-one k) ∙ later_suc k

  -- how many names below are, case aside, a name
  abbrev pub alikes : Name → ℕ → ℕ
  alikes n k = total (λ j. one (same_but_case n (f j))) k

  -- a name is, case aside, a later one exactly if two are counted
  pub later_counted : (n : Name) (k : ℕ) → any (same_but_case n) (later_below k) ≡ ltb 1 (alikes n k)
  unfolding listed later_names any total
  later_counted n zero = sym (le-ltb 1 0 (omega arith))
  later_counted n (suc k) = ap (any (same_but_case n)) (later_suc k) ∙ go (same_but_case n (f k)) refl (later_at k) refl (later_counted n k)
    where
      same_count : ltb 1 (alikes n k) ≡ ltb 1 (alikes n k + 0)
      same_count = ap (ltb 1) (let e : alikes n k ≡ alikes n k + 0 = omega arith in e)

      -- where the name is one alike, it is later exactly if one is counted
      seen : same_but_case n (f k) ≡ true → later_at k ≡ ltb 0 (alikes n k)
      seen e = sym (any_moved n (f k) (listed f k) e) ∙ any_counted (same_but_case n) f k

      go : (p : Bool) → same_but_case n (f k) ≡ p → (t : Bool) → later_at k ≡ t
          → any (same_but_case n) (later_below k) ≡ ltb 1 (alikes n k)
          → any (same_but_case n) (pick t (later_below k ++ (f k ∷ [])) (later_below k)) ≡ ltb 1 (alikes n k + one p)
      go true e true d r =
          let some = ltb-true 0 (alikes n k) (sym (seen e) ∙ d) in
          any_end (same_but_case n) (later_below k) (f k) ∙ rw e (or_true (any (same_but_case n) (later_below k)))
          ∙ sym (lt-ltb 1 (alikes n k + 1) (omega arith))
      go true e false d r =
          let none = ltb-false 0 (alikes n k) (sym (seen e) ∙ d) in
          r ∙ le-ltb 1 (alikes n k) (omega arith) ∙ sym (le-ltb 1 (alikes n k + 1) (omega arith))
      go false e true d r =
          any_end (same_but_case n) (later_below k) (f k) ∙ rw e (or_false (any (same_but_case n) (later_below k))) ∙ r ∙ same_count
      go false e false d r = r ∙ same_count

  -- no name is stuck yet
  pub free_none : (s : Bytes) (names : List Name) → first_stuck s names [] (later_below 0) ≡ nothing
  unfolding first_stuck listed later_names
  free_none s names = refl

  -- no name is stuck so far, and the next one is not later, or can have its new name, or is stuck
  module _ (s : Bytes) (names : List Name) (k : ℕ) (free : first_stuck s names [] (later_below k) ≡ nothing) where
    pub free_other : later_at k ≡ false → first_stuck s names [] (later_below (k + 1)) ≡ nothing
    free_other e = ap (first_stuck s names []) (later_more k) ∙ rw e free

    step : later_at k ≡ true → first_stuck s names [] (later_below (k + 1)) ≡ pick (cannot_have s names (later_below k) (f k)) (just (f k)) nothing
    step e = ap (first_stuck s names []) (later_more k) ∙ rw e (stuck_end s names [] (later_below k) (f k) free)

    pub free_later : later_at k ≡ true → cannot_have s names (later_below k) (f k) ≡ false → first_stuck s names [] (later_below (k + 1)) ≡ nothing
    free_later e d = step e ∙ rw d

    pub stuck_here : later_at k ≡ true → cannot_have s names (later_below k) (f k) ≡ true → (n : ℕ) → k < n → first_stuck s names [] (later_below n) ≡ just (f k)
    stuck_here e d zero l = absurd (omega arith)
    stuck_here e d (suc n) l = either (equal_or_not k n)
        (λ q. ap (λ i. first_stuck s names [] (later_below i)) (let z : suc n ≡ k + 1 = omega arith in z) ∙ step e ∙ rw d)
        (λ (_, q). ap (first_stuck s names []) (later_suc n) ∙ go (later_at n) (stuck_here e d n (omega arith)))
      where
        go : (t : Bool) → first_stuck s names [] (later_below n) ≡ just (f k)
            → first_stuck s names [] (pick t (later_below n ++ (f n ∷ [])) (later_below n)) ≡ just (f k)
        go true h = stuck_kept s names [] (later_below n) (f n) (f k) h
        go false h = h
