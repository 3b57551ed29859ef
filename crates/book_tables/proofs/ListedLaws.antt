-- Laws of `listed`: it grows at its end, rests on its own elements only, and a scan of it goes upwards.
use Prim.Native.Nat.{ℕ, zero, suc, ◌+◌, ◌<◌}
use mathlib.Core.Path.{◌≡◌, refl, sym, ap, ◌∙◌}
use mathlib.Core.List.{List, [], ◌∷◌, ◌++◌, map}
use mathlib.Core.Bool.{Bool, true, false, ◌||◌, ◌&&◌}
use native.Mathlib.Numerals.{add-one}
use native.Mathlib.Omega.{arith}
use lib.ListN.{length, get_or, length-append, get_or-append}
use lib.Seq.{get_or_at}
use Rattle.logic.specs.Tests.{equal_or_not, either}
use Rattle.model.specs.Choice.{pick}
use Rattle.model.specs.Lists.{any, all, place_where, sum}
use Rattle.book_tables.specs.Listed.{listed}

module _ {A : Type 0} where
  pub listed_none : (f : ℕ → A) → listed f 0 ≡ []
  unfolding listed
  listed_none f = refl

  pub listed_more : (f : ℕ → A) (n : ℕ) → listed f (n + 1) ≡ listed f n ++ (f n ∷ [])
  unfolding listed
  listed_more f n = rw add-one

  -- only the elements below n count
  pub listed_same : (f g : ℕ → A) (n : ℕ) → ((i : ℕ) → i < n → f i ≡ g i) → listed f n ≡ listed g n
  unfolding listed
  listed_same f g zero h = refl
  listed_same f g (suc n) h = rw (listed_same f g n (λ i l. h i (omega arith)), h n (omega arith))

  pub length_listed : (f : ℕ → A) (n : ℕ) → length (listed f n) ≡ n
  unfolding listed
  length_listed f zero = refl
  length_listed f (suc n) = rw (length-append, length_listed f n) (add-one n)

  pub get_or_listed : (f : ℕ → A) (n i : ℕ) (d : A) → i < n → get_or (listed f n) i d ≡ f i
  unfolding listed
  get_or_listed f zero i d h = absurd (omega arith)
  get_or_listed f (suc n) i d h = either (equal_or_not i n)
      (λ e. rw e (get_or_at (listed f n) (f n) [] d n (length_listed f n)))
      (λ e. let l : i < n = omega arith in get_or-append (listed f n) (f n ∷ []) d i (rw length_listed l) ∙ get_or_listed f n i d l)

  -- tests over a list that grows at its end
  pub any_end : (p : A → Bool) (xs : List A) (x : A) → any p (xs ++ (x ∷ [])) ≡ (any p xs || p x)
  unfolding any
  any_end p [] x = go (p x)
    where
      go : (t : Bool) → pick t true false ≡ (false || t)
      go true = refl
      go false = refl
  any_end p (y ∷ xs) x = rw (any_end p xs x) (go (p y))
    where
      go : (t : Bool) → pick t true (any p xs || p x) ≡ (pick t true (any p xs) || p x)
      go true = refl
      go false = refl

  pub all_end : (p : A → Bool) (xs : List A) (x : A) → all p (xs ++ (x ∷ [])) ≡ (all p xs && p x)
  unfolding all
  all_end p [] x = go (p x)
    where
      go : (t : Bool) → pick t true false ≡ (true && t)
      go true = refl
      go false = refl
  all_end p (y ∷ xs) x = rw (all_end p xs x) (go (p y))
    where
      go : (t : Bool) → pick t (all p xs && p x) false ≡ (pick t (all p xs) false && p x)
      go true = refl
      go false = refl

  -- no element below k passes, and k does: k is the place
  pub place_end : (p : A → Bool) (xs : List A) (x : A) → any p xs ≡ false → p x ≡ true → place_where p (xs ++ (x ∷ [])) ≡ length xs
  unfolding any place_where
  place_end p [] x h t = rw t
  place_end p (y ∷ xs) x h t = go (p y) (λ e. place_end p xs x e t) h
    where
      go : (b : Bool) → (any p xs ≡ false → place_where p (xs ++ (x ∷ [])) ≡ length xs) → pick b true (any p xs) ≡ false
          → pick b 0 (suc (place_where p (xs ++ (x ∷ [])))) ≡ suc (length xs)
      go true rest e = cc
      go false rest e = ap suc (rest e)

  -- what stands behind a passing element does not move its place
  pub place_kept : (p : A → Bool) (xs : List A) (x : A) → any p xs ≡ true → place_where p (xs ++ (x ∷ [])) ≡ place_where p xs
  unfolding any place_where
  place_kept p [] x h = cc
  place_kept p (y ∷ xs) x h = go (p y) (place_kept p xs x) h
    where
      go : (b : Bool) → (any p xs ≡ true → place_where p (xs ++ (x ∷ [])) ≡ place_where p xs) → pick b true (any p xs) ≡ true
          → pick b 0 (suc (place_where p (xs ++ (x ∷ [])))) ≡ pick b 0 (suc (place_where p xs))
      go true rest e = refl
      go false rest e = ap suc (rest e)

  -- where none passes, the place is the length
  pub place_none : (p : A → Bool) (xs : List A) → any p xs ≡ false → place_where p xs ≡ length xs
  unfolding any place_where
  place_none p [] h = refl
  place_none p (y ∷ xs) h = go (p y) (place_none p xs) h
    where
      go : (b : Bool) → (any p xs ≡ false → place_where p xs ≡ length xs) → pick b true (any p xs) ≡ false → pick b 0 (suc (place_where p xs)) ≡ suc (length xs)
      go true rest e = cc
      go false rest e = ap suc (rest e)

  -- the place of a passing element is inside the list
  pub place_inside : (p : A → Bool) (xs : List A) → any p xs ≡ true → place_where p xs < length xs
  unfolding any place_where
  place_inside p [] h = let z : ◌≡◌ {A = ℕ} 0 1 = cc in omega arith
  place_inside p (y ∷ xs) h = go (p y) (place_inside p xs) h
    where
      go : (b : Bool) → (any p xs ≡ true → place_where p xs < length xs) → pick b true (any p xs) ≡ true → pick b 0 (suc (place_where p xs)) < suc (length xs)
      go true rest e = omega arith
      go false rest e = let l = rest e in omega arith

  -- the element at the place passes
  pub place_passes : (p : A → Bool) (xs : List A) (d : A) → place_where p xs < length xs → p (get_or xs (place_where p xs) d) ≡ true
  unfolding place_where
  place_passes p [] d h = absurd (omega arith)
  place_passes p (y ∷ xs) d h = go (p y) refl (place_passes p xs d) h
    where
      go : (b : Bool) → p y ≡ b → (place_where p xs < length xs → p (get_or xs (place_where p xs) d) ≡ true)
          → pick b 0 (suc (place_where p xs)) < suc (length xs) → p (get_or (y ∷ xs) (pick b 0 (suc (place_where p xs))) d) ≡ true
      go true e rest l = e
      go false e rest l = rest (omega arith)

  -- a scan upwards
  module _ (p : A → Bool) (f : ℕ → A) where
    pub scan_none : any p (listed f 0) ≡ false
    unfolding any listed
    scan_none = refl

    pub scan_on : (k : ℕ) → any p (listed f k) ≡ false → p (f k) ≡ false → any p (listed f (k + 1)) ≡ false
    scan_on k h t = rw (listed_more f k, any_end p (listed f k) (f k), h, t)

    pub scan_all : (n : ℕ) → ((i : ℕ) → i < n → p (f i) ≡ false) → any p (listed f n) ≡ false
    unfolding listed
    scan_all zero h = scan_none
    scan_all (suc n) h = rw (any_end p (listed f n) (f n), scan_all n (λ i l. h i (omega arith)), h n (omega arith))

    pub scan_found : (n k : ℕ) → k < n → p (f k) ≡ true → any p (listed f n) ≡ true
    unfolding listed
    scan_found zero k l t = absurd (omega arith)
    scan_found (suc n) k l t = any_end p (listed f n) (f n) ∙ either (equal_or_not k n)
        (λ e. rw (sym (ap (λ (i : ℕ). p (f i)) e) ∙ t) (or_true (any p (listed f n))))
        (λ e. rw (scan_found n k (omega arith) t))
      where
        or_true : (b : Bool) → (b || true) ≡ true
        or_true true = refl
        or_true false = refl

    pub scan_place : (n k : ℕ) → k < n → any p (listed f k) ≡ false → p (f k) ≡ true → place_where p (listed f n) ≡ k
    unfolding listed
    scan_place zero k l h t = absurd (omega arith)
    scan_place (suc n) k l h t = either (equal_or_not k n)
        (λ e. place_end p (listed f n) (f n) (sym (ap (λ (i : ℕ). any p (listed f i)) e) ∙ h) (sym (ap (λ (i : ℕ). p (f i)) e) ∙ t) ∙ length_listed f n ∙ sym e)
        (λ e. let m : k < n = omega arith in place_kept p (listed f n) (f n) (scan_found n k m t) ∙ scan_place n k m h t)

    pub scan_absent : (n : ℕ) → any p (listed f n) ≡ false → place_where p (listed f n) ≡ n
    scan_absent n h = place_none p (listed f n) h ∙ length_listed f n

pub map_end {ℓ} : {A B : Type ℓ} (g : A → B) (xs : List A) (x : A) → map g (xs ++ (x ∷ [])) ≡ map g xs ++ (g x ∷ [])
map_end g [] x = refl
map_end g (y ∷ xs) x = rw (map_end g xs x)

pub map_listed : {A B : Type 0} (g : A → B) (f : ℕ → A) (n : ℕ) → map g (listed f n) ≡ listed (λ i. g (f i)) n
unfolding listed
map_listed g f zero = refl
map_listed g f (suc n) = map_end g (listed f n) (f n) ∙ rw (map_listed g f n)

pub sum_end : (ns : List ℕ) (n : ℕ) → sum (ns ++ (n ∷ [])) ≡ sum ns + n
unfolding sum
sum_end [] n = omega arith
sum_end (m ∷ ns) n = let e = sum_end ns n in omega arith
