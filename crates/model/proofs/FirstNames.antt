-- First appearances: each once, in order. By a test that tells whether two are the same: of names, and of woven vertices.
use Prim.Native.Nat.{◌≤◌, ℕ, suc, ◌+◌, ◌<◌}
use mathlib.Core.Path.{◌≡◌, refl, ap, ◌∙◌}
use mathlib.Core.Bool.{Bool, true, false}
use mathlib.Core.Logic.{⊎_elim}
use mathlib.Core.List.Memᴰ
use mathlib.Core.List.{List, [], ◌∷◌, ◌++◌}
use native.Mathlib.Omega.{arith}
use lib.ListN.{length, length-append, get_or, get_or-append}
use lib.Dec.{T, ltb, ltb→lt, lt→ltb}
use Rattle.model.specs.Bytes.{Bytes, same}
use Rattle.model.specs.Choice.{pick}
use Rattle.model.specs.Lists.{any, place_where, add_new_by, firsts_by}
use Rattle.model.specs.Names.{add_new, firsts, place}
use Rattle.model.proofs.Members.{◌∈◌, test, is_true, is_false, Tells, same_tells, alike_i}
use lib.Seq.{get_or-append-add}
use Rattle.model.proofs.Places.{get_or_in}

-- the place of what is found stays when more comes behind
place_before : {A : Type 0} (p : A → Bool) (xs ys : List A) → T (any p xs) → place_where p (xs ++ ys) ≡ place_where p xs
unfolding place_where any
place_before p [] ys t = absurd t
place_before p (x ∷ xs) ys t = ⊎_elim
    (λ h. rw (is_true (p x) h) refl)
    (λ h. let r = place_before p xs ys (rw (is_false (p x) h) at t) in rw (is_false (p x) h) (ap suc r))
    (test (p x))

-- what comes behind a list that has none of its kind stands at the list's end
place_behind : {A : Type 0} (p : A → Bool) (xs : List A) (x : A) → (T (any p xs) → ⊥) → T (p x) → place_where p (xs ++ (x ∷ [])) ≡ length xs
unfolding place_where any
place_behind p [] x h t = rw (is_true (p x) t) refl
place_behind p (y ∷ xs) x h t = ⊎_elim
    (λ k. absurd (h (rw (is_true (p y) k) tt)))
    (λ k. let r = place_behind p xs x (rw (is_false (p y) k) at h) t in rw (is_false (p y) k) (ap suc r))
    (test (p y))

module _ {A : Type 0} (alike : A → A → Bool) where
  -- first appearances of two lists, one after the other
  pub firsts_by_append : (seen a b : List A) → firsts_by alike seen (a ++ b) ≡ firsts_by alike (firsts_by alike seen a) b
  unfolding firsts_by
  firsts_by_append seen [] b = refl
  firsts_by_append seen (x ∷ a) b = firsts_by_append (add_new_by alike seen x) a b

  -- there are no fewer than before
  pub firsts_by_grow : (seen xs : List A) → length seen ≤ length (firsts_by alike seen xs)
  unfolding firsts_by add_new_by
  firsts_by_grow seen [] = omega arith
  firsts_by_grow seen (x ∷ xs) = let h = firsts_by_grow (add_new_by alike seen x) xs in let g = one (any (alike x) seen) in omega arith
    where
      one : (t : Bool) → length seen ≤ length (pick t seen (seen ++ (x ∷ [])))
      one true = omega arith
      one false = omega (arith, length-append seen (x ∷ []))

module _ {A : Type 0} (alike : A → A → Bool) (tells : Tells alike) (d : A) where
  -- each stands at its own place: none stands twice
  abbrev pub Once : List A → Type 0
  Once xs = (i : ℕ) → i < length xs → place_where (alike (get_or xs i d)) xs ≡ i

  -- and so with one that is new behind
  once_more : (seen : List A) (w : A) → (T (any (alike w) seen) → ⊥) → Once seen → Once (seen ++ (w ∷ []))
  once_more seen w new once i l = ⊎_elim
      (λ t. let h = ltb→lt i (length seen) t in
      rw (get_or-append seen (w ∷ []) d i h)
      (place_before (alike (get_or seen i d)) seen (w ∷ []) (alike_i alike tells _ seen (get_or_in seen i d h)) ∙ once i h))
      (λ t. let h : i < length seen → ⊥ = λ k. t (lt→ltb i (length seen) k) in
      let e : i ≡ length seen + 0 = omega (arith, length-append seen (w ∷ [])) in
      let f : get_or (seen ++ (w ∷ [])) i d ≡ w = ap (λ n. get_or (seen ++ (w ∷ [])) n d) e ∙ get_or-append-add seen (w ∷ []) 0 d in
      rw f (place_behind (alike w) seen w new (tells.1 w) ∙ omega arith))
      (test (ltb i (length seen)))

  -- first appearances stand each at its own place
  pub firsts_by_once : (seen xs : List A) → Once seen → Once (firsts_by alike seen xs)
  unfolding firsts_by add_new_by
  firsts_by_once seen [] once = once
  firsts_by_once seen (w ∷ xs) once = firsts_by_once (add_new_by alike seen w) xs (⊎_elim
      (λ t. rw (is_true (any (alike w) seen) t) once)
      (λ t. rw (is_false (any (alike w) seen) t) (once_more seen w t once)) (test (any (alike w) seen)))

  -- what was seen already adds nothing
  pub firsts_by_known : (seen l : List A) → ((x : A) → x ∈ l → x ∈ seen) → firsts_by alike seen l ≡ seen
  unfolding firsts_by add_new_by
  firsts_by_known seen [] h = refl
  firsts_by_known seen (x ∷ l) h = rw (is_true (any (alike x) seen) (alike_i alike tells x seen (h x (Memᴰ.head refl))))
      (firsts_by_known seen l (λ y m. h y (Memᴰ.tail m)))

-- first appearances of two lists of names, one after the other
pub firsts_append : (seen a b : List Bytes) → firsts seen (a ++ b) ≡ firsts (firsts seen a) b
firsts_append seen a b = firsts_by_append same seen a b

-- names seen already add none
pub firsts_known : (seen l : List Bytes) → ((x : Bytes) → x ∈ l → x ∈ seen) → firsts seen l ≡ seen
firsts_known seen l h = firsts_by_known same same_tells [] seen l h

-- each name of the first appearances stands at its own place
pub firsts_once : (ws : List Bytes) (i : ℕ) → i < length (firsts [] ws) → place (get_or (firsts [] ws) i []) (firsts [] ws) ≡ i
unfolding place
firsts_once ws = firsts_by_once same same_tells [] [] ws (λ i l. absurd (omega arith))

-- a new name is put behind those seen
add_new_one : (seen : List Bytes) (w : Bytes) → (T (any (same w) seen) → ⊥) → firsts seen (w ∷ []) ≡ seen ++ (w ∷ [])
unfolding add_new_by firsts_by
add_new_one seen w t = rw (is_false (any (same w) seen) t) refl

add_new_again : (seen : List Bytes) (w : Bytes) → firsts [] seen ≡ seen → firsts [] (add_new seen w) ≡ add_new seen w
unfolding add_new_by
add_new_again seen w e = ⊎_elim (λ t. rw (is_true (any (same w) seen) t) e)
    (λ t. rw (is_false (any (same w) seen) t) (firsts_append [] seen (w ∷ []) ∙ ap (λ z. firsts z (w ∷ [])) e ∙ add_new_one seen w t)) (test (any (same w) seen))

-- first appearances of first appearances are these
pub firsts_again : (seen l : List Bytes) → firsts [] seen ≡ seen → firsts [] (firsts seen l) ≡ firsts seen l
unfolding firsts_by
firsts_again seen [] e = e
firsts_again seen (x ∷ l) e = firsts_again (add_new seen x) l (add_new_again seen x e)

-- there are no fewer names than before
pub firsts_grow : (seen ws : List Bytes) → length seen ≤ length (firsts seen ws)
firsts_grow seen ws = firsts_by_grow same seen ws
