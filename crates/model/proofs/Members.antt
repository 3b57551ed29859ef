-- Membership in the lists of the model. A law in -i says how it comes about, the same name in -e what it gives.
use Prim.Native.Nat.{ℕ, zero, suc, ◌<◌}
use mathlib.Core.Path.{◌≡◌, refl, sym, ap, subst}
use mathlib.Core.Logic.{◌⊎◌, inl, inr, ⊎_elim, ◌≢◌}
use mathlib.Core.List.Memᴰ
use mathlib.Core.List.Memᴰ.{append_cases}
use mathlib.Core.List.Memᴰ.{cases_cons}
use mathlib.Core.List.{List, [], ◌∷◌, map}
use mathlib.Core.Bool.{Bool, true, false}
use native.Mathlib.Omega.{arith}
use lib.ListN.{get_or}
use lib.Dec.{T, eqb, eqb→eq, eqb_refl}
use Rattle.model.specs.Bytes.{Bytes, same}
use Rattle.model.specs.Lists.{any, all, keep, joined, up_to, below, place_where, add_new_by, firsts_by}
use Rattle.model.specs.Names.{mem, place, firsts}
use Rattle.model.specs.Graph.{Each}
use Rattle.model.proofs.Decides.{each_all, same→eq, same_refl}
pub use Rattle.model.specs.Lists.{◌∈◌}

-- a test with its answer
pub test : (b : Bool) → T b ⊎ (T b → ⊥)
test true = inl tt
test false = inr (λ t. t)

-- a test that holds is true
pub is_true : (b : Bool) → T b → b ≡ true
is_true true t = refl
is_true false t = absurd t

-- a test that does not hold is false
pub is_false : (b : Bool) → (T b → ⊥) → b ≡ false
is_false true t = absurd (t tt)
is_false false t = refl

module _ {A : Type 0} where
  -- what holds of every element holds of each
  pub each_e : (P : A → Type 0) (l : List A) → Each P l → (x : A) → x ∈ l → P x
  each_e P [] u x m = elim m [ ]
  each_e P (y ∷ l) u x m = ⊎_elim (λ e. subst P (sym e) u.0) (λ t. each_e P l u.1 x t) (cases_cons m)

  -- what holds of each element holds of every element
  pub each_i : (P : A → Type 0) (l : List A) → ((x : A) → x ∈ l → P x) → Each P l
  each_i P [] h = tt
  each_i P (y ∷ l) h = (h y (Memᴰ.head refl), each_i P l (λ x m. h x (Memᴰ.tail m)))

  -- a test that holds somewhere holds of an element
  pub any_e : (p : A → Bool) (l : List A) → T (any p l) → (x : A) × (x ∈ l) × T (p x)
  unfolding any
  any_e p [] t = absurd t
  any_e p (y ∷ l) t = ⊎_elim (λ h. (y, Memᴰ.head refl, h))
      (λ h. let r = any_e p l (rw (is_false (p y) h) at t) in (r.0, Memᴰ.tail r.1, r.2)) (test (p y))

  -- a test that holds of an element holds somewhere
  pub any_i : (p : A → Bool) (l : List A) (x : A) → x ∈ l → T (p x) → T (any p l)
  unfolding any
  any_i p [] x m t = elim m [ ]
  any_i p (y ∷ l) x m t = ⊎_elim (λ h. rw (is_true (p y) h) tt)
      (λ h. ⊎_elim (λ e. absurd (h (subst (λ z. T (p z)) e t))) (λ n. rw (is_false (p y) h) (any_i p l x n t)) (cases_cons m)) (test (p y))

  -- a test that holds everywhere holds of each element
  pub all_e : (p : A → Bool) (l : List A) → T (all p l) → (x : A) → x ∈ l → T (p x)
  all_e p l t = each_e (λ x. T (p x)) l ((each_all (λ x. T (p x)) p (λ x. (λ u. u, λ u. u)) l).1 t)

  -- a test that holds of each element holds everywhere
  pub all_i : (p : A → Bool) (l : List A) → ((x : A) → x ∈ l → T (p x)) → T (all p l)
  all_i p l h = (each_all (λ x. T (p x)) p (λ x. (λ u. u, λ u. u)) l).0 (each_i (λ x. T (p x)) l h)

  -- what is kept is of the list and passes the test
  pub keep_e : (p : A → Bool) (l : List A) (x : A) → x ∈ keep p l → (x ∈ l) × T (p x)
  unfolding keep
  keep_e p [] x m = elim m [ ]
  keep_e p (y ∷ l) x m = ⊎_elim
      (λ h. ⊎_elim (λ e. (Memᴰ.head e, subst (λ z. T (p z)) (sym e) h)) (λ n. let r = keep_e p l x n in (Memᴰ.tail r.0, r.1))
      (cases_cons (rw (is_true (p y) h) at m)))
      (λ h. let r = keep_e p l x (rw (is_false (p y) h) at m) in (Memᴰ.tail r.0, r.1)) (test (p y))

  -- what is of the list and passes the test is kept
  pub keep_i : (p : A → Bool) (l : List A) (x : A) → x ∈ l → T (p x) → x ∈ keep p l
  unfolding keep
  keep_i p [] x m t = elim m [ ]
  keep_i p (y ∷ l) x m t = ⊎_elim
      (λ h. rw (is_true (p y) h) (⊎_elim (λ e. Memᴰ.head e) (λ n. Memᴰ.tail (keep_i p l x n t)) (cases_cons m)))
      (λ h. ⊎_elim (λ e. absurd (h (subst (λ z. T (p z)) e t))) (λ n. rw (is_false (p y) h) (keep_i p l x n t)) (cases_cons m)) (test (p y))

  -- f of an element is among f of the elements
  pub map_i : {B : Type 0} (f : B → A) (l : List B) (x : B) → x ∈ l → f x ∈ map f l
  map_i f [] x m = elim m [ ]
  map_i f (y ∷ l) x m = ⊎_elim (λ e. Memᴰ.head (ap f e)) (λ n. Memᴰ.tail (map_i f l x n)) (cases_cons m)

  -- what is among them is f of an element
  pub map_e : {B : Type 0} (f : B → A) (l : List B) (y : A) → y ∈ map f l → (x : B) × (x ∈ l) × (y ≡ f x)
  map_e f [] y m = elim m [ ]
  map_e f (z ∷ l) y m = ⊎_elim (λ e. (z, Memᴰ.head refl, e)) (λ n. let r = map_e f l y n in (r.0, Memᴰ.tail r.1, r.2)) (cases_cons m)

  -- an element of one of the lists is of the lists joined
  pub joined_i : {B : Type 0} (f : B → List A) (l : List B) (y : B) → y ∈ l → (x : A) → x ∈ f y → x ∈ joined f l
  unfolding joined
  joined_i f [] y m x n = elim m [ ]
  joined_i f (z ∷ l) y m x n = ⊎_elim (λ e. Memᴰ.append_left (joined f l) (subst (λ w. x ∈ f w) e n)) (λ k. Memᴰ.append_right (f z) (joined_i f l y k x n))
      (cases_cons m)

  -- and an element of the lists joined is of one of them
  pub joined_e : {B : Type 0} (f : B → List A) (l : List B) (x : A) → x ∈ joined f l → (y : B) × (y ∈ l) × (x ∈ f y)
  unfolding joined
  joined_e f [] x m = elim m [ ]
  joined_e f (z ∷ l) x m = ⊎_elim (λ n. (z, Memᴰ.head refl, n)) (λ n. let r = joined_e f l x n in (r.0, Memᴰ.tail r.1, r.2))
      (append_cases (f z) m)

-- a test tells whether two are the same
abbrev pub Tells : {A : Type 0} → (A → A → Bool) → Type 0
Tells {A} alike = ((x y : A) → T (alike x y) → x ≡ y) × ((x : A) → T (alike x x))

-- the test of names does
pub same_tells : Tells same
same_tells = (same→eq, same_refl)

-- what holds of lists by such a test: of names, and of woven vertices
module _ {A : Type 0} (alike : A → A → Bool) (tells : Tells alike) where
  -- what is found stands in the list
  pub alike_e : (x : A) (xs : List A) → T (any (alike x) xs) → x ∈ xs
  alike_e x xs t = let r = any_e (alike x) xs t in mathlib.Core.List.Memᴰ.cast (tells.0 x r.0 r.2) r.1

  -- and what stands in a list is found
  pub alike_i : (x : A) (xs : List A) → x ∈ xs → T (any (alike x) xs)
  alike_i x xs m = any_i (alike x) xs x m (tells.1 x)

  -- what is there stays
  pub add_new_by_old : (xs : List A) (w x : A) → x ∈ xs → x ∈ add_new_by alike xs w
  unfolding add_new_by
  add_new_by_old xs w x m = ⊎_elim (λ h. rw (is_true (any (alike w) xs) h) m) (λ h. rw (is_false (any (alike w) xs) h) (Memᴰ.append_left (w ∷ []) m))
      (test (any (alike w) xs))

  -- what is added is there
  add_new_by_new : (xs : List A) (w : A) → w ∈ add_new_by alike xs w
  unfolding add_new_by
  add_new_by_new xs w = ⊎_elim (λ h. rw (is_true (any (alike w) xs) h) (alike_e w xs h))
      (λ h. rw (is_false (any (alike w) xs) h) (Memᴰ.append_right xs (Memᴰ.head refl))) (test (any (alike w) xs))

  add_new_by_e : (xs : List A) (w x : A) → x ∈ add_new_by alike xs w → (x ≡ w) ⊎ (x ∈ xs)
  unfolding add_new_by
  add_new_by_e xs w x m = ⊎_elim (λ h. inr (rw (is_true (any (alike w) xs) h) at m))
      (λ h. ⊎_elim inr (λ n. inl (mathlib.Core.List.Memᴰ.eq_of_singleton n)) (append_cases xs (rw (is_false (any (alike w) xs) h) at m)))
      (test (any (alike w) xs))

  -- what was seen stays
  firsts_by_old : (seen xs : List A) (x : A) → x ∈ seen → x ∈ firsts_by alike seen xs
  unfolding firsts_by
  firsts_by_old seen [] x m = m
  firsts_by_old seen (w ∷ xs) x m = firsts_by_old (add_new_by alike seen w) xs x (add_new_by_old seen w x m)

  -- what stands in the list is among the first appearances
  pub firsts_by_i : (seen xs : List A) (x : A) → x ∈ xs → x ∈ firsts_by alike seen xs
  unfolding firsts_by
  firsts_by_i seen [] x m = elim m [ ]
  firsts_by_i seen (w ∷ xs) x m = ⊎_elim (λ e. firsts_by_old (add_new_by alike seen w) xs x (mathlib.Core.List.Memᴰ.cast e (add_new_by_new seen w)))
      (λ n. firsts_by_i (add_new_by alike seen w) xs x n) (cases_cons m)

  -- a first appearance was seen or is of the list
  pub firsts_by_e : (seen xs : List A) (x : A) → x ∈ firsts_by alike seen xs → (x ∈ seen) ⊎ (x ∈ xs)
  unfolding firsts_by
  firsts_by_e seen [] x m = inl m
  firsts_by_e seen (w ∷ xs) x m = ⊎_elim (λ n. ⊎_elim (λ e. inr (Memᴰ.head e)) inl (add_new_by_e seen w x n)) (λ n. inr (Memᴰ.tail n))
      (firsts_by_e (add_new_by alike seen w) xs x m)

-- a name that is found stands in the list
pub mem_e : (w : Bytes) (ws : List Bytes) → T (mem w ws) → w ∈ ws
unfolding mem
mem_e w ws t = alike_e same same_tells w ws t

-- and a name that stands in a list is found
pub mem_i : (w : Bytes) (ws : List Bytes) → w ∈ ws → T (mem w ws)
unfolding mem
mem_i w ws m = alike_i same same_tells w ws m

-- a name of the list is among the first appearances
pub firsts_i : (seen ws : List Bytes) (x : Bytes) → x ∈ ws → x ∈ firsts seen ws
firsts_i seen ws x m = firsts_by_i same same_tells seen ws x m

-- a first appearance was seen or is of the list
pub firsts_e : (seen ws : List Bytes) (x : Bytes) → x ∈ firsts seen ws → (x ∈ seen) ⊎ (x ∈ ws)
firsts_e seen ws x m = firsts_by_e same same_tells seen ws x m

-- the numbers below n
up_to_old : (n : ℕ) (ns : List ℕ) (x : ℕ) → x ∈ ns → x ∈ up_to n ns
unfolding up_to
up_to_old zero ns x m = m
up_to_old (suc n) ns x m = up_to_old n (n ∷ ns) x (Memᴰ.tail m)

up_to_i : (n : ℕ) (ns : List ℕ) (x : ℕ) → x < n → x ∈ up_to n ns
unfolding up_to
up_to_i zero ns x h = absurd (omega arith)
up_to_i (suc n) ns x h = ⊎_elim (λ t. up_to_old n (n ∷ ns) x (Memᴰ.head (eqb→eq x n t)))
    (λ t. let d : x ≢ n = λ e. t (subst (λ z. T (eqb x z)) e (eqb_refl x)) in up_to_i n (n ∷ ns) x (omega arith)) (test (eqb x n))

-- a number below n is one of them
pub below_i : (n x : ℕ) → x < n → x ∈ below n
below_i n x h = up_to_i n [] x h

up_to_e : (n : ℕ) (ns : List ℕ) (x : ℕ) → x ∈ up_to n ns → (x < n) ⊎ (x ∈ ns)
unfolding up_to
up_to_e zero ns x m = inr m
up_to_e (suc n) ns x m = ⊎_elim (λ h. inl (omega arith)) (λ k. ⊎_elim (λ e. inl (omega arith)) inr (cases_cons k)) (up_to_e n (n ∷ ns) x m)

-- and one of them is below n
pub below_e : (n x : ℕ) → x ∈ below n → x < n
below_e n x m = ⊎_elim (λ h. h) (λ k. elim k [ ]) (up_to_e n [] x m)

-- the place of a name
pub place_map : {A : Type 0} (f : Bytes → A) (d : A) (vs : List Bytes) (v : Bytes) → v ∈ vs → get_or (map f vs) (place v vs) d ≡ f v
unfolding place place_where
place_map f d [] v m = elim m [ ]
place_map f d (x ∷ vs) v m = ⊎_elim
    (λ t. rw (is_true (same v x) t) (ap f (sym (same→eq v x t))))
    (λ t. ⊎_elim (λ e. absurd (t (subst (λ z. T (same v z)) e (same_refl v))))
    (λ n. rw (is_false (same v x) t) (place_map f d vs v n)) (cases_cons m)) (test (same v x))
