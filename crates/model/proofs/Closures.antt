-- A step that keeps what it has and adds from a stock of elements leaves nothing to add after as many steps as the stock is long.
use Prim.Native.Nat.{ℕ, zero, suc, ◌+◌, ◌<◌, ◌≤◌}
use mathlib.Core.Path.{◌≡◌, refl, sym, ap, subst, ◌∙◌}
use mathlib.Core.Logic.{◌⊎◌, inl, inr, ⊎_elim}
use mathlib.Core.List.Memᴰ
use mathlib.Core.List.{List, [], ◌∷◌}
use mathlib.Core.Bool.{Bool, true, false}
use native.Mathlib.Omega.{arith}
use lib.ListN.{length}
use lib.Dec.{T}
use Rattle.model.specs.Choice.{pick}
use Rattle.model.specs.Lists.{keep}
use Rattle.model.proofs.Members.{◌∈◌, test, is_true, is_false, keep_e, keep_i}

-- every element of one list is an element of the other
abbrev pub Within : {A : Type 0} → List A → List A → Type 0
Within {A} S Z = (x : A) → x ∈ S → x ∈ Z

keep_length : {A : Type 0} (p : A → Bool) (l : List A) → length (keep p l) ≤ length l
unfolding keep
keep_length p [] = omega arith
keep_length p (x ∷ l) = let h = keep_length p l in ⊎_elim (λ t. rw (is_true (p x) t) (omega arith)) (λ t. rw (is_false (p x) t) (omega arith)) (test (p x))

keep_none : {A : Type 0} (l : List A) → [] ≡ keep (λ x. false) l
unfolding keep
keep_none [] = refl
keep_none (x ∷ l) = keep_none l

has_element : {A : Type 0} (l : List A) (x : A) → x ∈ l → 1 ≤ length l
has_element [] x m = elim m [ ]
has_element (y ∷ l) x m = omega arith

-- a weaker test keeps the same elements of a list, or keeps more
keeps_same_or_more : {A : Type 0} (p q : A → Bool) (l : List A) → ((x : A) → x ∈ l → T (p x) → T (q x))
    → (keep p l ≡ keep q l) ⊎ (length (keep p l) < length (keep q l))
unfolding keep
keeps_same_or_more p q [] h = inl refl
keeps_same_or_more p q (x ∷ l) h = go (p x) (q x) (h x (Memᴰ.head refl)) (keeps_same_or_more p q l (λ y m. h y (Memᴰ.tail m)))
  where
    go : (a b : Bool) → (T a → T b) → (keep p l ≡ keep q l) ⊎ (length (keep p l) < length (keep q l))
        → (pick a (x ∷ keep p l) (keep p l) ≡ pick b (x ∷ keep q l) (keep q l)) ⊎
        (length (pick a (x ∷ keep p l) (keep p l)) < length (pick b (x ∷ keep q l) (keep q l)))
    go true true h (inl e) = inl (ap (λ z. x ∷ z) e)
    go true true h (inr m) = inr (omega arith)
    go true false h o = absurd (h tt)
    go false true h (inl e) = let d = ap length e in inr (omega arith)
    go false true h (inr m) = inr (omega arith)
    go false false h o = o

module _ {A : Type 0} (stock : List A) (grow : List A → A → Bool) where
  -- the elements of the stock that pass the test which a list gives
  abbrev pub step : List A → List A
  step S = keep (grow S) stock

  -- k steps
  abbrev pub steps : ℕ → List A → List A
  steps zero S = S
  steps (suc k) S = steps k (step S)

  -- what holds at the start, and of all that a step adds to elements of which it holds, holds after any number of steps
  pub holds_after : (P : A → Type 0) → ((S : List A) → ((x : A) → x ∈ S → P x) → (x : A) → x ∈ stock → T (grow S x) → P x)
      → (k : ℕ) (S : List A) → ((x : A) → x ∈ S → P x) → (x : A) → x ∈ steps k S → P x
  holds_after P h zero S s x m = s x m
  holds_after P h (suc k) S s x m = holds_after P h k (step S) (λ y n. let r = keep_e (grow S) stock y n in h S s y r.0 r.1) x m

  stays : (k : ℕ) (S : List A) → S ≡ step S → steps k S ≡ S
  stays zero S e = refl
  stays (suc k) S e = subst (λ z. steps k z ≡ S) e (stays k S e)

  -- a step keeps what it has
  module _ (own : (S : List A) (x : A) → x ∈ S → T (grow S x)) where
    step_keeps : (S : List A) → Within S stock → Within S (step S)
    step_keeps S w x m = keep_i (grow S) stock x (w x m) (own S x m)

    -- so do any number of steps
    pub steps_keep : (k : ℕ) (S : List A) → Within S stock → Within S (steps k S)
    steps_keep zero S w x m = m
    steps_keep (suc k) S w x m = steps_keep k (step S) (λ y n. (keep_e (grow S) stock y n).0) x (step_keeps S w x m)

    -- one step more adds nothing, or there are more elements after it
    same_or_more : (S : List A) (p : A → Bool) → S ≡ keep p stock → (S ≡ step S) ⊎ (length S < length (step S))
    same_or_more S p e = subst (λ z. (z ≡ step S) ⊎ (length z < length (step S))) (sym e)
        (keeps_same_or_more p (grow S) stock (λ x m t. own S x (subst (λ z. x ∈ z) (sym e) (keep_i p stock x m t))))

    -- after k steps there is nothing to add, or each has added an element and the next adds one too
    stable_or_more : (k : ℕ) (S : List A) (p : A → Bool) → S ≡ keep p stock → (steps k S ≡ step (steps k S)) ⊎ (length S + k < length (step (steps k S)))
    stable_or_more zero S p e = ⊎_elim inl (λ l. inr (omega arith)) (same_or_more S p e)
    stable_or_more (suc k) S p e = ⊎_elim
        (λ d. inl (let s = stays (suc k) S d in s ∙ d ∙ ap step (sym s)))
        (λ l. ⊎_elim inl (λ i. inr (omega arith)) (stable_or_more k (step S) (grow S) refl))
        (same_or_more S p e)

    stable_from : (k : ℕ) (S : List A) (p : A → Bool) → S ≡ keep p stock → length stock ≤ length S + k → steps k S ≡ step (steps k S)
    stable_from k S p e h = ⊎_elim (λ d. d) (λ l. let m = keep_length (grow (steps k S)) stock in absurd (omega arith)) (stable_or_more k S p e)

    -- as many steps as the stock is long leave nothing to add
    pub stable : (S : List A) → Within S stock → steps (length stock) S ≡ step (steps (length stock) S)
    stable [] w = stable_from (length stock) [] (λ x. false) (keep_none stock) (omega arith)
    stable (x ∷ S) w = go (length stock) refl
      where
        go : (n : ℕ) → length stock ≡ n → steps n (x ∷ S) ≡ step (steps n (x ∷ S))
        go zero e = let m = has_element stock x (w x (Memᴰ.head refl)) in absurd (omega arith)
        go (suc n) e = let m = has_element (step (x ∷ S)) x (step_keeps (x ∷ S) w x (Memᴰ.head refl)) in
            stable_from n (step (x ∷ S)) (grow (x ∷ S)) refl (omega arith)

    -- so what passes the test then is there already
    pub closed : (S : List A) → Within S stock → (x : A) → x ∈ stock → T (grow (steps (length stock) S) x) → x ∈ steps (length stock) S
    closed S w x m t = subst (λ z. x ∈ z) (sym (stable S w)) (keep_i (grow (steps (length stock) S)) stock x m t)
