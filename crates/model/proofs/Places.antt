-- What stands at a place of a list, and lists under a function.
use Prim.Native.Nat.{ℕ, zero, suc, ◌<◌}
use mathlib.Core.Path.{◌≡◌, refl, sym, ap, ap₂, subst, ◌∙◌}
use mathlib.Core.Logic.{⊎_elim}
use mathlib.Core.List.Memᴰ
use mathlib.Core.List.Memᴰ.{cases_cons}
use mathlib.Core.List.{List, [], ◌∷◌, ◌++◌, map, append_assoc, append-nil}
use mathlib.Core.Bool.{Bool}
use native.Mathlib.Omega.{arith}
use lib.ListN.{length, get_or}
use lib.Dec.{T}
use Rattle.model.specs.Bytes.{Bytes, same}
use Rattle.model.specs.Choice.{pick}
use Rattle.model.specs.Lists.{is_nil, joined, keep, place_where}
use Rattle.model.specs.Names.{mem, twice, place}
use Rattle.model.proofs.Decides.{same→eq, same_refl}
use Rattle.model.proofs.Members.{◌∈◌, test, is_true, is_false, mem_i, Tells, same_tells}

-- what stands in a list stands at its place, by a test that tells whether two are the same
pub at_place_by : {A : Type 0} (alike : A → A → Bool) → Tells alike → (d : A) (xs : List A) (x : A) → x ∈ xs
    → (place_where (alike x) xs < length xs) × (get_or xs (place_where (alike x) xs) d ≡ x)
unfolding place_where
at_place_by alike tells d [] x m = elim m [ ]
at_place_by alike tells d (y ∷ xs) x m = ⊎_elim
    (λ t. rw (is_true (alike x y) t) (omega arith, sym (tells.0 x y t)))
    (λ t. ⊎_elim (λ e. absurd (t (subst (λ z. T (alike x z)) e (tells.1 x))))
    (λ n. let r = at_place_by alike tells d xs x n in rw (is_false (alike x y) t) (omega (arith, r.0), r.1)) (cases_cons m)) (test (alike x y))

-- a name of a list stands at its place
pub at_place : (vs : List Bytes) (v : Bytes) → v ∈ vs → (place v vs < length vs) × (get_or vs (place v vs) [] ≡ v)
unfolding place
at_place vs v m = at_place_by same same_tells [] vs v m

-- names of one place are one name
pub place_injective : (vs : List Bytes) (v u : Bytes) → v ∈ vs → u ∈ vs → place v vs ≡ place u vs → v ≡ u
place_injective vs v u n k e = sym (at_place vs v n).1 ∙ ap (λ i. get_or vs i []) e ∙ (at_place vs u k).1

-- what stands at a place is of the list
pub get_or_in : {A : Type 0} (l : List A) (i : ℕ) (d : A) → i < length l → get_or l i d ∈ l
get_or_in [] i d h = absurd (omega arith)
get_or_in (x ∷ l) zero d h = Memᴰ.head refl
get_or_in (x ∷ l) (suc i) d h = Memᴰ.tail (get_or_in l i d (omega arith))

-- f of what stands at a place
pub get_or_map : {A B : Type 0} (f : A → B) (l : List A) (i : ℕ) (a : A) (d : B) → i < length l → get_or (map f l) i d ≡ f (get_or l i a)
get_or_map f [] i a d h = absurd (omega arith)
get_or_map f (x ∷ l) zero a d h = refl
get_or_map f (x ∷ l) (suc i) a d h = get_or_map f l i a d (omega arith)

-- f of each element is as long a list
pub length_map : {A B : Type 0} (f : A → B) (l : List A) → length (map f l) ≡ length l
length_map f [] = refl
length_map f (x ∷ l) = ap suc (length_map f l)

-- a name that stands again further on stands twice
pub twice_i : (w : Bytes) (ws : List Bytes) → w ∈ ws → T (twice (w ∷ ws))
unfolding twice
twice_i w ws m = rw (is_true (mem w ws) (mem_i w ws m)) tt

-- a name that stands twice further on stands twice
pub twice_tail : (w : Bytes) (ws : List Bytes) → T (twice ws) → T (twice (w ∷ ws))
unfolding twice
twice_tail w ws t = ⊎_elim (λ h. rw (is_true (mem w ws) h) tt) (λ h. rw (is_false (mem w ws) h) t) (test (mem w ws))

-- where no name stands twice, the name at a place has that place
pub place_at : (vs : List Bytes) (i : ℕ) → (T (twice vs) → ⊥) → i < length vs → place (get_or vs i []) vs ≡ i
unfolding place place_where
place_at [] i once l = absurd (omega arith)
place_at (x ∷ vs) zero once l = rw (is_true (same x x) (same_refl x)) refl
place_at (x ∷ vs) (suc i) once l = let w = get_or vs i [] in ⊎_elim
    (λ t. absurd (once (twice_i x vs (subst (λ z. z ∈ vs) (same→eq w x t) (get_or_in vs i [] (omega arith))))))
    (λ t. rw (is_false (same w x) t) (ap suc (place_at vs i (λ u. once (twice_tail x vs u)) (omega arith))))
    (test (same w x))

-- g, then f, is h on the elements of a list
pub map_to : {A B C : Type 0} (f : B → C) (g : A → B) (h : A → C) (l : List A) → ((x : A) → x ∈ l → f (g x) ≡ h x) → map f (map g l) ≡ map h l
map_to f g h [] k = refl
map_to f g h (x ∷ l) k = let a = k x (Memᴰ.head refl) in let b = map_to f g h l (λ y m. k y (Memᴰ.tail m)) in λ i. a i ∷ b i

-- f takes back what g gave
pub map_back : {A B : Type 0} (f : B → A) (g : A → B) (l : List A) → ((x : A) → x ∈ l → f (g x) ≡ x) → map f (map g l) ≡ l
map_back f g [] k = refl
map_back f g (x ∷ l) k = let a = k x (Memᴰ.head refl) in let b = map_back f g l (λ y m. k y (Memᴰ.tail m)) in λ i. a i ∷ b i

-- f of each element is empty where the list is
pub is_nil_map : {A B : Type 0} (f : A → B) (l : List A) → is_nil (map f l) ≡ is_nil l
unfolding is_nil
is_nil_map f [] = refl
is_nil_map f (x ∷ l) = refl

-- f of each element of two lists, one after the other
pub map_append : {A B : Type 0} (f : A → B) (a b : List A) → map f (a ++ b) ≡ map f a ++ map f b
map_append f [] b = refl
map_append f (x ∷ a) b = ap (λ z. f x ∷ z) (map_append f a b)

-- the lists that f gives, of two lists one after the other
pub joined_append : {A B : Type 0} (f : A → List B) (a b : List A) → joined f (a ++ b) ≡ joined f a ++ joined f b
unfolding joined
joined_append f [] b = refl
joined_append f (x ∷ a) b = ap (λ z. f x ++ z) (joined_append f a b) ∙ sym (append_assoc (f x) (joined f a) (joined f b))

pub joined_end : {A B : Type 0} (f : A → List B) (a : List A) (x : A) → joined f (a ++ (x ∷ [])) ≡ joined f a ++ f x
unfolding joined
joined_end f a x = joined_append f a (x ∷ []) ∙ ap (λ r. joined f a ++ r) (append-nil (f x))

-- tests that agree on the elements keep the same ones
pub keep_same : {A : Type 0} (p q : A → Bool) (l : List A) → ((x : A) → x ∈ l → p x ≡ q x) → keep p l ≡ keep q l
unfolding keep
keep_same p q [] e = refl
keep_same p q (x ∷ l) e = ap₂ (λ t r. pick t (x ∷ r) r) (e x (Memᴰ.head refl)) (keep_same p q l (λ y i. e y (Memᴰ.tail i)))

-- elements kept by what f gives of them
pub map_keep : {A B : Type 0} (f : A → B) (p : B → Bool) (l : List A) → map f (keep (λ x. p (f x)) l) ≡ keep p (map f l)
unfolding keep
map_keep f p [] = refl
map_keep f p (x ∷ l) = ⊎_elim
    (λ t. rw (is_true (p (f x)) t) (ap (λ z. f x ∷ z) (map_keep f p l)))
    (λ t. rw (is_false (p (f x)) t) (map_keep f p l)) (test (p (f x)))
