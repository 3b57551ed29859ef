-- Lists that go together, element by element.
use Prim.Native.Nat.{ℕ, zero, suc}
use mathlib.Core.Path.{◌≡◌, refl, ap}
use mathlib.Core.List.{List, [], ◌∷◌, map}
use mathlib.Core.Bool.{Bool}
use lib.ListN.{length, get_or}
use Rattle.model.specs.Choice.{pick}
use Rattle.model.specs.Lists.{place_where}
use Rattle.model.specs.Graph.{Each}
use Rattle.model.specs.SameBook.{Together}

-- such lists are equally long
pub together_length : {A : Type 0} (P : A → A → Type 0) (xs ys : List A) → Together P xs ys → length xs ≡ length ys
together_length P [] [] t = refl
together_length P [] (y ∷ ys) t = absurd t
together_length P (x ∷ xs) [] t = absurd t
together_length P (x ∷ xs) (y ∷ ys) t = ap suc (together_length P xs ys t.1)

-- a function that gives the same of two elements gives the same list of two lists
pub together_map : {A B : Type 0} (P : A → A → Type 0) (f : A → B) → ((x y : A) → P x y → f x ≡ f y)
    → (xs ys : List A) → Together P xs ys → map f xs ≡ map f ys
together_map P f h [] [] t = refl
together_map P f h [] (y ∷ ys) t = absurd t
together_map P f h (x ∷ xs) [] t = absurd t
together_map P f h (x ∷ xs) (y ∷ ys) t = let e = h x y t.0 in let r = together_map P f h xs ys t.1 in λ i. e i ∷ r i

-- a function that keeps elements together keeps lists together
pub together_both : {A B : Type 0} (P : A → A → Type 0) (Q : B → B → Type 0) (f : A → B) → ((x y : A) → P x y → Q (f x) (f y))
    → (xs ys : List A) → Together P xs ys → Together Q (map f xs) (map f ys)
together_both P Q f h [] [] t = tt
together_both P Q f h [] (y ∷ ys) t = absurd t
together_both P Q f h (x ∷ xs) [] t = absurd t
together_both P Q f h (x ∷ xs) (y ∷ ys) t = (h x y t.0, together_both P Q f h xs ys t.1)

-- what stands at one place goes together, where what stands past the end does
pub together_at : {A : Type 0} (P : A → A → Type 0) (d e : A) → P d e → (xs ys : List A) → Together P xs ys → (n : ℕ) → P (get_or xs n d) (get_or ys n e)
together_at P d e p [] [] t n = p
together_at P d e p [] (y ∷ ys) t n = absurd t
together_at P d e p (x ∷ xs) [] t n = absurd t
together_at P d e p (x ∷ xs) (y ∷ ys) t zero = t.0
together_at P d e p (x ∷ xs) (y ∷ ys) t (suc n) = together_at P d e p xs ys t.1 n

-- a test that tells no difference between two elements is first passed at one place
pub together_place : {A : Type 0} (P : A → A → Type 0) (f : A → Bool) → ((x y : A) → P x y → f x ≡ f y)
    → (xs ys : List A) → Together P xs ys → place_where f xs ≡ place_where f ys
unfolding place_where
together_place P f h [] [] t = refl
together_place P f h [] (y ∷ ys) t = absurd t
together_place P f h (x ∷ xs) [] t = absurd t
together_place P f h (x ∷ xs) (y ∷ ys) t = let e = h x y t.0 in let r = together_place P f h xs ys t.1 in λ i. pick (e i) 0 (suc (r i))

-- the elements of a list go together with what a function gives of each
pub together_with : {A : Type 0} (P : A → A → Type 0) (f : A → A) (xs : List A) → Each (λ x. P x (f x)) xs → Together P xs (map f xs)
together_with P f [] u = tt
together_with P f (x ∷ xs) u = (u.0, together_with P f xs u.1)

-- a list goes together with itself
pub together_itself : {A : Type 0} (P : A → A → Type 0) → ((x : A) → P x x) → (xs : List A) → Together P xs xs
together_itself P h [] = tt
together_itself P h (x ∷ xs) = (h x, together_itself P h xs)

-- lists that go together do so the other way round
pub together_turned : {A : Type 0} (P : A → A → Type 0) → ((x y : A) → P x y → P y x) → (xs ys : List A) → Together P xs ys → Together P ys xs
together_turned P h [] [] t = tt
together_turned P h [] (y ∷ ys) t = absurd t
together_turned P h (x ∷ xs) [] t = absurd t
together_turned P h (x ∷ xs) (y ∷ ys) t = (h x y t.0, together_turned P h xs ys t.1)

-- and from a list to a third
pub together_on : {A : Type 0} (P : A → A → Type 0) → ((x y z : A) → P x y → P y z → P x z)
    → (xs ys zs : List A) → Together P xs ys → Together P ys zs → Together P xs zs
together_on P h [] [] [] t u = tt
together_on P h [] [] (z ∷ zs) t u = absurd u
together_on P h [] (y ∷ ys) zs t u = absurd t
together_on P h (x ∷ xs) [] zs t u = absurd t
together_on P h (x ∷ xs) (y ∷ ys) [] t u = absurd u
together_on P h (x ∷ xs) (y ∷ ys) (z ∷ zs) t u = (h x y z t.0 u.0, together_on P h xs ys zs t.1 u.1)
