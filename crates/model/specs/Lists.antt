-- Lists: tests over them, what passes a test, numbers below a bound, first appearances.
use Rattle.std.specs.Prelude.{ℕ, zero, suc, ◌+◌, Bool, true, false, eqb}
use mathlib.Core.List.{List, [], ◌∷◌, ◌++◌, Memᴰ}
use Rattle.model.specs.Choice.{pick, Maybe, just, and_then}

-- an element of a list
infix 40 ◌∈◌
abbrev pub ◌∈◌ : {A : Type 0} → A → List A → Type 0
a ∈ l = Memᴰ a l

-- a list has no element
unfoldable pub is_nil : {A : Type 0} → List A → Bool
is_nil [] = true
is_nil (x ∷ xs) = false

-- a test holds somewhere in a list
unfoldable pub any : {A : Type 0} → (A → Bool) → List A → Bool
any p [] = false
any p (x ∷ xs) = let rest = any p xs in pick (p x) true rest

-- a test holds everywhere in a list
unfoldable pub all : {A : Type 0} → (A → Bool) → List A → Bool
all p [] = true
all p (x ∷ xs) = let rest = all p xs in pick (p x) rest false

-- the elements that pass a test, in order
unfoldable pub keep : {A : Type 0} → (A → Bool) → List A → List A
keep p [] = []
keep p (x ∷ xs) = let rest = keep p xs in pick (p x) (x ∷ rest) rest

-- f of each element, or nothing where f gives nothing for one
unfoldable pub each : {A B : Type 0} → (A → Maybe B) → List A → Maybe (List B)
each f [] = just []
each f (x ∷ xs) = let rest = each f xs in and_then (f x) (λ y. and_then rest (λ ys. just (y ∷ ys)))

-- the lists that f gives, one after another
unfoldable pub joined : {A B : Type 0} → (A → List B) → List A → List B
joined f [] = []
joined f (x ∷ xs) = f x ++ joined f xs

-- the sum of numbers
unfoldable pub sum : List ℕ → ℕ
sum [] = 0
sum (n ∷ ns) = n + sum ns

-- a number is one of a list
unfoldable pub memℕ : ℕ → List ℕ → Bool
memℕ n ns = any (eqb n) ns

-- 0 .. n - 1 in front of a list of numbers
unfoldable pub up_to : ℕ → List ℕ → List ℕ
up_to zero ns = ns
up_to (suc n) ns = up_to n (n ∷ ns)

-- 0 .. n - 1
abbrev pub below : ℕ → List ℕ
below n = up_to n []

-- the place of the first element that passes a test, counted from 0; the list's length if none does
unfoldable pub place_where : {A : Type 0} → (A → Bool) → List A → ℕ
place_where p [] = 0
place_where p (x ∷ xs) = let rest = suc (place_where p xs) in pick (p x) 0 rest

-- an element put behind a list that has it not yet, by a test that tells whether two elements are the same
unfoldable pub add_new_by : {A : Type 0} → (A → A → Bool) → List A → A → List A
add_new_by alike xs x = pick (any (alike x) xs) xs (xs ++ (x ∷ []))

-- every element once, in order of first appearance, behind those seen already, by such a test
unfoldable pub firsts_by : {A : Type 0} → (A → A → Bool) → List A → List A → List A
firsts_by alike seen [] = seen
firsts_by alike seen (x ∷ xs) = firsts_by alike (add_new_by alike seen x) xs
