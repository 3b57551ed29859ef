-- Facts on what stands in a list. Assumes nothing.
use Rattle.std.specs.Prelude.{ℕ, zero, suc, ◌+◌, ◌≤◌, ◌<◌, ◌≡◌, refl, length, get_or, drop}
use Rattle.std.proofs.Common.{sym, drop_of_length-le, drop-cons, add-one, arith}
use mathlib.Core.List.{List, [], ◌∷◌, Memᴰ}

infix 40 ◌∈◌
-- The element stands in the list.
abbrev pub ◌∈◌ : {A : Type 0} → A → List A → Type 0
a ∈ l = Memᴰ a l

pub get_or_in : {A : Type 0} (d : A) (l : List A) (j : ℕ) → j < length l → get_or l j d ∈ l
get_or_in d [] j h = absurd (omega arith)
get_or_in d (x ∷ xs) zero h = Memᴰ.head refl
get_or_in d (x ∷ xs) (suc j) h = Memᴰ.tail (get_or_in d xs j (omega arith))

-- What stands in a list stands at a place of it.
pub in_get_or : {A : Type 0} (d x : A) (l : List A) → x ∈ l → (i : ℕ) × (i < length l) × (get_or l i d ≡ x)
in_get_or {A = A} d x [] x'' = elim x'' [ ]
in_get_or d x (y ∷ ys) (Memᴰ.head e) = (0, omega arith, sym e)
in_get_or d x (y ∷ ys) (Memᴰ.tail m) = let r = in_get_or d x ys m in (suc r.0, omega arith, r.2)

-- A list from a place on is what stands there and what follows, or nothing.
pub drop_at : (l : List ℕ) (i : ℕ) → i < length l → drop i l ≡ get_or l i 0 ∷ drop (i + 1) l
drop_at l i h = rw add-one (drop-cons l i 0 h)

pub drop_end : (l : List ℕ) (i : ℕ) → length l ≤ i → drop i l ≡ []
drop_end l i h = drop_of_length-le l h
