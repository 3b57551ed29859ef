-- Laws of the texts that are put: listings that grow at their end. Assumes nothing.
use Prim.Native.Nat.{ℕ, suc, ◌+◌, ◌<◌}
use mathlib.Core.Bool.{Bool, true, false}
use mathlib.Core.Path.{◌≡◌, refl, sym, ap, ◌∙◌}
use mathlib.Core.List.{List, [], ◌∷◌, ◌++◌, map, append_assoc, append-nil}
use native.Mathlib.Numerals.{add-one}
use native.Mathlib.Omega.{arith}
use lib.Dec.{eqb}
use lib.ListN.{length, take, get_or, length-map}
use lib.Seq.{take-suc, length-take-le}
use borrow.Author.Tests.{eq-eqb, ne_eqb}
use Rattle.model.specs.Bytes.{Bytes}
use Rattle.model.specs.Choice.{pick}
use Rattle.model.specs.Writing.{each_behind}
use Rattle.putting.specs.Putting.{Puts}
use Rattle.putting.proofs.PuttingLaws.{puts_nothing, puts_then, puts_same}
use Rattle.putting.specs.Listing.{before, listing}

-- One text before the first and before the others.
pub before_all : (sep : Bytes) (i : ℕ) → before sep sep i ≡ sep
unfolding before
before_all sep i = go (eqb i 0)
  where
    go : (b : Bool) → pick b sep sep ≡ sep
    go true = refl
    go false = refl

pub before_first : (first next : Bytes) (i : ℕ) → i ≡ 0 → before first next i ≡ first
unfolding before
before_first first next i e = rw (eq-eqb i 0 e)

pub before_next : (first next : Bytes) (i : ℕ) → (i ≡ 0 → ⊥) → before first next i ≡ next
unfolding before
before_next first next i e = rw (ne_eqb i 0 e)

-- Texts, each behind a text, with one text more.
each_behind_end : (sep : Bytes) (ts : List Bytes) (t : Bytes) → each_behind sep (ts ++ (t ∷ [])) ≡ each_behind sep ts ++ (sep ++ t)
unfolding each_behind
each_behind_end sep [] t = append-nil (sep ++ t)
each_behind_end sep (u ∷ ts) t = rw (each_behind_end sep ts t) (simp append_assoc)

map_end : {A : Type 0} (f : A → Bytes) (xs : List A) (x : A) → map f (xs ++ (x ∷ [])) ≡ map f xs ++ (f x ∷ [])
map_end f [] x = refl
map_end f (y ∷ xs) x = ap (λ (l : List Bytes). f y ∷ l) (map_end f xs x)

-- A listing with one text more.
pub listing_end : (first next : Bytes) (ts : List Bytes) (t : Bytes)
    → listing first next (ts ++ (t ∷ [])) ≡ listing first next ts ++ (before first next (length ts) ++ t)
unfolding listing each_behind
listing_end first next [] t = rw (before_first first next 0 refl) (append-nil (first ++ t))
listing_end first next (u ∷ ts) t =
    let b : before first next (suc (length ts)) ≡ next = before_next first next (suc (length ts)) (λ e. omega arith) in
    rw (each_behind_end next ts t) (simp (append_assoc, b))

-- The texts of the first elements, with one element more.
pub listing_more : {A : Type 0} (first next : Bytes) (f : A → Bytes) (xs : List A) (d : A) (i : ℕ) → i < length xs
    → listing first next (map f (take (i + 1) xs)) ≡ listing first next (map f (take i xs)) ++ (before first next i ++ f (get_or xs i d))
listing_more first next f xs d i h =
    ap (λ (n : ℕ). listing first next (map f (take n xs))) (add-one i)
    ∙ ap (λ l. listing first next (map f l)) (take-suc xs i d h)
    ∙ ap (listing first next) (map_end f (take i xs) (get_or xs i d))
    ∙ listing_end first next (map f (take i xs)) (f (get_or xs i d))
    ∙ ap (λ (n : ℕ). listing first next (map f (take i xs)) ++ (before first next n ++ f (get_or xs i d)))
    (length-map (take i xs) f ∙ length-take-le i xs (omega arith))

-- Putting the first elements' texts, and one element's more.
pub puts_none : (first next : Bytes) (o : Bytes) (a : ℕ) → Puts o a (listing first next []) o a
unfolding listing
puts_none first next o a = puts_nothing o a

pub puts_one_more : {A : Type 0} {o : Bytes} {a : ℕ} {o' : Bytes} {a' : ℕ} {o'' : Bytes} {a'' : ℕ} (first next : Bytes) (f : A → Bytes) (xs : List A) (d : A)
    (i : ℕ) → i < length xs
    → Puts o a (listing first next (map f (take i xs))) o' a' → Puts o' a' (before first next i ++ f (get_or xs i d)) o'' a''
    → Puts o a (listing first next (map f (take (i + 1) xs))) o'' a''
puts_one_more first next f xs d i h p q = puts_same (sym (listing_more first next f xs d i h)) (puts_then p q)
