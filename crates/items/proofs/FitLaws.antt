-- An item that is read lies in the text.
use Prim.Native.Nat.{ℕ, zero, suc, ◌+◌, ◌-◌, ◌≤◌}
use mathlib.Core.List.{[], ◌∷◌}
use mathlib.Core.Bool.{Bool, true, false, ◌||◌}
use native.Mathlib.Omega.{arith}
use lib.ListN.{length}
use lib.Dec.{leb, eqb}
use Rattle.model.specs.Bytes.{Bytes}
use Rattle.model.specs.Choice.{pick, Maybe, nothing, just, and_then}
use Rattle.model.specs.Words.{Got, is_letter, is_digit, is_word_byte, run, word_at, before, is_text, text_at, quoted_at, is_whole, biased, decimal, digits_at}
use Rattle.model.specs.Words.{whole_at, read_as}
use Rattle.model.specs.Items.{Item, word, whole, text, quoted, Items, none, onward, onward_with, is_list, plain_at, as_list, opens, list_at, item_at}
use Rattle.text.proofs.PlaceLaws.{run_length}

-- the size of what was read, or 0
unfoldable pub size_or_zero : {A : Type 0} → Maybe (Got A) → ℕ
size_or_zero nothing = 0
size_or_zero (just g) = g.size

fits_pick : {A : Type 0} (n : ℕ) (x : Bool) (a b : Maybe (Got A)) → size_or_zero a ≤ n → size_or_zero b ≤ n → size_or_zero (pick x a b) ≤ n
fits_pick n true a b h k = h
fits_pick n false a b h k = k

fits_as : {A : Type 0} (n : ℕ) (f : A → Item) (o : Maybe (Got A)) → size_or_zero o ≤ n → size_or_zero (read_as f o) ≤ n
unfolding size_or_zero read_as
fits_as n f nothing h = h
fits_as n f (just g) h = h

word_fits : (t : Bytes) → size_or_zero (word_at t) ≤ length t
unfolding word_at size_or_zero
word_fits t = fits_pick (length t) (leb (length (run is_word_byte t)) 24) (just (record { got = run is_word_byte t; size = length (run is_word_byte t) }))
    nothing (run_length is_word_byte t) (omega arith)

digits_fit : (m : Bool) (t : Bytes) → size_or_zero (digits_at m t) ≤ length t + pick m 1 0
unfolding digits_at size_or_zero
digits_fit m t =
    fits_pick (length t + pick m 1 0) (is_whole m (run is_digit t))
    (just (record { got = biased m (decimal 0 (run is_digit t)); size = length (run is_digit t) + pick m 1 0 })) nothing
    (omega (arith, run_length is_digit t)) (omega arith)

whole_fits : (t : Bytes) → size_or_zero (whole_at t) ≤ length t
unfolding whole_at size_or_zero
whole_fits [] = omega arith
whole_fits (b ∷ t) = fits_pick (suc (length t)) (eqb b 45) (digits_at true t) (digits_at false (b ∷ t)) (omega (arith, digits_fit true t))
    (omega (arith, digits_fit false (b ∷ t)))

-- what stands before a byte leaves room for that byte
length_or : Maybe Bytes → ℕ
length_or nothing = 0
length_or (just t) = suc (length t)

before_fits : (q : ℕ) (t : Bytes) → length_or (before q t) ≤ length t
unfolding before length_or and_then
before_fits q [] = omega arith
before_fits q (b ∷ t) = go (eqb b q) (before q t) (before_fits q t)
  where
    go : (x : Bool) (o : Maybe Bytes) → length_or o ≤ length t → length_or (pick x (just []) (and_then o (λ u. just (b ∷ u)))) ≤ suc (length t)
    go true o h = omega arith
    go false nothing h = omega arith
    go false (just u) h = omega arith

text_fits : (t : Bytes) → size_or_zero (text_at t) ≤ suc (length t)
unfolding text_at size_or_zero and_then length_or
text_fits t = go (before 39 t) (before_fits 39 t)
  where
    go : (o : Maybe Bytes) → length_or o ≤ length t
        → size_or_zero (and_then o (λ u. pick (is_text u) (just (record { got = u; size = length u + 2 })) nothing)) ≤ suc (length t)
    go nothing h = omega arith
    go (just u) h = fits_pick (suc (length t)) (is_text u) (just (record { got = u; size = length u + 2 })) nothing (omega arith) (omega arith)

quoted_fits : (t : Bytes) → size_or_zero (quoted_at t) ≤ suc (length t)
unfolding quoted_at size_or_zero and_then length_or
quoted_fits t = go (before 34 t) (before_fits 34 t)
  where
    go : (o : Maybe Bytes) → length_or o ≤ length t → size_or_zero (and_then o (λ u. just (record { got = u; size = length u + 2 }))) ≤ suc (length t)
    go nothing h = omega arith
    go (just u) h = omega arith

plain_fits : (t : Bytes) → size_or_zero (plain_at t) ≤ length t
unfolding plain_at size_or_zero
plain_fits [] = omega arith
plain_fits (b ∷ s) =
    let n : ℕ = suc (length s) in
    fits_pick n (is_letter b) (read_as word (word_at (b ∷ s)))
    (pick (is_digit b || eqb b 45) (read_as whole (whole_at (b ∷ s)))
    (pick (eqb b 39) (read_as text (text_at s)) (pick (eqb b 34) (read_as quoted (quoted_at s)) nothing)))
    (fits_as n word (word_at (b ∷ s)) (word_fits (b ∷ s)))
    (fits_pick n (is_digit b || eqb b 45) (read_as whole (whole_at (b ∷ s)))
    (pick (eqb b 39) (read_as text (text_at s)) (pick (eqb b 34) (read_as quoted (quoted_at s)) nothing))
    (fits_as n whole (whole_at (b ∷ s)) (whole_fits (b ∷ s)))
    (fits_pick n (eqb b 39) (read_as text (text_at s)) (pick (eqb b 34) (read_as quoted (quoted_at s)) nothing) (fits_as n text (text_at s) (text_fits s))
    (fits_pick n (eqb b 34) (read_as quoted (quoted_at s)) nothing (fits_as n quoted (quoted_at s) (quoted_fits s)) (omega arith))))

-- the items of a list and its closing bracket are in the text
onward_fits : (n : ℕ) (o : Maybe (Got Items)) → size_or_zero o ≤ n → size_or_zero (onward o) ≤ suc n
unfolding onward size_or_zero
onward_fits n nothing h = omega arith
onward_fits n (just g) h = omega arith

with_fits : (n : ℕ) (x : Item) (o : Maybe (Got Items)) → size_or_zero o ≤ n → size_or_zero (onward_with x o) ≤ suc n
unfolding onward_with size_or_zero
with_fits n x nothing h = omega arith
with_fits n x (just g) h = omega arith

list_fits : (read : Bytes → Maybe (Got Item)) (free : Bool) (k : ℕ) (t : Bytes) → size_or_zero (list_at read free k t) ≤ length t
unfolding list_at size_or_zero and_then
list_fits read free k [] = omega arith
list_fits read free (suc k) (b ∷ t) = onward_fits (length t) (list_at read free k t) (list_fits read free k t)
list_fits read free zero (b ∷ t) =
    fits_pick n (eqb b 32) (onward (list_at read true 0 t)) (pick (eqb b 41) (just (record { got = none; size = 1 })) (pick (free || eqb b 40) item nothing))
    (onward_fits (length t) (list_at read true 0 t) (list_fits read true 0 t))
    (fits_pick n (eqb b 41) (just (record { got = none; size = 1 })) (pick (free || eqb b 40) item nothing) (omega arith)
    (fits_pick n (free || eqb b 40) item nothing (go (read (b ∷ t)) (λ f k. list_fits read f k t)) (omega arith)))
  where
    n : ℕ
    n = suc (length t)

    then : Maybe (Got Item) → Maybe (Got Items)
    then o = and_then o (λ g. onward_with g.got (list_at read (is_list g.got) (g.size - 1) t))

    item : Maybe (Got Items)
    item = then (read (b ∷ t))

    go : (o : Maybe (Got Item)) → ((f : Bool) (k : ℕ) → size_or_zero (list_at read f k t) ≤ length t) → size_or_zero (then o) ≤ n
    go nothing r = omega arith
    go (just g) r = with_fits (length t) g.got (list_at read (is_list g.got) (g.size - 1) t) (r (is_list g.got) (g.size - 1))

as_list_fits : (n : ℕ) (o : Maybe (Got Items)) → size_or_zero o ≤ n → size_or_zero (as_list o) ≤ suc n
unfolding as_list size_or_zero
as_list_fits n nothing h = omega arith
as_list_fits n (just g) h = omega arith

-- an item is in the text
pub item_fits : (d : ℕ) (t : Bytes) → size_or_zero (item_at d t) ≤ length t
unfolding item_at size_or_zero opens
item_fits zero t = fits_pick (length t) (opens t) nothing (plain_at t) (omega arith) (plain_fits t)
item_fits (suc d) [] = plain_fits []
item_fits (suc d) (b ∷ t) =
    fits_pick (suc (length t)) (eqb b 40) (as_list (list_at (item_at d) true 0 t)) (plain_at (b ∷ t))
    (as_list_fits (length t) (list_at (item_at d) true 0 t) (list_fits (item_at d) true 0 t)) (plain_fits (b ∷ t))
