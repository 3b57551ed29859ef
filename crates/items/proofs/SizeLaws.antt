-- What an item read is: at least one byte, and a list exactly where a bracket opens.
use Prim.Native.Nat.{ℕ, zero, suc, ◌+◌, ◌≤◌, ◌<◌}
use mathlib.Core.Path.{◌≡◌, refl}
use mathlib.Core.List.{[], ◌∷◌}
use mathlib.Core.Bool.{Bool, true, false, ◌||◌}
use native.Mathlib.Omega.{arith}
use borrow.Author.Tests.{leb-true}
use lib.ListN.{length, drop}
use lib.Dec.{leb, eqb}
use Rattle.model.specs.Bytes.{Bytes}
use Rattle.model.specs.Choice.{pick, Maybe, nothing, just, and_then}
use Rattle.model.specs.Words.{Got, is_letter, is_digit, is_word_byte, run, word_at, before, is_text, text_at, quoted_at, is_whole, plain_digits, biased}
use Rattle.model.specs.Words.{decimal, digits_at, whole_at, read_as}
use Rattle.model.specs.Items.{Item, word, whole, text, quoted, list, Items, is_list, plain_at, as_list, opens, list_at, item_at}

-- the size of what was read, or 1
unfoldable pub size_or : {A : Type 0} → Maybe (Got A) → ℕ
size_or nothing = 1
size_or (just g) = g.size

-- whether what was read is a list, or x
unfoldable pub kind_or : Bool → Maybe (Got Item) → Bool
kind_or x nothing = x
kind_or x (just g) = is_list g.got

size_pick : {A : Type 0} (y : Bool) (a b : Maybe (Got A)) → 0 < size_or a → 0 < size_or b → 0 < size_or (pick y a b)
size_pick true a b h k = h
size_pick false a b h k = k

size_as : {A : Type 0} (f : A → Item) (o : Maybe (Got A)) → 0 < size_or o → 0 < size_or (read_as f o)
unfolding size_or read_as
size_as f nothing h = h
size_as f (just g) h = h

kind_pick : (y : Bool) (a b : Maybe (Got Item)) → kind_or false a ≡ false → kind_or false b ≡ false → kind_or false (pick y a b) ≡ false
kind_pick true a b h k = h
kind_pick false a b h k = k

kind_as : {A : Type 0} (f : A → Item) (o : Maybe (Got A)) → ((a : A) → is_list (f a) ≡ false) → kind_or false (read_as f o) ≡ false
unfolding kind_or read_as
kind_as f nothing h = refl
kind_as f (just g) h = h g.got

word_size : (b : ℕ) (s : Bytes) → is_letter b ≡ true → 0 < size_or (word_at (b ∷ s))
unfolding size_or word_at run is_word_byte
word_size b s h = rw h (size_pick (leb (suc (length (run is_word_byte s))) 24)
    (just (record { got = b ∷ run is_word_byte s; size = suc (length (run is_word_byte s)) })) nothing (omega arith) (omega arith))

digits_size : (m : Bool) (ds : Bytes) → 0 < size_or
    (pick (is_whole m ds) (just (record { got = biased m (decimal 0 ds); size = length ds + pick m 1 0 })) nothing)
unfolding size_or is_whole plain_digits
digits_size m [] = omega arith
digits_size m (b ∷ ds) = size_pick (is_whole m (b ∷ ds)) (just (record { got = biased m (decimal 0 (b ∷ ds)); size = suc (length ds) + pick m 1 0 }))
    nothing (omega arith) (omega arith)

whole_size : (b : ℕ) (s : Bytes) → 0 < size_or (whole_at (b ∷ s))
unfolding whole_at digits_at
whole_size b s = size_pick (eqb b 45) (digits_at true s) (digits_at false (b ∷ s)) (digits_size true (run is_digit s)) (digits_size false (run is_digit (b ∷ s)))

text_size : (s : Bytes) → 0 < size_or (text_at s)
unfolding size_or text_at and_then
text_size s = go (before 39 s)
  where
    go : (o : Maybe Bytes) → 0 < size_or (and_then o (λ t. pick (is_text t) (just (record { got = t; size = length t + 2 })) nothing))
    go nothing = omega arith
    go (just t) = size_pick (is_text t) (just (record { got = t; size = length t + 2 })) nothing (omega arith) (omega arith)

quoted_size : (s : Bytes) → 0 < size_or (quoted_at s)
unfolding size_or quoted_at and_then
quoted_size s = go (before 34 s)
  where
    go : (o : Maybe Bytes) → 0 < size_or (and_then o (λ t. just (record { got = t; size = length t + 2 })))
    go nothing = omega arith
    go (just t) = omega arith

pub plain_size : (t : Bytes) → 0 < size_or (plain_at t)
unfolding size_or plain_at
plain_size [] = omega arith
plain_size (b ∷ s) = go (is_letter b) refl
  where
    go : (x : Bool) → is_letter b ≡ x → 0 < size_or
        (pick x (read_as word (word_at (b ∷ s))) (pick (is_digit b || eqb b 45) (read_as whole (whole_at (b ∷ s)))
        (pick (eqb b 39) (read_as text (text_at s)) (pick (eqb b 34) (read_as quoted (quoted_at s)) nothing))))
    go true e = size_as word (word_at (b ∷ s)) (word_size b s e)
    go false e =
        size_pick (is_digit b || eqb b 45) (read_as whole (whole_at (b ∷ s)))
        (pick (eqb b 39) (read_as text (text_at s)) (pick (eqb b 34) (read_as quoted (quoted_at s)) nothing))
        (size_as whole (whole_at (b ∷ s)) (whole_size b s))
        (size_pick (eqb b 39) (read_as text (text_at s)) (pick (eqb b 34) (read_as quoted (quoted_at s)) nothing) (size_as text (text_at s) (text_size s))
        (size_pick (eqb b 34) (read_as quoted (quoted_at s)) nothing (size_as quoted (quoted_at s) (quoted_size s)) (omega arith)))

pub plain_kind : (t : Bytes) → kind_or false (plain_at t) ≡ false
unfolding kind_or plain_at is_list
plain_kind [] = refl
plain_kind (b ∷ s) =
    kind_pick (is_letter b) (read_as word (word_at (b ∷ s)))
    (pick (is_digit b || eqb b 45) (read_as whole (whole_at (b ∷ s)))
    (pick (eqb b 39) (read_as text (text_at s)) (pick (eqb b 34) (read_as quoted (quoted_at s)) nothing)))
    (kind_as word (word_at (b ∷ s)) (λ a. refl))
    (kind_pick (is_digit b || eqb b 45) (read_as whole (whole_at (b ∷ s)))
    (pick (eqb b 39) (read_as text (text_at s)) (pick (eqb b 34) (read_as quoted (quoted_at s)) nothing))
    (kind_as whole (whole_at (b ∷ s)) (λ a. refl))
    (kind_pick (eqb b 39) (read_as text (text_at s)) (pick (eqb b 34) (read_as quoted (quoted_at s)) nothing) (kind_as text (text_at s) (λ a. refl))
    (kind_pick (eqb b 34) (read_as quoted (quoted_at s)) nothing (kind_as quoted (quoted_at s) (λ a. refl)) refl)))

list_size : (o : Maybe (Got Items)) → 0 < size_or (as_list o)
unfolding size_or as_list
list_size nothing = omega arith
list_size (just g) = omega arith

list_kind : (o : Maybe (Got Items)) → kind_or true (as_list o) ≡ true
unfolding kind_or as_list is_list
list_kind nothing = refl
list_kind (just g) = refl

pub item_size : (d : ℕ) (t : Bytes) → 0 < size_or (item_at d t)
unfolding item_at size_or
item_size zero t = size_pick (opens t) nothing (plain_at t) (omega arith) (plain_size t)
item_size (suc d) t = size_pick (opens t) (as_list (list_at (item_at d) true 0 (drop 1 t))) (plain_at t) (list_size (list_at (item_at d) true 0 (drop 1 t)))
    (plain_size t)

pub item_kind : (d : ℕ) (t : Bytes) → kind_or (opens t) (item_at d t) ≡ opens t
unfolding item_at kind_or
item_kind zero t = go (opens t)
  where
    go : (x : Bool) → kind_or x (pick x nothing (plain_at t)) ≡ x
    go true = refl
    go false = plain_kind t
item_kind (suc d) t = go (opens t)
  where
    go : (x : Bool) → kind_or x (pick x (as_list (list_at (item_at d) true 0 (drop 1 t))) (plain_at t)) ≡ x
    go true = list_kind (list_at (item_at d) true 0 (drop 1 t))
    go false = plain_kind t

-- what holds of an item that was read and of its size
abbrev pub holds : (Item → ℕ → Type 0) → Maybe (Got Item) → Type 0
holds P nothing = Unit {0}
holds P (just g) = P g.got g.size

holds_pick : (P : Item → ℕ → Type 0) (x : Bool) (a b : Maybe (Got Item)) → holds P a → holds P b → holds P (pick x a b)
holds_pick P true a b h k = h
holds_pick P false a b h k = k

-- what holds of each kind of item holds of every item
module _ (P : Item → ℕ → Type 0) (w : (t : Bytes) → holds P (read_as word (word_at t))) (n : (t : Bytes) → holds P (read_as whole (whole_at t)))
    (x : (t : Bytes) → holds P (read_as text (text_at t))) (y : (t : Bytes) → holds P (read_as quoted (quoted_at t)))
    (l : (o : Maybe (Got Items)) → holds P (as_list o)) where
  plain_holds : (t : Bytes) → holds P (plain_at t)
  unfolding plain_at
  plain_holds [] = tt
  plain_holds (b ∷ s) =
      holds_pick P (is_letter b) (read_as word (word_at (b ∷ s)))
      (pick (is_digit b || eqb b 45) (read_as whole (whole_at (b ∷ s)))
      (pick (eqb b 39) (read_as text (text_at s)) (pick (eqb b 34) (read_as quoted (quoted_at s)) nothing))) (w (b ∷ s))
      (holds_pick P (is_digit b || eqb b 45) (read_as whole (whole_at (b ∷ s)))
      (pick (eqb b 39) (read_as text (text_at s)) (pick (eqb b 34) (read_as quoted (quoted_at s)) nothing)) (n (b ∷ s))
      (holds_pick P (eqb b 39) (read_as text (text_at s)) (pick (eqb b 34) (read_as quoted (quoted_at s)) nothing) (x s)
      (holds_pick P (eqb b 34) (read_as quoted (quoted_at s)) nothing (y s) tt)))

  item_holds : (d : ℕ) (t : Bytes) → holds P (item_at d t)
  unfolding item_at
  item_holds zero t = holds_pick P (opens t) nothing (plain_at t) tt (plain_holds t)
  item_holds (suc d) t = holds_pick P (opens t) (as_list (list_at (item_at d) true 0 (drop 1 t))) (plain_at t) (l (list_at (item_at d) true 0 (drop 1 t)))
      (plain_holds t)

-- a word has at most 24 bytes, a text value at least its two apostrophes, a policy text its two quotes
Sized : Item → ℕ → Type 0
Sized (word w) n = n ≤ 24
Sized (whole w) n = Unit {0}
Sized (text w) n = 2 ≤ n
Sized (quoted w) n = 2 ≤ n
Sized (list w) n = Unit {0}

as_sized : {A : Type 0} (f : A → Item) (o : Maybe (Got A)) → ((a : A) (n : ℕ) → Sized (f a) n) → holds Sized (read_as f o)
unfolding read_as
as_sized f nothing h = tt
as_sized f (just g) h = h g.got g.size

word_sized : (t : Bytes) → holds Sized (read_as word (word_at t))
unfolding read_as word_at Sized
word_sized t = go (leb (length (run is_word_byte t)) 24) refl
  where
    go : (x : Bool) → leb (length (run is_word_byte t)) 24 ≡ x
        → holds Sized (read_as word (pick x (just (record { got = run is_word_byte t; size = length (run is_word_byte t) })) nothing))
    go true e = leb-true (length (run is_word_byte t)) 24 e
    go false e = tt

text_sized : (t : Bytes) → holds Sized (read_as text (text_at t))
unfolding read_as text_at and_then Sized
text_sized t = go (before 39 t)
  where
    by : (u : Bytes) (x : Bool) → holds Sized (read_as text (pick x (just (record { got = u; size = length u + 2 })) nothing))
    by u true = omega arith
    by u false = tt

    go : (o : Maybe Bytes) → holds Sized (read_as text (and_then o (λ u. pick (is_text u) (just (record { got = u; size = length u + 2 })) nothing)))
    go nothing = tt
    go (just u) = by u (is_text u)

quoted_sized : (t : Bytes) → holds Sized (read_as quoted (quoted_at t))
unfolding read_as quoted_at and_then Sized
quoted_sized t = go (before 34 t)
  where
    go : (o : Maybe Bytes) → holds Sized (read_as quoted (and_then o (λ u. just (record { got = u; size = length u + 2 }))))
    go nothing = tt
    go (just u) = omega arith

list_sized : (o : Maybe (Got Items)) → holds Sized (as_list o)
unfolding as_list Sized
list_sized nothing = tt
list_sized (just g) = tt

item_sized : (d : ℕ) (t : Bytes) → holds Sized (item_at d t)
unfolding Sized
item_sized = item_holds Sized word_sized (λ t. as_sized whole (whole_at t) (λ a n. tt)) text_sized quoted_sized list_sized

pub text_room : (d : ℕ) (t w : Bytes) (n : ℕ) → item_at d t ≡ just (record { got = text w; size = n }) → 2 ≤ n
unfolding Sized
text_room d t w n e = rw e at (item_sized d t)

pub quoted_room : (d : ℕ) (t w : Bytes) (n : ℕ) → item_at d t ≡ just (record { got = quoted w; size = n }) → 2 ≤ n
unfolding Sized
quoted_room d t w n e = rw e at (item_sized d t)

pub word_room : (d : ℕ) (t w : Bytes) (n : ℕ) → item_at d t ≡ just (record { got = word w; size = n }) → n ≤ 24
unfolding Sized
word_room d t w n e = rw e at (item_sized d t)
