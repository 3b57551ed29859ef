-- What an item other than a list is made of: words, whole numbers, text values, policy texts.
use Rattle.std.specs.Prelude.{ℕ, ◌+◌, ◌-◌, ◌*◌, ◌^◌, [], ◌∷◌, Bool, true, false, not, ◌&&◌, ◌||◌, length, leb, eqb}
use Rattle.model.specs.Bytes.{Bytes}
use Rattle.model.specs.Choice.{pick, Maybe, nothing, just, and_then}
use Rattle.model.specs.Limits.{max_word_bytes, max_text_bytes}
use Rattle.model.specs.Lists.{is_nil, any}

-- what was read, and how many bytes (or signs) it took
pub record Got (A : Type 0) : Type 0 where
  pub got : A
  pub size : ℕ

-- low ≤ b ≤ high
unfoldable pub between : ℕ → ℕ → ℕ → Bool
between low high b = leb low b && leb b high

-- A to Z, a to z
unfoldable pub is_letter : ℕ → Bool
is_letter b = between 65 90 b || between 97 122 b

-- 0 to 9
unfoldable pub is_digit : ℕ → Bool
is_digit b = between 48 57 b

-- a letter, a digit or an underscore
unfoldable pub is_word_byte : ℕ → Bool
is_word_byte b = is_letter b || is_digit b || eqb b 95

-- the bytes at the front that pass a test
unfoldable pub run : (ℕ → Bool) → Bytes → Bytes
run p [] = []
run p (b ∷ s) = let rest = run p s in pick (p b) (b ∷ rest) []

-- the bytes before the first q, if there is one
unfoldable pub before : ℕ → Bytes → Maybe Bytes
before q [] = nothing
before q (b ∷ s) = let rest = before q s in pick (eqb b q) (just []) (and_then rest (λ t. just (b ∷ t)))

-- a word at the front, where a letter stands: 1 to 24 bytes
unfoldable pub word_at : Bytes → Maybe (Got Bytes)
word_at s = let w = run is_word_byte s in pick (leb (length w) max_word_bytes) (just (record { got = w; size = length w })) nothing

-- a whole number z is kept as z + 2^63, so that greater numbers are greater
unfoldable pub biased : Bool → ℕ → ℕ
biased minus n = pick minus (2 ^ 63 - n) (2 ^ 63 + n)

-- the number that digits write, after digits that wrote n
unfoldable pub decimal : ℕ → Bytes → ℕ
decimal n [] = n
decimal n (d ∷ ds) = decimal (n * 10 + (d - 48)) ds

-- digits without a leading zero; 0 stands alone, without a minus
unfoldable pub plain_digits : Bool → Bytes → Bool
plain_digits minus [] = false
plain_digits minus (d ∷ ds) = pick (eqb d 48) (is_nil ds && not minus) true

-- digits of a number from -2^63 to 2^63-1
unfoldable pub is_whole : Bool → Bytes → Bool
is_whole minus ds = plain_digits minus ds && leb (decimal 0 ds) (pick minus (2 ^ 63) (2 ^ 63 - 1))

-- digits at the front, behind a minus or not
unfoldable pub digits_at : Bool → Bytes → Maybe (Got ℕ)
digits_at minus s =
    let ds = run is_digit s in
    pick (is_whole minus ds) (just (record { got = biased minus (decimal 0 ds); size = length ds + pick minus 1 0 })) nothing

-- a whole number at the front, where a digit or a minus stands
unfoldable pub whole_at : Bytes → Maybe (Got ℕ)
whole_at [] = nothing
whole_at (b ∷ s) = pick (eqb b 45) (digits_at true s) (digits_at false (b ∷ s))

-- a text value: 0 to 40 bytes, no double quote, no line feed
unfoldable pub is_text : Bytes → Bool
is_text t = leb (length t) max_text_bytes && not (any (λ b. eqb b 34 || eqb b 10) t)

-- a text value, from behind its first apostrophe on
unfoldable pub text_at : Bytes → Maybe (Got Bytes)
text_at s = and_then (before 39 s) (λ t. pick (is_text t) (just (record { got = t; size = length t + 2 })) nothing)

-- a policy text, from behind its first double quote on
unfoldable pub quoted_at : Bytes → Maybe (Got Bytes)
quoted_at s = and_then (before 34 s) (λ t. just (record { got = t; size = length t + 2 }))

-- the same bytes read as something else
unfoldable pub read_as : {A B : Type 0} → (A → B) → Maybe (Got A) → Maybe (Got B)
read_as f nothing = nothing
read_as f (just g) = just (record { got = f g.got; size = g.size })
