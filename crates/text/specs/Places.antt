-- Places of a text: where a reading of the model ends, and where a run of bytes ends.
use Rattle.std.specs.Prelude.{ℕ, zero, suc, ◌+◌, ◌-◌, ◌^◌, Bool, not, ◌&&◌, ◌||◌, length, get_or, drop, leb, eqb, Option, Some, None}
use Rattle.model.specs.Bytes.{Bytes}
use Rattle.model.specs.Choice.{pick, Maybe, nothing, just}
use Rattle.model.specs.Words.{Got, run, is_digit, decimal}
use Rattle.model.specs.Answers.{part_of}

-- the byte at a place, or 256 past the last one
abbrev pub peek_at : Bytes → ℕ → ℕ
peek_at s i = get_or s i 256

-- the place behind the bytes from a place on that pass a test
unfoldable pub past : (ℕ → Bool) → Bytes → ℕ → ℕ
past p s i = i + length (run p (drop i s))

-- a space
unfoldable pub is_space : ℕ → Bool
is_space b = eqb b 32

-- a byte that may stand in a text value
unfoldable pub is_in_text : ℕ → Bool
is_in_text b = not (eqb b 39) && not (eqb b 34 || eqb b 10)

-- another byte than the first
unfoldable pub is_other : ℕ → ℕ → Bool
is_other a b = not (eqb b a)

-- the byte stands at a place or at one of the n places behind it
abbrev pub has_near : Bytes → ℕ → ℕ → ℕ → Bool
has_near s i byte zero = eqb (get_or s i 0) byte
has_near s i byte (suc n) = has_near s i byte n || eqb (get_or s (i + suc n) 0) byte

-- a byte that may stand in a policy text
abbrev pub is_in_quoted : ℕ → Bool
is_in_quoted = is_other 34

-- the end of what was read at a place
unfoldable pub end_of : {A : Type 0} → ℕ → Maybe (Got A) → Option ℕ
end_of at nothing = None
end_of at (just g) = Some (at + g.size)

-- a number that was read at a place, and its end
unfoldable pub number_of : ℕ → Maybe (Got ℕ) → Option (ℕ × ℕ)
number_of at nothing = None
number_of at (just g) = Some (g.got, at + g.size)

-- what the digits from a place on write, up to 2^63, and their end
unfoldable pub digits_of : Bytes → ℕ → Option (ℕ × ℕ)
digits_of s from =
    let ds = run is_digit (drop from s) in
    pick (leb (decimal 0 ds) (2 ^ 63)) (Some (decimal 0 ds, from + length ds)) None

-- what an end says of a word that begins at a place, of a text value, and of a policy text
unfoldable pub word_to : Bytes → ℕ → Option ℕ → Maybe (Got Bytes)
word_to s at None = nothing
word_to s at (Some q) = just (record { got = part_of s at (q - at); size = q - at })

unfoldable pub text_to : Bytes → ℕ → Option ℕ → Maybe (Got Bytes)
text_to s at None = nothing
text_to s at (Some q) = just (record { got = part_of s (at + 1) (q - at - 2); size = q - at })

-- what a number and its end say of a whole number that begins at a place
unfoldable pub whole_to : ℕ → Option (ℕ × ℕ) → Maybe (Got ℕ)
whole_to at None = nothing
whole_to at (Some (n, q)) = just (record { got = n; size = q - at })
