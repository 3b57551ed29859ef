-- What the readers of signs give: the first sign of a text from a place on, and the signs behind it.
use Rattle.std.specs.Prelude.{ℕ, ◌+◌, ◌-◌, ◌<◌, ◌≡◌, List, [], ◌∷◌, ◌++◌, Bool, true, false, ◌||◌, length, drop, T, eqb, Option, Some, None}
use Rattle.model.specs.Bytes.{Bytes}
use Rattle.model.specs.Choice.{Maybe, nothing, just}
use Rattle.model.specs.Words.{Got}
use Rattle.model.specs.Signs.{Sign, word, whole, text, mark, broken, chain_behind, wordy, signs}
use Rattle.model.specs.Answers.{name_at}
use Rattle.model.specs.Places.{placed, Bracket, bracket_of, Standing, value as value_at, variable_at, standings}
use Rattle.text.specs.Parts.{HasPart}
use Rattle.query_signs.specs.declared.Sign.{Sign as SignData}
use Rattle.query_signs.specs.declared.Sign.TheVariants as sign
use Rattle.query_signs.specs.Marks.{mark_bytes}

-- a space or a line feed
unfoldable pub is_blank : ℕ → Bool
is_blank b = eqb b 32 || eqb b 10

-- the sign that each case is
unfoldable pub sign_of : Bytes → SignData → Sign
sign_of s (sign.Word p) = word (name_at s p)
sign_of s (sign.Whole n) = whole n
sign_of s (sign.Text p) = text (name_at s p)
sign_of s (sign.Mark c) = mark (mark_bytes c)

-- a sign that was read at a place, and its size
unfoldable pub got_of : Bytes → ℕ → Option (SignData × ℕ) → Got Sign
got_of s at None = record { got = broken; size = 1 }
got_of s at (Some (t, q)) = record { got = sign_of s t; size = q - at }

-- the part of a word, and of a text value behind its apostrophe, for a sign at a place
abbrev pub PartAt : Bytes → ℕ → SignData → Type 0
PartAt s at (sign.Word p) = p ≡ record { start = at; length = length (name_at s p) }
PartAt s at (sign.Whole n) = T true
PartAt s at (sign.Text p) = p ≡ record { start = at + 1; length = length (name_at s p) }
PartAt s at (sign.Mark c) = T true

abbrev pub ReadPartAt : Bytes → ℕ → Option (SignData × ℕ) → Type 0
ReadPartAt s at None = T true
ReadPartAt s at (Some (t, q)) = PartAt s at t

-- the part of a word or a text value lies inside the text
abbrev pub SignInside : Bytes → SignData → Type 0
SignInside s (sign.Word p) = HasPart s p
SignInside s (sign.Whole n) = T true
SignInside s (sign.Text p) = HasPart s p
SignInside s (sign.Mark c) = T true

abbrev pub ReadInside : Bytes → Option (SignData × ℕ) → Type 0
ReadInside s None = T true
ReadInside s (Some (t, q)) = SignInside s t

-- r is the sign g, read at a place
pub record SignGot (s : Bytes) (at : ℕ) (g : Got Sign) (r : Option (SignData × ℕ)) : Type 0 where
  pub got : got_of s at r ≡ g
  pub part : ReadPartAt s at r

-- a word or a number
unfoldable pub is_wordy : SignData → Bool
is_wordy (sign.Word p) = true
is_wordy (sign.Whole n) = true
is_wordy (sign.Text p) = false
is_wordy (sign.Mark c) = false

-- what is read ends behind a place
abbrev pub Behind : ℕ → Option (SignData × ℕ) → Type 0
Behind at None = T true
Behind at (Some (t, q)) = at < q

-- the signs from a place on, in a chain or not, behind a word or number or not
abbrev pub signs_from : Bool → Bool → Bytes → ℕ → List Sign
signs_from chain close s at = signs chain close 0 (drop at s)

-- the variables and text values from a place on, the first sign being behind a bracket or none
abbrev pub standings_from : Bracket → Bool → Bool → Bytes → ℕ → List Standing
standings_from o chain close s at = standings o (placed chain close 0 at (drop at s))

-- what a sign is, behind a bracket or none
unfoldable pub standing_of : Bracket → SignData → List Standing
standing_of o (sign.Word p) = variable_at o p
standing_of o (sign.Whole n) = []
standing_of o (sign.Text p) = value_at p ∷ []
standing_of o (sign.Mark c) = []

-- a sign that was read stands before what stands behind it
abbrev pub SignStands : Bracket → Bool → Bool → Bytes → ℕ → Option (SignData × ℕ) → Type 0
SignStands o chain close s from None = T true
SignStands o chain close s from (Some (t, q)) =
    standings_from o chain close s from ≡ standing_of o t ++ standings_from (bracket_of (sign_of s t)) (chain_behind chain (sign_of s t)) (wordy (sign_of s t)) s q

-- a sign that is not broken, and the signs behind it
pub record First : Type 0 where
  pub sign : Sign
  pub rest : List Sign

unfoldable pub first : List Sign → Maybe First
first [] = nothing
first (word w ∷ ts) = just (record { sign = word w; rest = ts })
first (whole n ∷ ts) = just (record { sign = whole n; rest = ts })
first (text t ∷ ts) = just (record { sign = text t; rest = ts })
first (mark m ∷ ts) = just (record { sign = mark m; rest = ts })
first (broken ∷ ts) = nothing

-- the first sign by its place
unfoldable pub first_of : Bool → Bytes → Option (SignData × ℕ) → Maybe First
first_of chain s None = nothing
first_of chain s (Some (t, q)) = let x = sign_of s t in just (record { sign = x; rest = signs_from (chain_behind chain x) (wordy x) s q })

-- r is the first sign from a place on, if that is not broken
pub record NextSign (chain close : Bool) (s : Bytes) (from : ℕ) (r : Option (SignData × ℕ)) : Type 0 where
  pub reads : first (signs_from chain close s from) ≡ first_of chain s r
  pub moves : Behind from r
  pub inside : ReadInside s r
  pub stands : (o : Bracket) → SignStands o chain close s from r
