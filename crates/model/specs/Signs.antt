-- The signs of a query text: words, numbers, text values, relation signs and marks.
use Rattle.std.specs.Prelude.{ℕ, zero, suc, ◌-◌, List, [], ◌∷◌, map, Bool, true, false, not, ◌&&◌, ◌||◌, length, eqb}
use Rattle.model.specs.Bytes.{Bytes, bytes_of, same}
use Rattle.model.specs.Choice.{pick, Maybe, nothing, just, and_then}
use Rattle.model.specs.Names.{Name}
use Rattle.model.specs.Words.{Got, is_letter, is_digit, word_at, whole_at, text_at}
use Rattle.model.specs.Values.{Value, int, str}
use Rattle.model.specs.Forms.{name_of, truth_of}

-- a mark is kept as its bytes; `broken` stands where no sign can be read
pub data Sign : Type 0 where
  word : Bytes → Sign
  whole : ℕ → Sign
  text : Bytes → Sign
  mark : Bytes → Sign
  broken : Sign

-- relation signs and marks, the longest first; <- and -> are read in chains only
unfoldable pub marks : Bool → List Bytes
marks chain =
    let everywhere = map bytes_of ("<>" ∷ "<=" ∷ ">=" ∷ "=" ∷ "<" ∷ ">" ∷ "(" ∷ ")" ∷ "[" ∷ "]" ∷ ":" ∷ "," ∷ "." ∷ "-" ∷ []) in
    pick chain (bytes_of "<-" ∷ bytes_of "->" ∷ everywhere) everywhere

-- s begins with w
unfoldable pub begins : Bytes → Bytes → Bool
begins [] s = true
begins (x ∷ w) [] = false
begins (x ∷ w) (y ∷ s) = let rest = begins w s in pick (eqb x y) rest false

-- the first of a list of marks with which s begins
unfoldable pub mark_at : List Bytes → Bytes → Got Sign
mark_at [] s = record { got = broken; size = 1 }
mark_at (m ∷ ms) s = let rest = mark_at ms s in pick (begins m s) (record { got = mark m; size = length m }) rest

-- what was read as a sign
unfoldable pub or_broken : {A : Type 0} → (A → Sign) → Maybe (Got A) → Got Sign
or_broken f nothing = record { got = broken; size = 1 }
or_broken f (just g) = record { got = f g.got; size = g.size }

-- a digit is at the front
unfoldable pub digit_next : Bytes → Bool
digit_next [] = false
digit_next (b ∷ s) = is_digit b

-- the sign at the front of b ∷ s, in a chain or not
unfoldable pub sign_at : Bool → ℕ → Bytes → Got Sign
sign_at chain b s =
    pick (is_letter b) (or_broken word (word_at (b ∷ s)))
    (pick (is_digit b || eqb b 45 && digit_next s) (or_broken whole (whole_at (b ∷ s)))
    (pick (eqb b 39) (or_broken text (text_at s)) (mark_at (marks chain) (b ∷ s))))

-- a sign is this word
unfoldable pub is_word : Bytes → Sign → Bool
is_word w (word x) = same x w
is_word w (whole n) = false
is_word w (text t) = false
is_word w (mark m) = false
is_word w broken = false

-- a sign is this mark
unfoldable pub is_mark : Bytes → Sign → Bool
is_mark m (word x) = false
is_mark m (whole n) = false
is_mark m (text t) = false
is_mark m (mark x) = same x m
is_mark m broken = false

-- a word or a number, which has a space or line feed to another
unfoldable pub wordy : Sign → Bool
wordy (word x) = true
wordy (whole n) = true
wordy (text t) = false
wordy (mark m) = false
wordy broken = false

-- what stands behind a sign is in a chain: a chain begins behind Match and ends at Where or Return
unfoldable pub chain_behind : Bool → Sign → Bool
chain_behind chain t = is_word (bytes_of "Match") t || chain && not (is_word (bytes_of "Where") t) && not (is_word (bytes_of "Return") t)

-- the signs of a text, in a chain or not. `close`: a word or a number ends just before.
-- A sign is read at its first byte; its other bytes, k of which are still to come, are then passed one by one.
unfoldable pub signs : Bool → Bool → ℕ → Bytes → List Sign
signs chain close k [] = []
signs chain close (suc k) (b ∷ s) = signs chain close k s
signs chain close zero (b ∷ s) =
    let g = sign_at chain b s in
    let sign = pick (close && wordy g.got) broken g.got ∷ signs (chain_behind chain g.got) (wordy g.got) (g.size - 1) s in
    let blank = signs chain false 0 s in
    pick (eqb b 32 || eqb b 10) blank sign

-- the signs of a whole text
unfoldable pub signs_of : Bytes → List Sign
signs_of s = signs false false 0 s

-- a name that a sign is
unfoldable pub sign_name : Sign → Maybe Name
sign_name (word w) = name_of w
sign_name (whole n) = nothing
sign_name (text t) = nothing
sign_name (mark m) = nothing
sign_name broken = nothing

-- a value that a sign is
unfoldable pub sign_value : Sign → Maybe Value
sign_value (word w) = truth_of w
sign_value (whole n) = just (int n)
sign_value (text t) = just (str t)
sign_value (mark m) = nothing
sign_value broken = nothing

-- the first sign, by a reading of it, and then the rest
unfoldable pub next : {A B : Type 0} → (Sign → Maybe A) → List Sign → (A → List Sign → Maybe B) → Maybe B
next read [] f = nothing
next read (t ∷ ts) f = and_then (read t) (λ a. f a ts)

-- the first sign is this mark, and then the rest
unfoldable pub expect : {B : Type 0} → Bytes → List Sign → (List Sign → Maybe B) → Maybe B
expect m [] f = nothing
expect m (t ∷ ts) f = let rest = f ts in pick (is_mark m t) rest nothing
