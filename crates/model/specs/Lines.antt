-- The bytes that are allowed, the lines of a text, and reading a text line by line.
use Rattle.std.specs.Prelude.{ℕ, ◌+◌, List, [], ◌∷◌, Bool, true, false, ◌&&◌, ◌||◌, length, leb, ltb, eqb}
use Rattle.model.specs.Bytes.{Bytes}
use Rattle.model.specs.Choice.{pick, Maybe, nothing, just}
use Rattle.model.specs.Refusal.{Outcome, accepted, refusal}

-- 0x20 to 0x7E and line feed
unfoldable pub is_allowed : ℕ → Bool
is_allowed b = leb 32 b && leb b 126 || eqb b 10

-- the line of the first byte not allowed, counted from n
unfoldable pub bad_line : ℕ → Bytes → Maybe ℕ
bad_line n [] = nothing
bad_line n (b ∷ s) = let rest = bad_line (n + pick (eqb b 10) 1 0) s in pick (is_allowed b) rest (just n)

-- a line without its line feed, and whether it has one
pub record Line : Type 0 where
  pub bytes : Bytes
  pub ended : Bool

-- a byte in front of the first line; before no line it makes a line without a line feed
unfoldable pub add_byte : ℕ → List Line → List Line
add_byte b [] = record { bytes = b ∷ []; ended = false } ∷ []
add_byte b (l ∷ ls) = record { bytes = b ∷ l.bytes; ended = l.ended } ∷ ls

-- the lines of a text; a text of no bytes has no lines
unfoldable pub lines_of : Bytes → List Line
lines_of [] = []
lines_of (b ∷ s) = let ls = lines_of s in pick (eqb b 10) (record { bytes = []; ended = true } ∷ ls) (add_byte b ls)

-- what one line gives: its fault, or what is known after it
pub data Step (S : Type 0) : Type 0 where
  fault : ℕ → Step S
  known : S → Step S

-- a fault, or what is known after the line
unfoldable pub fault_or : {S : Type 0} → Maybe ℕ → S → Step S
fault_or nothing x = known x
fault_or (just n) x = fault n

-- a line that breaks the grammar is 3
unfoldable pub form_step : {S L : Type 0} → Maybe L → (L → Step S) → Step S
form_step nothing f = fault 3
form_step (just l) f = f l

-- a fault is refused at line l of text t
unfoldable pub step_then : {S : Type 0} → Step S → ℕ → ℕ → (S → Outcome S) → Outcome S
step_then (fault n) t l f = refusal n t l
step_then (known x) t l f = f x

-- lines upwards from the nth of text t, by what each gives after those before
unfoldable pub read_lines : {S : Type 0} → ℕ → (S → Line → Step S) → ℕ → S → List Line → Outcome S
read_lines t step n x [] = accepted x
read_lines t step n x (l ∷ ls) = step_then (step x l) t n (λ y. read_lines t step (n + 1) y ls)

-- 2 at the line of the first byte not allowed
unfoldable pub refused_at : {A : Type 0} → Maybe ℕ → ℕ → (ℕ → ℕ) → Outcome A → Outcome A
refused_at nothing t line o = o
refused_at (just l) t line o = refusal 2 t (line l)

-- refusals 1 and 2 of text t, then what else it gives; `line` is the line that 2 names, of the byte's own line
unfoldable pub bytes_first : {A : Type 0} → ℕ → ℕ → (ℕ → ℕ) → Bytes → Outcome A → Outcome A
bytes_first t limit line s o = pick (ltb limit (length s)) (refusal 1 t 0) (refused_at (bad_line 1 s) t line o)
