-- Refusals 1 and 2 of a text, and the bytes of a line.
use Rattle.std.specs.Prelude.{ℕ, ◌-◌, Bool, not, length, ltb, eqb, Result, Ok, Err}
use Rattle.model.specs.Bytes.{Bytes}
use Rattle.model.specs.Choice.{pick, Maybe, nothing, just}
use Rattle.model.specs.Refusal.{Outcome, refusal}
use Rattle.model.specs.Lines.{is_allowed, bad_line, Line}
use Rattle.model.specs.Answers.{part_of}
use Rattle.text.specs.Places.{is_other}
use Rattle.text.specs.declared.BytesFault.{BytesFault}
use Rattle.text.specs.declared.BytesFault.TheVariants.{TooLong, BadLine}

-- a byte that is not allowed
unfoldable pub is_bad : ℕ → Bool
is_bad b = not (is_allowed b)

-- a byte other than a line feed
abbrev pub is_in_line : ℕ → Bool
is_in_line = is_other 10

-- by how much a byte raises the line
unfoldable pub feed_count : ℕ → ℕ
feed_count b = pick (eqb b 10) 1 0

-- the line of the first byte not allowed, if there is one
unfoldable pub on_line : Maybe ℕ → Result (Unit {0}) BytesFault
on_line nothing = Ok tt
on_line (just l) = Err (BadLine l)

-- a text of at most so many bytes
unfoldable pub bytes_of : ℕ → Bytes → Result (Unit {0}) BytesFault
bytes_of limit s = pick (ltb limit (length s)) (Err TooLong) (on_line (bad_line 1 s))

-- refusals 1 and 2 of text t, then what else it gives; `line` is the line that 2 names, of the byte's own line
unfoldable pub on_bytes : {A : Type 0} → Result (Unit {0}) BytesFault → ℕ → (ℕ → ℕ) → Outcome A → Outcome A
on_bytes (Ok u) t line o = o
on_bytes (Err TooLong) t line o = refusal 1 t 0
on_bytes (Err (BadLine l)) t line o = refusal 2 t (line l)

-- the line of a text from its start to its line feed, or to the end of the text
unfoldable pub line_at : Bytes → ℕ → ℕ → Line
line_at text from to = record { bytes = part_of text from (to - from); ended = ltb to (length text) }
