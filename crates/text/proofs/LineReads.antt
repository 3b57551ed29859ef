-- Reading a text: refusals 1 and 2 first, then line by line, the first line's step and then the rest.
use Prim.Native.Nat.{ℕ, ◌+◌, ◌≤◌, ◌<◌}
use mathlib.Core.Path.{◌≡◌, refl, sym, ap, ◌∙◌}
use mathlib.Core.Logic.{⊎_elim}
use mathlib.Core.List.{◌∷◌}
use mathlib.Core.Bool.{Bool, true, false}
use native.Mathlib.Omega.{arith}
use lib.ListN.{length, drop}
use lib.Dec.{ltb}
use borrow.Author.Tests.{lt-ltb, le-ltb, ltb-false}
use Rattle.model.specs.Bytes.{Bytes}
use Rattle.model.specs.Choice.{pick, Maybe, nothing, just}
use Rattle.model.specs.Refusal.{Outcome, accepted, refusal}
use Rattle.model.specs.Lines.{Line, Step, fault, known, step_then, bad_line, read_lines, lines_of, bytes_first}
use Rattle.std.specs.Prelude.{Result, Ok, Err}
use Rattle.text.specs.declared.BytesFault.{BytesFault}
use Rattle.text.specs.declared.BytesFault.TheVariants.{TooLong, BadLine}
use Rattle.text.specs.Places.{past}
use Rattle.text.specs.Lines.{is_in_line, on_line, bytes_of, on_bytes, line_at}
use Rattle.text.proofs.PlaceLaws.{below_or_not, past_on, past_within}
use Rattle.text.proofs.LineLaws.{lines_none, lines_ended, lines_last, bytes_first_law, bad_line_small}

module _ (text : Bytes) (at to : ℕ) (e : to ≡ past is_in_line text at) (l : at < length text) where
  -- the first line from a place on
  pub first_line_law : lines_of (drop at text) ≡ line_at text at to ∷ lines_of (drop (to + 1) text)
  unfolding line_at
  first_line_law = ⊎_elim
      (λ m. rw (lt-ltb to (length text) m) (lines_ended text at to e m))
      (λ m. rw (le-ltb to (length text) m, lines_none text (to + 1) (omega arith)) (lines_last text at to e l m))
      (below_or_not to (length text))

  pub line_forward : at ≤ to
  line_forward = omega (arith, e, past_on is_in_line text at)

  pub line_inside : to ≤ length text
  line_inside = omega (arith, e, past_within is_in_line text at (omega arith))

  module _ {S : Type 0} (t : ℕ) (step : S → Line → Step S) (n : ℕ) (x : S) where
    pub lines_fault : (k : ℕ) → step x (line_at text at to) ≡ fault k → read_lines t step n x (lines_of (drop at text)) ≡ refusal k t n
    unfolding read_lines step_then
    lines_fault k h = rw (first_line_law, h)

    pub lines_known : (y : S) → step x (line_at text at to) ≡ known y
        → read_lines t step n x (lines_of (drop at text)) ≡ read_lines t step (n + 1) y (lines_of (drop (to + 1) text))
    unfolding read_lines step_then
    lines_known y h = rw (first_line_law, h)

-- no line is left
pub lines_over : {S : Type 0} (text : Bytes) (at t : ℕ) (step : S → Line → Step S) (n : ℕ) (x : S) → length text ≤ at
    → read_lines t step n x (lines_of (drop at text)) ≡ accepted x
unfolding read_lines
lines_over text at t step n x h = rw (lines_none text at h)

module _ (limit : ℕ) (text : Bytes) (r : Result (Unit {0}) BytesFault) (e : r ≡ bytes_of limit text) where
  module _ {A : Type 0} (t : ℕ) (line : ℕ → ℕ) (o : Outcome A) where
    -- refusals 1 and 2 go by what the bytes gave
    by_bytes : bytes_first t limit line text o ≡ on_bytes r t line o
    by_bytes = bytes_first_law t limit line text o ∙ ap (λ (x : Result (Unit {0}) BytesFault). on_bytes x t line o) (sym e)

    pub text_too_long : r ≡ Err TooLong → bytes_first t limit line text o ≡ refusal 1 t 0
    unfolding on_bytes
    text_too_long h = by_bytes ∙ rw h

    pub text_bad_line : (l : ℕ) → r ≡ Err (BadLine l) → bytes_first t limit line text o ≡ refusal 2 t (line l)
    unfolding on_bytes
    text_bad_line l h = by_bytes ∙ rw h

    pub text_allowed : r ≡ Ok tt → bytes_first t limit line text o ≡ o
    unfolding on_bytes
    text_allowed h = by_bytes ∙ rw h

  -- what is not too long
  pub text_short : r ≡ Ok tt → length text ≤ limit
  unfolding bytes_of
  text_short h = go (ltb limit (length text)) refl (sym h ∙ e)
    where
      go : (t : Bool) → ltb limit (length text) ≡ t → Ok tt ≡ pick t (Err TooLong) (on_line (bad_line 1 text)) → length text ≤ limit
      go true q p = let z : ◌≡◌ {A = ℕ} 0 1 = cc in omega arith
      go false q p = ltb-false limit (length text) q

  pub bad_small : (l : ℕ) → r ≡ Err (BadLine l) → l ≤ limit
  unfolding bytes_of on_line
  bad_small l h = go (ltb limit (length text)) refl (bad_line 1 text) refl (sym h ∙ e)
    where
      go : (t : Bool) → ltb limit (length text) ≡ t → (m : Maybe ℕ) → bad_line 1 text ≡ m → Err (BadLine l) ≡ pick t (Err TooLong) (on_line m) → l ≤ limit
      go true q m b p = let z : ◌≡◌ {A = ℕ} 0 1 = cc in omega arith
      go false q nothing b p = let z : ◌≡◌ {A = ℕ} 0 1 = cc in omega arith
      go false q (just k) b p =
          let same : l ≡ k = cc in
          omega (arith, bad_line_small 1 k text b, ltb-false limit (length text) q)
