-- Laws of sizes: the lines of a sequence, one after another.
use Prim.Native.Nat.{ℕ, ◌+◌}
use mathlib.Core.Path.{◌≡◌, sym, ap, ◌∙◌}
use mathlib.Core.List.{List}
use native.Mathlib.Omega.{arith}
use lib.ListN.{length, length-append}
use Rattle.model.specs.Bytes.{Bytes}
use Rattle.model.specs.Lists.{joined}
use Rattle.model.specs.BookLines.{BookLine}
use Rattle.model.specs.Tidy.{line_text}
use Rattle.model.proofs.Places.{joined_end}
use Rattle.book_tables.specs.Listed.{listed}
use Rattle.book_tables.proofs.ListedLaws.{listed_more}
use Rattle.tidy_size.specs.Pieces.{lines_to}
use Rattle.tidy_size.specs.Sizes.{Size, LineSize, LinesSize}

-- the lines of a sequence with one more
lines_more : (line : ℕ → BookLine) (n : ℕ) → length (lines_to line (n + 1)) ≡ length (lines_to line n) + length (line_text (line n))
unfolding lines_to
lines_more line n = ap (λ (ls : List BookLine). length (joined line_text ls)) (listed_more line n)
    ∙ ap length (joined_end line_text (listed line n) (line n)) ∙ length-append (joined line_text (listed line n)) (line_text (line n))

module _ (Of : Bytes → Type 0) (line : Bytes → ℕ → BookLine) where
  -- no lines, one line more, and all of them
  pub no_lines : LinesSize Of line 0 0
  unfolding lines_to listed joined
  no_lines = record { small = omega arith; is = λ text of. omega arith }

  pub more_lines : (n size more : ℕ) → LinesSize Of line n size → LineSize Of (λ text. line text n) more → LinesSize Of line (n + 1) (size + more)
  more_lines n size more s m = record {
    small = omega (arith, s.small, m.small);
    is = λ text of. let e = lines_more (line text) n in omega (arith, s.is text of, m.is text of);
  }

  pub all_lines : (i n size : ℕ) → i ≡ n → LinesSize Of line i size → LinesSize Of line n size
  all_lines i n size e s = rw (sym e) s

-- the same size where more is said of the text
pub under : {most : ℕ} {Of Under : Bytes → Type 0} {piece : Bytes → Bytes} {r : ℕ} → ((text : Bytes) → Under text → Of text)
    → Size most Of piece r → Size most Under piece r
under f s = record { small = s.small; is = λ text of. s.is text (f text of) }
