-- The rows that stand in the row words are put one behind another. Assumes nothing.
use Prim.Native.Nat.{ℕ, ◌+◌, ◌-◌, ◌*◌, ◌≤◌, ◌<◌}
use mathlib.Core.Path.{◌≡◌, sym, ap, ◌∙◌}
use mathlib.Core.List.{List, [], ◌∷◌, ◌++◌, append-nil}
use native.Mathlib.Numerals.{add-one}
use native.Mathlib.Nat.{suc-mul, mul-le-mul_right}
use native.Mathlib.Omega.{arith}
use lib.ListN.{length, get_or, take, drop}
use lib.Seq.{take-suc, take_all}
use Rattle.model.specs.Bytes.{Bytes}
use Rattle.model.specs.Lists.{joined}
use Rattle.model.specs.Printed.{row_text, rows_text}
use Rattle.model.proofs.Places.{joined_append}
use Rattle.rows.specs.Buffer.{rows_in}
use Rattle.rows.specs.BufferLaws.{length_rows_in, row_at}
use Rattle.putting.specs.Putting.{Puts}
use Rattle.putting.proofs.PuttingLaws.{puts_nothing, puts_then, puts_same}
use Rattle.list_lines.specs.Printing.{header_text}
use Rattle.list_lines.proofs.PrintingLaws.{whole_list}

module _ (f : List ℕ → Bytes) (rows : List (List ℕ)) where
  -- no row is put yet
  pub no_rows : (o : Bytes) (a : ℕ) → Puts o a (joined f (take 0 rows)) o a
  unfolding joined
  no_rows o a = puts_nothing o a

  -- the rows that are put, with one more
  pub rows_more : {o : Bytes} {a : ℕ} {o' : Bytes} {a' : ℕ} {o'' : Bytes} {a'' : ℕ} (i : ℕ) → i < length rows
      → Puts o a (joined f (take i rows)) o' a' → Puts o' a' (f (get_or rows i [])) o'' a'' → Puts o a (joined f (take (i + 1) rows)) o'' a''
  unfolding joined
  rows_more i h p q =
      let one : joined f (get_or rows i [] ∷ []) ≡ f (get_or rows i []) = append-nil (f (get_or rows i [])) in
      let e : joined f (take (i + 1) rows) ≡ joined f (take i rows) ++ f (get_or rows i []) =
      ap (λ (n : ℕ). joined f (take n rows)) (add-one i) ∙ ap (joined f) (take-suc rows i [] h) ∙ joined_append f (take i rows) (get_or rows i [] ∷ [])
      ∙ ap (λ (t : Bytes). joined f (take i rows) ++ t) one in
      puts_same (sym e) (puts_then p q)

  -- all rows are put
  pub rows_all : {o : Bytes} {a : ℕ} {o' : Bytes} {a' : ℕ} (i : ℕ) → length rows ≤ i → Puts o a (joined f (take i rows)) o' a' → Puts o a (joined f rows) o' a'
  rows_all i h p = puts_same (ap (joined f) (take_all i rows h)) p

module _ (words : List ℕ) (width count : ℕ) (fits : count * width ≤ length words) (i : ℕ) (h : i < count) where
  -- a row that is counted ends inside the row words
  pub row_inside : i * width + width ≤ length words
  row_inside = omega (arith, suc-mul i width, mul-le-mul_right width h)

  -- the words of a row
  pub row_part : (from : ℕ) → from ≡ i * width → take (from + width - from) (drop from words) ≡ get_or (rows_in width count words) i []
  row_part from e =
      let n : from + width - from ≡ width = omega arith in
      rw (n, e) (sym (row_at width count words i h))

-- the place of the next row
pub next_row : (i width from : ℕ) → from ≡ i * width → from + width ≡ (i + 1) * width
next_row i width from e = rw (add-one, suc-mul) (ap (λ (n : ℕ). n + width) e)

-- the header and then each row's line: what the model says is printed
pub header_then_rows : (names : List Bytes) (width count : ℕ) (words : List ℕ)
    → header_text count ++ joined (row_text names) (rows_in width count words) ≡ rows_text names (rows_in width count words)
header_then_rows names width count words =
    ap (λ (n : ℕ). header_text n ++ joined (row_text names) (rows_in width count words)) (sym (length_rows_in width count words))
    ∙ whole_list names (rows_in width count words)
