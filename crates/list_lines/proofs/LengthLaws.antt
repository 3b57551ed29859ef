-- How long printed lines are: a refusal's at most 38 bytes, a list's 13 for the header and 38 for each row word, as a name has at most 31 bytes.
use Prim.Native.Nat.{ℕ, zero, suc, ◌+◌, ◌*◌, ◌/◌, ◌%◌, ◌≤◌}
use mathlib.Core.Path.{◌≡◌, refl}
use mathlib.Core.Bool.{Bool, true, false}
use mathlib.Core.List.Memᴰ
use mathlib.Core.List.{List, [], ◌∷◌, ◌++◌, map}
use native.Mathlib.Nat.{suc-mul, mod-lt}
use native.Mathlib.Omega.{arith}
use lib.Dec.{ltb}
use lib.ListN.{length, get_or, length-append, length-take}
use Rattle.logic.specs.Tests.{either, below_or_not}
use Rattle.model.specs.Bytes.{Bytes, bytes_of}
use Rattle.model.specs.Choice.{pick}
use Rattle.model.specs.Lists.{joined}
use Rattle.model.specs.Refusal.{Refusal}
use Rattle.model.specs.Book.{node_names}
use Rattle.model.specs.Writing.{digits, each_behind}
use Rattle.model.specs.Answers.{part_of}
use Rattle.model.specs.Printed.{row_text, rows_text, refusal_text}
use Rattle.book_tables.specs.Layout as layout
use Rattle.book_tables.specs.Listed.{listed}
use Rattle.book_tables.specs.View.{name_in, name_of, names_at, book_at}
use Rattle.book_tables.specs.declared.BookCounts.{BookCounts}
use Rattle.book_tables.proofs.ListedLaws.{length_listed, get_or_listed}
use Rattle.book_tables.proofs.NameLaws.{node_names_law}
use Rattle.rows.specs.Buffer.{rows_in, Wide}
use Rattle.rows.specs.BufferLaws.{length_rows_in, rows_in_wide}
use Rattle.list_lines.specs.Printing.{header_text}
use Rattle.list_lines.proofs.PrintingLaws.{past_end}

-- at most so many digits are written
few_digits : (k n : ℕ) → length (digits k n) ≤ k
unfolding digits
few_digits zero n = omega arith
few_digits (suc k) n = go (few_digits k (n / 10)) (ltb n 10)
  where
    go : length (digits k (n / 10)) ≤ k → (b : Bool) → length (pick b ((48 + n) ∷ []) (digits k (n / 10) ++ ((48 + n % 10) ∷ []))) ≤ suc k
    go h true = omega arith
    go h false = rw length-append (omega arith)

-- a refusal's line
pub refusal_short : (r : Refusal) → length (refusal_text r) ≤ 38
unfolding refusal_text
refusal_short r = simp length-append (omega (arith, few_digits 5 r.number, few_digits 5 r.text, few_digits 5 r.line))

-- a list's header
pub header_short : (n : ℕ) → length (header_text n) ≤ 13
unfolding header_text
header_short n = simp length-append (omega (arith, few_digits 5 n))

-- no name has more bytes than these
abbrev pub Short : List Bytes → Type 0
Short names = (n : ℕ) → length (get_or names n []) ≤ 31

-- the names of a book in words are short
pub names_short : (book : Bytes) (words : List ℕ) (counts : BookCounts) → Short (node_names (book_at book words counts))
unfolding names_at name_of name_in part_of
names_short book words counts n =
    let all : node_names (book_at book words counts) ≡ listed (name_of book words layout.node_names) counts.nodes = node_names_law book words counts in
    either (below_or_not n counts.nodes)
    (λ l. rw (all, get_or_listed (name_of book words layout.node_names) counts.nodes n [] l, length-take)
    (omega (arith, mod-lt (get_or words (layout.node_names + n) 0) {m = 32} (omega arith))))
    (λ l. rw (past_end (node_names (book_at book words counts)) n (rw (all, length_listed (name_of book words layout.node_names) counts.nodes) l)) (omega arith))

module _ (names : List Bytes) (short : Short names) where
  -- a row's names, each behind a space
  names_long : (row : List ℕ) → length (each_behind (bytes_of " ") (map (λ n. get_or names n []) row)) ≤ 32 * length row
  unfolding each_behind
  names_long [] = omega arith
  names_long (n ∷ row) = simp length-append (omega (arith, short n, names_long row))

  row_long : (row : List ℕ) → length (row_text names row) ≤ 6 + 32 * length row
  unfolding row_text
  row_long row = simp length-append (omega (arith, names_long row))

  -- the lines of rows of one width
  rows_long : (width : ℕ) (rows : List (List ℕ)) → Wide width rows → length (joined (row_text names) rows) ≤ 6 * length rows + 32 * (length rows * width)
  unfolding joined
  rows_long width [] w = omega arith
  rows_long width (row ∷ rows) w =
      simp length-append
      (omega (arith, row_long row, w row (Memᴰ.head refl), suc-mul (length rows) width, rows_long width rows (λ y m. w y (Memᴰ.tail m))))

  -- the whole list
  pub list_long : (width : ℕ) (rows : List (List ℕ)) → Wide width rows → length (rows_text names rows) ≤ 13 + 6 * length rows + 32 * (length rows * width)
  unfolding rows_text
  list_long width rows w = simp length-append (omega (arith, few_digits 5 (length rows), rows_long width rows w))

  -- a list whose rows fit the program's row words
  pub list_short : (width count : ℕ) (words : List ℕ) → count * width ≤ length words → count ≤ 16384 → count * width ≤ 16384
      → length (rows_text names (rows_in width count words)) ≤ 622605
  list_short width count words h few fits =
      let long : length (rows_text names (rows_in width count words)) ≤ 13 + 6 * count + 32 * (count * width) =
      rw length_rows_in at (list_long width (rows_in width count words) (rows_in_wide width count words h)) in
      omega arith
