-- The lines that are put are those of the model.
use Prim.Native.Nat.{ℕ, zero, suc, ◌+◌, ◌≤◌, ◌<◌}
use mathlib.Core.Path.{◌≡◌, refl, sym, ap, ◌∙◌}
use mathlib.Core.List.{List, [], ◌∷◌, ◌++◌, map}
use lib.ListN.{length, get_or}
use lib.Seq.{take_all}
use native.Mathlib.Omega.{arith}
use Rattle.model.specs.Bytes.{Bytes, bytes_of}
use Rattle.model.specs.Book.{node_names}
use Rattle.model.specs.Writing.{each_behind}
use Rattle.model.specs.Lists.{joined}
use Rattle.model.specs.Printed.{row_text, rows_text}
use Rattle.book_tables.specs.Layout as layout
use Rattle.book_tables.specs.Listed.{listed}
use Rattle.book_tables.specs.View.{name_of, names_at, book_at}
use Rattle.book_tables.proofs.ListedLaws.{length_listed}
use Rattle.book_tables.proofs.NameLaws.{node_names_law}
use Rattle.book_tables.specs.declared.BookCounts.{BookCounts}
use Rattle.putting.specs.Listing.{before, listing}
use Rattle.putting.specs.Putting.{Puts}
use Rattle.putting.proofs.PuttingLaws.{puts_same}
use Rattle.putting.proofs.ListingLaws.{before_all, puts_none, puts_one_more}
use Rattle.list_lines.specs.Printing.{header_text, name_in, names_text}

-- with one text before the first and between two, each stands behind it
each_behind_law : (sep : Bytes) (ts : List Bytes) → listing sep sep ts ≡ each_behind sep ts
unfolding listing each_behind
each_behind_law sep [] = refl
each_behind_law sep (t ∷ ts) = refl

-- a row from its pieces
pub row_text_law : (names : List Bytes) (row : List ℕ) → (bytes_of "(row" ++ names_text names row (length row)) ++ bytes_of ")\n" ≡ row_text names row
unfolding names_text row_text name_in
row_text_law names row = ap (λ t. bytes_of "(row" ++ t ++ bytes_of ")\n")
    (ap (λ l. listing (bytes_of " ") (bytes_of " ") (map (name_in names) l)) (take_all (length row) row (omega arith))
    ∙ each_behind_law (bytes_of " ") (map (name_in names) row))

-- no name is put yet
pub no_names : (names : List Bytes) (row : List ℕ) (o : Bytes) (a : ℕ) → Puts o a (names_text names row 0) o a
unfolding names_text
no_names names row o a = puts_none (bytes_of " ") (bytes_of " ") o a

-- the names that are put, with one more
pub names_more : {o : Bytes} {a : ℕ} {o' : Bytes} {a' : ℕ} {o'' : Bytes} {a'' : ℕ} (names : List Bytes) (row : List ℕ) (i : ℕ) → i < length row
    → Puts o a (names_text names row i) o' a' → Puts o' a' (bytes_of " " ++ name_in names (get_or row i 0)) o'' a'' → Puts o a (names_text names row (i + 1)) o'' a''
unfolding names_text
names_more names row i h p q = puts_one_more (bytes_of " ") (bytes_of " ") (name_in names) row 0 i h p
    (puts_same (ap (λ t. t ++ name_in names (get_or row i 0)) (sym (before_all (bytes_of " ") i))) q)

-- nothing stands past the end of a list
pub past_end : (xs : List Bytes) (n : ℕ) → length xs ≤ n → get_or xs n [] ≡ []
past_end [] n h = refl
past_end (x ∷ xs) zero h = absurd (omega arith)
past_end (x ∷ xs) (suc n) h = past_end xs n (omega arith)

-- a number that is no node has no name
pub no_name : (book : Bytes) (words : List ℕ) (counts : BookCounts) (n : ℕ) → counts.nodes ≤ n
    → bytes_of " " ≡ bytes_of " " ++ name_in (node_names (book_at book words counts)) n
unfolding name_in names_at
no_name book words counts n h =
    let names : node_names (book_at book words counts) ≡ listed (name_of book words layout.node_names) counts.nodes = node_names_law book words counts in
    let few : length (node_names (book_at book words counts)) ≤ n = rw (names, length_listed (name_of book words layout.node_names) counts.nodes) h in
    ap (λ t. bytes_of " " ++ t) (sym (past_end (node_names (book_at book words counts)) n few))

-- the header and then each row's line: what the model says is printed
pub whole_list : (names : List Bytes) (rows : List (List ℕ)) → header_text (length rows) ++ joined (row_text names) rows ≡ rows_text names rows
unfolding header_text rows_text
whole_list names rows = refl
