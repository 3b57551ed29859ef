-- What the renaming gives, by how far it comes: a refused book, a name that cannot have its new one, or a new book; and that a line's number is small.
use Prim.Native.Nat.{ℕ, suc, ◌+◌, ◌≤◌, ◌<◌}
use mathlib.Core.Path.{◌≡◌, subst}
use mathlib.Core.List.{List, [], ◌∷◌}
use mathlib.Core.Bool.{Bool, true, false}
use native.Mathlib.Omega.{arith}
use lib.ListN.{length, get_or}
use lib.Dec.{eqb}
use Rattle.std.specs.Prelude.{Result, Ok, Err}
use Rattle.model.specs.Bytes.{Bytes, same}
use Rattle.model.specs.Choice.{pick, nothing, just}
use Rattle.model.specs.Lists.{place_where}
use Rattle.model.specs.Names.{Name}
use Rattle.model.specs.Refusal.{accepted, refused, on_accept, refusal}
use Rattle.model.specs.Lines.{Line, add_byte, lines_of}
use Rattle.model.specs.Book.{Book, node_names}
use Rattle.model.specs.ReadBook.{read_book_by}
use Rattle.model.specs.Renaming.{later_names, renamed, first_stuck, declares_node, declared_at, unless_stuck, renamed_book}
use Rattle.model.specs.Service.{with_work, rename_service}
use Rattle.model.specs.Answers.{refusal_of, writer_answer}
use Rattle.model.specs.declared.Refusal.{Refusal as RefusalData}
use Rattle.renaming.proofs.AcceptedBook.{book_bytes}
use Rattle.book_tables.specs.declared.BookCounts.{BookCounts}
use Rattle.book_tables.specs.View.{book_at}
use Rattle.book_tables.specs.Fits.{Fits}
use Rattle.book.specs.Loaded.{Loaded}
use Rattle.later_names.specs.Ask.{ReadExactly, Answered}
use Rattle.later_names.specs.Later.{later_marks}
use Rattle.later_names.proofs.MarkLaws.{marks_tell}
use Rattle.renamed_text.specs.Marks.{is_marked, Marks}
use Rattle.written_book.proofs.LeavesLaws.{told, loaded, first_refused}

-- the number of a line of a text is small
place_inside : {A : Type 0} (p : A → Bool) (xs : List A) → place_where p xs ≤ length xs
unfolding place_where
place_inside p [] = omega arith
place_inside p (x ∷ xs) = go (p x) (place_inside p xs)
  where
    go : (t : Bool) → place_where p xs ≤ length xs → pick t 0 (suc (place_where p xs)) ≤ length (x ∷ xs)
    go true h = omega arith
    go false h = omega (arith, h)

few_lines : (s : Bytes) → length (lines_of s) ≤ length s
unfolding lines_of add_byte
few_lines [] = omega arith
few_lines (b ∷ s) = go (eqb b 10) (lines_of s) (few_lines s)
  where
    go : (t : Bool) (ls : List Line) → length ls ≤ length s → length (pick t (record { bytes = []; ended = true } ∷ ls) (add_byte b ls)) ≤ length (b ∷ s)
    go true ls h = omega (arith, h)
    go false [] h = omega arith
    go false (l ∷ ls) h = omega (arith, h)

declared_small : (n : Name) (s : Bytes) → declared_at n (lines_of s) ≤ length s + 1
unfolding declared_at
declared_small n s = omega (arith, place_inside (declares_node n) (lines_of s), few_lines s)

-- so is that of a line of a book
pub declared_in_book : (s : Bytes) (b : Book) → read_book_by same s ≡ accepted b → (n : Name) → declared_at n (lines_of s) ≤ 65537
declared_in_book s b e n = omega (arith, declared_small n s, (book_bytes same s b e).short)

-- what is answered of the new names, by its case
pub answered_stuck : (s : Bytes) (names : List Name) (nodes : ℕ) (r : Result ℕ ℕ) (i : ℕ) → r ≡ Err i → Answered s names nodes r
    → (i < nodes) × (first_stuck s names [] (later_names [] names) ≡ just (get_or names i []))
answered_stuck s names nodes r i e h = subst (λ (x : Result ℕ ℕ). Answered s names nodes x) e h

pub answered_free : (s : Bytes) (names : List Name) (nodes : ℕ) (r : Result ℕ ℕ) (n : ℕ) → r ≡ Ok n → Answered s names nodes r
    → (first_stuck s names [] (later_names [] names) ≡ nothing) × (n ≡ length (renamed (later_names [] names) s))
answered_free s names nodes r n e h = subst (λ (x : Result ℕ ℕ). Answered s names nodes x) e h

-- the marks of later names tell them
pub marks_right : (text : Bytes) (words : List ℕ) (c : BookCounts) → Fits text words c → (marks : List Bool)
    → marks ≡ later_marks (node_names (book_at text words c))
    → Marks (node_names (book_at text words c)) marks (later_names [] (node_names (book_at text words c)))
unfolding is_marked
marks_right text words c fits marks e = record { told = λ w. rw e (marks_tell text words c fits w) }

-- a book that was loaded by the very names
pub loaded_exactly : (work : ℕ) (text : Bytes) (words : List ℕ) (r : Result BookCounts RefusalData) (c : BookCounts) → r ≡ Ok c
    → Loaded text words r (with_work work (read_book_by same text)) → ReadExactly text words c
loaded_exactly work text words r c e l = let h = loaded work text words r (read_book_by same text) c e l in record { fits = h.2; is = h.1 }

-- the first refusal, of the memory or of the book, is the renaming's
pub refused_first : (work : ℕ) (book out : Bytes) (x : RefusalData) → with_work work (read_book_by same book) ≡ refused (refusal_of x)
    → (writer_answer (Err x) ≡ (rename_service work out book).answer) × (out ≡ (rename_service work out book).text)
unfolding rename_service renamed_book
refused_first work book out x e = first_refused work out (read_book_by same book) _ x e

module _ (book : Bytes) (b : Book) (read : read_book_by same book ≡ accepted b) where
  abbrev later : List Name
  later = later_names [] (node_names b)

  -- 5
  pub name_stuck : (n : Name) (line : ℕ) → first_stuck book (node_names b) [] later ≡ just n → line ≡ declared_at n (lines_of book)
      → renamed_book book ≡ refused (refusal_of (told 5 1 line))
  unfolding refusal_of refusal on_accept renamed_book unless_stuck
  name_stuck n line e l = rw (read, e, l)

  -- the new book
  pub names_free : first_stuck book (node_names b) [] later ≡ nothing → renamed_book book ≡ accepted (renamed later book)
  unfolding on_accept renamed_book unless_stuck
  names_free free = rw (read, free)
