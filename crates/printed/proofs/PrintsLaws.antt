-- A refusal or a list that is put at the start of a buffer is what is printed, whole. Assumes nothing.
use Prim.Native.Nat.{ℕ, ◌*◌, ◌≤◌}
use mathlib.Core.Path.{◌≡◌, subst}
use mathlib.Core.List.{List}
use native.Mathlib.Omega.{arith}
use lib.ListN.{length}
use Rattle.std.specs.Prelude.{Result, Ok, Err}
use Rattle.model.specs.Bytes.{Bytes}
use Rattle.model.specs.Refusal.{Refusal, accepted}
use Rattle.model.specs.Book.{node_names}
use Rattle.model.specs.ReadBook.{read_book}
use Rattle.model.specs.Service.{list_service}
use Rattle.model.specs.Answers.{refusal_of, list_answer}
use Rattle.model.specs.Printed.{rows_text, refusal_text, printed}
use Rattle.model.specs.declared.Refusal.{Refusal as RefusalData}
use Rattle.model.specs.declared.RowsSize.{RowsSize}
use Rattle.book_tables.specs.declared.BookCounts.{BookCounts}
use Rattle.book_tables.specs.View.{book_at}
use Rattle.book_tables.specs.Fits.{Fits}
use Rattle.book.specs.Loaded.{Loaded}
use Rattle.rows.specs.Buffer.{rows_in}
use Rattle.putting.specs.Putting.{Puts}
use Rattle.putting.proofs.PuttingLaws.{puts_same}
use Rattle.list_lines.specs.Printing.{Prints}
use Rattle.list_lines.proofs.FrontLaws.{prints}
use Rattle.list_lines.proofs.LengthLaws.{refusal_short, names_short, list_short}
use Rattle.list_lines.proofs.AnswerLaws.{book_refused, list_refused, Shown}

-- a book that was loaded
pub loaded : (text : Bytes) (words : List ℕ) (r : Result BookCounts RefusalData) (c : BookCounts) → r ≡ Ok c → Loaded text words r (read_book text)
    → Fits text words c × (read_book text ≡ accepted (book_at text words c))
loaded text words r c e l = let h = subst (λ (x : Result BookCounts RefusalData). Loaded text words x (read_book text)) e l in (h.1, h.0)

refusal_printed : (r : Refusal) {t o o' : Bytes} {n : ℕ} → refusal_text r ≡ t → Puts o 0 (refusal_text r) o' n → Prints t o o' n
refusal_printed r e p = prints (subst (λ (x : Bytes). length x ≤ 622605) e (omega (arith, refusal_short r))) (puts_same e p)

module _ (book rules query request : Bytes) {o o' : Bytes} {n : ℕ} where
  -- the book is refused
  pub book_refusal_printed : (words : List ℕ) (r : Result BookCounts RefusalData) (q : RefusalData) → r ≡ Err q → Loaded book words r (read_book book)
      → Puts o 0 (refusal_text (refusal_of q)) o' n → Prints (printed book rules query request) o o' n
  book_refusal_printed words r q e l p =
      let h = subst (λ (x : Result BookCounts RefusalData). Loaded book words x (read_book book)) e l in
      refusal_printed (refusal_of q) (book_refused book rules query request (refusal_of q) h.0) p

  -- the list is refused
  pub list_refusal_printed : (r : Result RowsSize RefusalData) (q : RefusalData) → r ≡ Err q → list_answer r ≡ (list_service 16384 16384 book rules query request).answer
      → Puts o 0 (refusal_text (refusal_of q)) o' n → Prints (printed book rules query request) o o' n
  list_refusal_printed r q e a p = refusal_printed (refusal_of q) (list_refused book rules query request r q e a) p

  -- the list has rows
  pub rows_printed : (words : List ℕ) (c : BookCounts) (after : List ℕ) (count width : ℕ) → length after ≡ 16384
      → Shown book rules query request (book_at book words c) after count width
      → Puts o 0 (rows_text (node_names (book_at book words c)) (rows_in width count after)) o' n → Prints (printed book rules query request) o o' n
  rows_printed words c after count width l s p =
      let names = node_names (book_at book words c) in
      let inside : count * width ≤ length after = omega (arith, s.fits) in
      prints (subst (λ (x : Bytes). length x ≤ 622605) s.text (list_short names (names_short book words c) width count after inside s.few s.fits))
      (puts_same s.text p)
