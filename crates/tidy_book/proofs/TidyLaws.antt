-- What the tidy book is, by how far its writer comes: a refused book, one that is too long for a book or for the buffer, or the tidy book.
use Prim.Native.Nat.{ℕ, ◌≤◌, ◌<◌}
use mathlib.Core.Path.{◌≡◌, sym, ap, ◌∙◌}
use mathlib.Core.List.{List}
use mathlib.Core.Bool.{Bool, true, false, ◌||◌}
use native.Mathlib.Omega.{arith}
use lib.ListN.{length}
use lib.Dec.{ltb}
use borrow.Author.Tests.{lt-ltb, le-ltb, ltb-true, ltb-false}
use Rattle.std.specs.Prelude.{Result, Ok, Err}
use Rattle.logic.specs.Flags.{or_false, neither}
use Rattle.logic.specs.Tests.{either, below_or_not}
use Rattle.model.specs.Bytes.{Bytes}
use Rattle.model.specs.Refusal.{accepted, refused, on_accept, refusal}
use Rattle.model.specs.Book.{Book}
use Rattle.model.specs.ReadBook.{read_book_by, read_book}
use Rattle.model.specs.Names.{same_but_case}
use Rattle.model.specs.Tidy.{tidy_text, tidy_book}
use Rattle.model.specs.Service.{with_work, tidy_service}
use Rattle.model.specs.Answers.{refusal_of, writer_answer}
use Rattle.model.specs.declared.Refusal.{Refusal as RefusalData}
use Rattle.model.proofs.TidyRefusals.{tidy_gives}
use Rattle.renaming.proofs.AcceptedBook.{book_bytes}
use Rattle.book_tables.specs.declared.BookCounts.{BookCounts}
use Rattle.book.specs.Loaded.{Loaded}
use Rattle.putting.specs.Putting.{Puts}
use Rattle.putting.specs.Whole.{too_long}
use Rattle.written_book.specs.Leaves.{Leaves}
use Rattle.written_book.proofs.LeavesLaws.{told, loaded, first_refused, texts_refused, no_room, book_written_law}
use Rattle.tidy_book.specs.Asked.{BookRead}

-- a book that was loaded
pub book_loaded : (work : ℕ) (text : Bytes) (words : List ℕ) (r : Result BookCounts RefusalData) (c : BookCounts) → r ≡ Ok c
    → Loaded text words r (with_work work (read_book_by same_but_case text)) → BookRead text words c
unfolding read_book
book_loaded work text words r c e l = let h = loaded work text words r (read_book_by same_but_case text) c e l in record { fits = h.2; is = h.1 }

-- the first refusal, of the memory or of the book, is the tidy book's
pub refused_first : (work : ℕ) (book out : Bytes) (x : RefusalData) → with_work work (read_book_by same_but_case book) ≡ refused (refusal_of x)
    → (writer_answer (Err x) ≡ (tidy_service work out book).answer) × (out ≡ (tidy_service work out book).text)
unfolding tidy_service tidy_book read_book
refused_first work book out x e = first_refused work out (read_book_by same_but_case book) _ x e

-- a book that was read is not longer than a book may be
pub read_short : (text : Bytes) (b : Book) → read_book text ≡ accepted b → length text ≤ 65536
unfolding read_book
read_short text b e = (book_bytes same_but_case text b e).short

module _ (book out : Bytes) (b : Book) (read : read_book book ≡ accepted b) (size : ℕ) (is : size ≡ length (tidy_text b)) where
  -- 14: too long for a book
  too_long_for_a_book : 65536 < size → tidy_book book ≡ refused (refusal_of (told 14 1 0))
  unfolding tidy_book on_accept refusal refusal_of
  too_long_for_a_book h = rw (read, lt-ltb 65536 (length (tidy_text b)) (omega (arith, h, is)))

  -- 14, whichever limit is passed
  pub refused_too_long : too_long 65536 (length out) size ≡ true → Leaves (tidy_book book) out out (Err (told 14 1 0))
  refused_too_long long = either (below_or_not 65536 size) (λ l. texts_refused _ out _ (too_long_for_a_book l))
      (λ l. no_room _ out _ (tidy_gives book b read (omega (arith, l, is))) size is (ltb-true (length out) size (sym (or_false (ltb (length out) size))
      ∙ ap (λ (few : Bool). ltb (length out) size || few) (sym (le-ltb 65536 size l)) ∙ long)))

  -- the tidy book
  pub tidy_written : (out' : Bytes) (n : ℕ) → too_long 65536 (length out) size ≡ false → Puts out 0 (tidy_text b) out' n
      → Leaves (tidy_book book) out out' (Ok size)
  tidy_written out' n short put =
      let (room, few) = neither (ltb (length out) size) (ltb 65536 size) short in
      let small : size ≤ 65536 = ltb-false 65536 size few in
      book_written_law _ out _ (tidy_gives book b read (omega (arith, small, is))) size is out' n (omega (arith, small)) (ltb-false (length out) size room) put
