-- The refusals of the tidy book: its table is exclusive and complete.
use Prim.Native.Nat.{ℕ, ◌<◌, ◌≤◌}
use mathlib.Core.Path.{◌≡◌, sym, subst}
use mathlib.Core.Logic.{◌⊎◌, inl, inr, ⊎_elim, ◌↔◌}
use mathlib.Core.Bool.{Bool}
use native.Mathlib.Omega.{arith}
use lib.ListN.{length}
use lib.Dec.{T, ltb, ltb→lt, nltb→le, not_T}
use Rattle.model.specs.Bytes.{Bytes}
use Rattle.model.specs.Choice.{pick}
use Rattle.model.specs.Refusal.{Refusal, Outcome, accepted, refused, on_accept, refusal}
use Rattle.model.specs.Book.{Book}
use Rattle.model.specs.ReadBook.{read_book}
use Rattle.model.specs.Tidy.{tidy_text, tidy_book}
use Rattle.model.specs.Service.{with_work, book_written, book_writer, tidy_service}
use Rattle.model.specs.Refused.{returned, Exactly, memory_short, in_book, book_first, no_room, TidyTable}
use Rattle.model.proofs.Members.{test, is_false}
use Rattle.model.proofs.Outcomes.{accept_e, else_e}
use Rattle.model.proofs.Faults.{over_refused, need_refused}
use Rattle.model.proofs.Refusals.{exactly, accepts, answer_exactly}

-- a text that is longer than so many bytes is refused, and no other
over : (limit : ℕ) (t : Bytes) (f : Refusal) → (pick (ltb limit (length t)) (refused (returned 14 1 0)) (accepted t) ≡ refused f)
    ↔ (((limit < length t) × (f ≡ returned 14 1 0)) ⊎ ((length t ≤ limit) × (◌≡◌ {A = Outcome Bytes} (accepted t) (refused f))))
over limit t f = over_refused limit (length t) (returned 14 1 0) (accepted t) f

-- a tidy book is refused by the book's own refusals, then by 14 if it is longer than a book may be
tidy_refused : (book : Bytes) (f : Refusal)
    → (tidy_book book ≡ refused f) ↔ ((read_book book ≡ refused f) ⊎ ((b : Book) × (read_book book ≡ accepted b) × (65536 < length (tidy_text b))
    × (f ≡ returned 14 1 0)))
unfolding tidy_book refusal
tidy_refused book f =
    let h = need_refused (read_book book) (λ b. pick (ltb 65536 (length (tidy_text b))) (refused (returned 14 1 0)) (accepted (tidy_text b))) f in (
      λ e. ⊎_elim inl (λ u. ⊎_elim (λ v. inr (u.0, u.1, v.0, v.1)) (λ v. accepts _ f v.1) ((over 65536 (tidy_text u.0) f).0 u.2)) (h.0 e),
      λ u. h.1 (⊎_elim inl (λ v. inr (v.0, v.1, (over 65536 (tidy_text v.0) f).1 (inl (v.2, v.3)))) u),
    )

-- a tidy book that is given is that of the book read, and not longer than a book may be
pub tidy_given : (book t : Bytes) → tidy_book book ≡ accepted t → (b : Book) × (read_book book ≡ accepted b) × (t ≡ tidy_text b) × (length (tidy_text b) ≤ 65536)
unfolding tidy_book refusal
tidy_given book t e =
    let (b, r, u) = accept_e (read_book book) _ t e in
    let (short, is) = else_e (ltb 65536 (length (tidy_text b))) _ (accepted (tidy_text b)) t u in
    (b, r, (let d : tidy_text b ≡ t = cc in sym d), nltb→le 65536 (length (tidy_text b)) (rw short tt))

-- the other way
pub tidy_gives : (book : Bytes) (b : Book) → read_book book ≡ accepted b → length (tidy_text b) ≤ 65536 → tidy_book book ≡ accepted (tidy_text b)
unfolding tidy_book on_accept
tidy_gives book b r short = rw (r, is_false (ltb 65536 (length (tidy_text b))) (λ u. let z = ltb→lt 65536 (length (tidy_text b)) u in omega (arith, short)))

-- the tidy book is refused by its table, and else given
pub tidy_table : (work room : ℕ) (book : Bytes) → Exactly (book_written work room (tidy_book book)) (TidyTable work room book)
unfolding book_written with_work refusal
tidy_table work room book = exactly _ (TidyTable work room book) (λ f. (
  λ e. ⊎_elim (λ u. book_first (memory_short u.0 u.1))
      (λ u. ⊎_elim
      (λ v. ⊎_elim (λ w. book_first (in_book u.0 w))
      (λ w. no_room (record { memory_whole = u.0; book_read = w.1 }) (inr w.2) w.3) ((tidy_refused book f).0 v))
      (λ v. let (b, r, is, few) = tidy_given book v.0 v.1 in
      ⊎_elim (λ w. no_room (record { memory_whole = u.0; book_read = r }) (inl (subst (λ (t : Bytes). room < length t) is w.0)) w.1)
      (λ w. accepts _ f w.1) ((over room v.0 f).0 v.2))
      ((written f).0 u.1)) ((memory f).0 e),
  back f,
))
  where
    rest : Bytes → Outcome Bytes
    rest t = pick (ltb room (length t)) (refused (returned 14 1 0)) (accepted t)

    memory : (f : Refusal) → (book_written work room (tidy_book book) ≡ refused f) ↔
        (((work < 16384) × (f ≡ returned 15 0 0)) ⊎ ((16384 ≤ work) × (on_accept (tidy_book book) rest ≡ refused f)))
    memory f = over_refused work 16384 (returned 15 0 0) (on_accept (tidy_book book) rest) f

    written : (f : Refusal) → (on_accept (tidy_book book) rest ≡ refused f) ↔
        ((tidy_book book ≡ refused f) ⊎ ((t : Bytes) × (tidy_book book ≡ accepted t) × (rest t ≡ refused f)))
    written f = need_refused (tidy_book book) rest f

    back : (f : Refusal) → TidyTable work room book f → book_written work room (tidy_book book) ≡ refused f
    back f (book_first (memory_short l e)) = (memory f).1 (inl (l, e))
    back f (book_first (in_book l e)) = (memory f).1 (inr (l, (written f).1 (inl ((tidy_refused book f).1 (inl e)))))
    back f (no_room {b} u long e) = (memory f).1 (inr (u.memory_whole, (written f).1 (either_long (test (ltb 65536 (length (tidy_text b)))))))
      where
        Long : Bool
        Long = ltb 65536 (length (tidy_text b))

        either_long : T Long ⊎ (T Long → ⊥) → (tidy_book book ≡ refused f) ⊎ ((t : Bytes) × (tidy_book book ≡ accepted t) × (rest t ≡ refused f))
        either_long (inl l) = inl ((tidy_refused book f).1 (inr (b, u.book_read, ltb→lt 65536 (length (tidy_text b)) l, e)))
        either_long (inr l) =
            let few = nltb→le 65536 (length (tidy_text b)) (not_T Long l) in
            inr (
              tidy_text b,
              tidy_gives book b u.book_read few,
              (over room (tidy_text b) f).1 (inl (⊎_elim (λ k. k) (λ k. absurd (omega (arith, k, few))) long, e)),
            )

-- the tidy book's service refuses by its table, and else answers
pub tidy_service_table : (work : ℕ) (buffer book : Bytes) → Exactly (tidy_service work buffer book).answer (TidyTable work (length buffer) book)
unfolding tidy_service book_writer
tidy_service_table work buffer book = answer_exactly (book_written work (length buffer) (tidy_book book)) length _ (tidy_table work (length buffer) book)
