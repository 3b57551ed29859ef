-- The refusals of the renaming: its table is exclusive and complete.
use Prim.Native.Nat.{ℕ, ◌<◌, ◌≤◌}
use mathlib.Core.Path.{◌≡◌, refl, sym, ap}
use mathlib.Core.Logic.{◌⊎◌, inl, inr, ⊎_elim, ◌↔◌}
use mathlib.Core.List.{List, []}
use lib.ListN.{length}
use lib.Dec.{ltb}
use Rattle.model.specs.Bytes.{Bytes, same}
use Rattle.model.specs.Choice.{pick, Maybe, nothing, just}
use Rattle.model.specs.Names.{Name}
use Rattle.model.specs.Refusal.{Refusal, Outcome, accepted, refused, on_accept, refusal}
use Rattle.model.specs.Lines.{Line, lines_of}
use Rattle.model.specs.Book.{Book, node_names}
use Rattle.model.specs.ReadBook.{read_book_by}
use Rattle.model.specs.Renaming.{later_names, renamed, first_stuck, declared_at, unless_stuck, renamed_book}
use Rattle.model.specs.Service.{with_work, book_written, book_writer, rename_service}
use Rattle.model.specs.Refused.{returned, Exactly, memory_short, in_book, no_room, RenameTable, stuck}
use Rattle.model.proofs.Faults.{over_refused, need_refused}
use Rattle.model.proofs.Outcomes.{no_just}
use Rattle.model.proofs.Refusals.{exactly, accepts, answer_exactly}

-- a name that cannot have its new one is refused, and nothing else is
stuck_refused : {A : Type 0} (m : Maybe Name) (ls : List Line) (a : A) (f : Refusal)
    → (unless_stuck m ls a ≡ refused f) ↔ ((n : Name) × (m ≡ just n) × (f ≡ returned 5 1 (declared_at n ls)))
unfolding unless_stuck refusal
stuck_refused nothing ls a f = (λ e. accepts a f e, λ u. no_just u.0 u.1)
stuck_refused {A} (just n) ls a f = (
  λ e. (n, refl, (let d : ◌≡◌ {A = Outcome A} (refused (returned 5 1 (declared_at n ls))) (refused f) = e in cc)),
  λ u. let d : n ≡ u.0 = cc u.1 in rw d (ap refused (sym u.2)),
)

-- a book with new names is refused by its own refusals by the very names, then by 5
renamed_refused : (book : Bytes) (f : Refusal)
    → (renamed_book book ≡ refused f) ↔ ((read_book_by same book ≡ refused f) ⊎ ((b : Book) × (n : Name) × (read_book_by same book ≡ accepted b)
    × (first_stuck book (node_names b) [] (later_names [] (node_names b)) ≡ just n) × (f ≡ returned 5 1 (declared_at n (lines_of book)))))
unfolding renamed_book
renamed_refused book f =
    let h = need_refused (read_book_by same book) behind f in (
      λ e. ⊎_elim inl (λ u. let v = (stuck_refused _ (lines_of book) _ f).0 u.2 in inr (u.0, v.0, u.1, v.1, v.2)) (h.0 e),
      λ u. h.1 (⊎_elim inl (λ v. inr (v.0, v.2, (stuck_refused _ (lines_of book) _ f).1 (v.1, v.3, v.4))) u),
    )
  where
    behind : Book → Outcome Bytes
    behind b = unless_stuck (first_stuck book (node_names b) [] (later_names [] (node_names b))) (lines_of book) (renamed (later_names [] (node_names b)) book)

-- the renamed book is refused by the renaming's table, and else given
pub rename_table : (work room : ℕ) (book : Bytes) → Exactly (book_written work room (renamed_book book)) (RenameTable work room book)
unfolding book_written with_work refusal
rename_table work room book = exactly _ (RenameTable work room book) (λ f. (
  λ e. ⊎_elim (λ u. memory_short u.0 u.1)
      (λ u. ⊎_elim
      (λ v. ⊎_elim (in_book u.0) (λ w. stuck u.0 w.2 w.3 w.4) ((renamed_refused book f).0 v))
      (λ v. ⊎_elim (λ w. no_room u.0 v.1 w.0 w.1) (λ w. accepts _ f w.1) ((over f v.0).0 v.2))
      ((written f).0 u.1)) ((memory f).0 e),
  back f,
))
  where
    rest : Bytes → Outcome Bytes
    rest t = pick (ltb room (length t)) (refused (returned 14 1 0)) (accepted t)

    memory : (f : Refusal) → (book_written work room (renamed_book book) ≡ refused f) ↔
        (((work < 16384) × (f ≡ returned 15 0 0)) ⊎ ((16384 ≤ work) × (on_accept (renamed_book book) rest ≡ refused f)))
    memory f = over_refused work 16384 (returned 15 0 0) (on_accept (renamed_book book) rest) f

    written : (f : Refusal) → (on_accept (renamed_book book) rest ≡ refused f) ↔
        ((renamed_book book ≡ refused f) ⊎ ((t : Bytes) × (renamed_book book ≡ accepted t) × (rest t ≡ refused f)))
    written f = need_refused (renamed_book book) rest f

    over : (f : Refusal) (t : Bytes) → (rest t ≡ refused f) ↔
        (((room < length t) × (f ≡ returned 14 1 0)) ⊎ ((length t ≤ room) × (◌≡◌ {A = Outcome Bytes} (accepted t) (refused f))))
    over f t = over_refused room (length t) (returned 14 1 0) (accepted t) f

    back : (f : Refusal) → RenameTable work room book f → book_written work room (renamed_book book) ≡ refused f
    back f (memory_short l e) = (memory f).1 (inl (l, e))
    back f (in_book l e) = (memory f).1 (inr (l, (written f).1 (inl ((renamed_refused book f).1 (inl e)))))
    back f (stuck {b} {n} l r k e) = (memory f).1 (inr (l, (written f).1 (inl ((renamed_refused book f).1 (inr (b, n, r, k, e))))))
    back f (no_room {t} l r o e) = (memory f).1 (inr (l, (written f).1 (inr (t, r, (over f t).1 (inl (o, e))))))

-- the renaming refuses by its table, and else answers
pub rename_service_table : (work : ℕ) (buffer book : Bytes) → Exactly (rename_service work buffer book).answer (RenameTable work (length buffer) book)
unfolding rename_service book_writer
rename_service_table work buffer book = answer_exactly (book_written work (length buffer) (renamed_book book)) length _ (rename_table work (length buffer) book)
