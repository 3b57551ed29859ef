-- What a service that writes a book answers and leaves, by how far it comes: short memory, a refusal of the texts, no room, or the book.
use Prim.Native.Nat.{ℕ, ◌≤◌, ◌<◌}
use mathlib.Core.Path.{◌≡◌, refl, sym, ap, subst, ◌∙◌}
use mathlib.Core.List.{List}
use mathlib.Core.Bool.{Bool, true, false}
use native.Mathlib.Omega.{arith}
use lib.ListN.{length, length-replicate}
use lib.Dec.{ltb}
use borrow.Author.Tests.{lt-ltb, le-ltb, ltb-false}
use Rattle.std.specs.Prelude.{Result, Ok, Err}
use Rattle.model.specs.Bytes.{Bytes}
use Rattle.model.specs.Choice.{pick}
use Rattle.model.specs.Limits.{no_node}
use Rattle.model.specs.Refusal.{Refusal, Outcome, accepted, refused, on_accept, refusal}
use Rattle.model.specs.Book.{Book}
use Rattle.model.specs.Service.{ones, with_work, onto, book_written, book_writer}
use Rattle.model.specs.Answers.{refusal_of, writer_answer}
use Rattle.model.specs.declared.Refusal.{Refusal as RefusalData}
use Rattle.book_tables.specs.declared.BookCounts.{BookCounts}
use Rattle.book_tables.specs.View.{book_at}
use Rattle.book_tables.specs.Fits.{Fits}
use Rattle.book.specs.Loaded.{Loaded}
use Rattle.fill.specs.Filled.{filled}
use Rattle.fill.specs.FilledLaws.{filled_whole}
use Rattle.putting.specs.Putting.{last_place, Puts}
use Rattle.putting.proofs.PuttingLaws.{fits_in_front}
use Rattle.written_book.specs.Leaves.{Leaves}

-- a refusal by its three numbers
abbrev pub told : ℕ → ℕ → ℕ → RefusalData
told n t l = record { number = n; text = t; line = l }

-- 15 where the memory is not whole
pub memory_short : {A : Type 0} (work : ℕ) (o : Outcome A) → work < 16384 → with_work work o ≡ refused (refusal_of (told 15 0 0))
unfolding with_work refusal refusal_of
memory_short work o h = rw (lt-ltb work 16384 h)

-- with a whole memory the outcome is the text's
pub memory_whole : {A : Type 0} (work : ℕ) (o : Outcome A) → 16384 ≤ work → with_work work o ≡ o
unfolding with_work
memory_whole work o h = rw (le-ltb work 16384 h)

-- accepted: the memory is whole, and the text is accepted
was_whole : {A : Type 0} (work : ℕ) (o : Outcome A) (a : A) → with_work work o ≡ accepted a → (16384 ≤ work) × (o ≡ accepted a)
unfolding with_work refusal
was_whole work o a e = go (ltb work 16384) refl e
  where
    go : (short : Bool) → ltb work 16384 ≡ short → pick short (refused (record { number = 15; text = 0; line = 0 })) o ≡ accepted a
        → (16384 ≤ work) × (o ≡ accepted a)
    go true l q = let z : ◌≡◌ {A = ℕ} 0 1 = cc in absurd (omega arith)
    go false l q = (ltb-false work 16384 l, q)

-- refused: so is what goes on from it
still_refused : {A B C : Type 0} (work : ℕ) (o : Outcome A) (f : A → Outcome B) (g : B → Outcome C) (x : Refusal) → with_work work o ≡ refused x
    → with_work work (on_accept (on_accept o f) g) ≡ refused x
unfolding with_work refusal on_accept
still_refused {A} {B} {C} work o f g x e = go (ltb work 16384) e
  where
    first : Refusal
    first = record { number = 15; text = 0; line = 0 }

    go : (short : Bool) → pick short (refused first) o ≡ refused x → pick short (refused first) (on_accept (on_accept o f) g) ≡ refused x
    go true q = let same : first ≡ x = cc in ap refused same
    go false q = rw q

-- a book that was loaded, or refused
pub loaded : (work : ℕ) (text : Bytes) (words : List ℕ) (r : Result BookCounts RefusalData) (o : Outcome Book) (c : BookCounts) → r ≡ Ok c
    → Loaded text words r (with_work work o) → (16384 ≤ work) × (o ≡ accepted (book_at text words c)) × Fits text words c
loaded work text words r o c e l =
    let h = subst (λ (x : Result BookCounts RefusalData). Loaded text words x (with_work work o)) e l in
    let (whole, is) = was_whole work o _ h.0 in
    (whole, is, h.1)

pub load_refused : (work : ℕ) (text : Bytes) (words : List ℕ) (r : Result BookCounts RefusalData) (o : Outcome Book) (x : RefusalData) → r ≡ Err x
    → Loaded text words r (with_work work o) → (with_work work o ≡ refused (refusal_of x)) × (words ≡ ones (length words))
load_refused work text words r o x e l = subst (λ (y : Result BookCounts RefusalData). Loaded text words y (with_work work o)) e l

written_refused : (work room : ℕ) (o : Outcome Book) (f : Book → Outcome Bytes) (x : Refusal) → with_work work o ≡ refused x
    → book_written work room (on_accept o f) ≡ refused x
unfolding book_written
written_refused work room o f x e = still_refused work o f (λ t. pick (ltb room (length t)) (refusal 14 1 0) (accepted t)) x e

-- the first refusal, of the memory or of the book, is the service's
pub first_refused : (work : ℕ) (out : Bytes) (o : Outcome Book) (f : Book → Outcome Bytes) (x : RefusalData) → with_work work o ≡ refused (refusal_of x)
    → (writer_answer (Err x) ≡ (book_writer work out (on_accept o f)).answer) × (out ≡ (book_writer work out (on_accept o f)).text)
unfolding book_writer writer_answer onto on_accept
first_refused work out o f x e = let r = written_refused work (length out) o f (refusal_of x) e in (rw r, rw r)

-- a memory that was filled, of so many words as it had
pub cleared : (entry words words' : List ℕ) → words' ≡ filled 0 words → length words ≡ length entry → words' ≡ ones (length entry)
unfolding ones
cleared entry words words' e l = e ∙ filled_whole words ∙ ap ones l

pub all_ones : (words words' : List ℕ) → words' ≡ filled 0 words → words' ≡ ones (length words')
unfolding ones
all_ones words words' e =
    let is = e ∙ filled_whole words in
    is ∙ ap ones (sym (ap length is ∙ length-replicate (length words) no_node))

module _ (o : Outcome Bytes) (out : Bytes) where
  -- with a whole memory its length does not matter
  pub whole_memory_law : (work : ℕ) (out' : Bytes) (r : Result ℕ RefusalData) → 16384 ≤ work → Leaves o out out' r
      → (writer_answer r ≡ (book_writer work out o).answer) × (out' ≡ (book_writer work out o).text)
  unfolding book_writer book_written with_work
  whole_memory_law work out' r h l = (rw (le-ltb work 16384 h) l.answer, rw (le-ltb work 16384 h) l.text)

  -- a refusal that the texts give
  pub texts_refused : (x : RefusalData) → o ≡ refused (refusal_of x) → Leaves o out out (Err x)
  unfolding book_writer book_written with_work writer_answer on_accept onto
  texts_refused x e = record { answer = rw e; text = rw e }

  module _ (t : Bytes) (is : o ≡ accepted t) (size : ℕ) (counted : size ≡ length t) where
    -- 14
    pub no_room : length out < size → Leaves o out out (Err (told 14 1 0))
    unfolding book_writer book_written with_work writer_answer refusal_of refusal on_accept onto
    no_room h = let l = lt-ltb (length out) (length t) (omega (arith, h, counted)) in record { answer = rw (is, l); text = rw (is, l) }

    -- the book
    pub book_written_law : (out' : Bytes) (n : ℕ) → size ≤ last_place → size ≤ length out → Puts out 0 t out' n → Leaves o out out' (Ok size)
    unfolding book_writer book_written with_work writer_answer on_accept onto
    book_written_law out' n small h p =
        let l = le-ltb (length out) (length t) (omega (arith, h, counted)) in
        record {
          answer = rw (is, l) (ap accepted counted);
          text = rw (is, l) (fits_in_front (omega (arith, small, counted)) (omega (arith, h, counted)) p);
        }
