-- What a writer of a book answers and leaves is what is printed: a book that stands in the buffer, or a refusal that is put there.
use Prim.Native.Nat.{ℕ, ◌≤◌, min}
use mathlib.Core.Path.{◌≡◌, refl, sym, ap, subst, ◌∙◌}
use mathlib.Core.Bool.{Bool, true, false}
use native.Mathlib.Omega.{arith}
use mathlib.Core.List.{◌++◌}
use lib.ListN.{length, drop, length-append, length-drop}
use lib.Dec.{ltb}
use borrow.Author.Tests.{ltb-false}
use Rattle.std.specs.Prelude.{Result, Ok, Err}
use Rattle.model.specs.Bytes.{Bytes}
use Rattle.model.specs.Choice.{pick}
use Rattle.model.specs.Refusal.{Refusal, Outcome, accepted, refused, on_accept, refusal}
use Rattle.model.specs.Service.{with_work, onto, book_written, book_writer}
use Rattle.model.specs.Answers.{refusal_of, writer_answer}
use Rattle.model.specs.Printed.{refusal_text, book_text, book_printed}
use Rattle.model.specs.declared.Refusal.{Refusal as RefusalData}
use Rattle.putting.specs.Putting.{last_place, Puts}
use Rattle.putting.proofs.PuttingLaws.{puts_same, counts_length, fits_in_front}
use Rattle.list_lines.proofs.LengthLaws.{refusal_short}
use Rattle.printed_books.specs.Front.{InFront}

-- an accepted book fits its buffer
fits : (o : Outcome Bytes) (t : Bytes) → book_written 16384 65536 o ≡ accepted t → length t ≤ 65536
unfolding book_written with_work on_accept refusal
fits (accepted u) t e = go (ltb 65536 (length u)) refl e
  where
    go : (x : Bool) → ltb 65536 (length u) ≡ x → pick x (refused (record { number = 14; text = 1; line = 0 })) (accepted u) ≡ accepted t → length t ≤ 65536
    go true l q = let z : ◌≡◌ {A = ℕ} 0 1 = cc in absurd (omega arith)
    go false l q = let same : u ≡ t = cc in omega (arith, ltb-false 65536 (length u) l, ap length same)
fits (refused f) t e = let z : ◌≡◌ {A = ℕ} 0 1 = cc in absurd (omega arith)

-- a text that fits in front of a buffer leaves the buffer's length
in_front_law : (t out out' : Bytes) (n : ℕ) → length out ≡ 65536 → n ≡ length t → length t ≤ 65536 → out' ≡ t ++ drop (length t) out → InFront t out out' n
in_front_law t out out' n room a l e = record {
  answer = a;
  short = omega (arith, a, l);
  text = e;
  long = ap length e ∙ simp (length-append, length-drop) (omega (arith, room, l));
}

module _ (o : Outcome Bytes) (out out' : Bytes) (room : length out ≡ 65536) (r : Result ℕ RefusalData) (answer : writer_answer r ≡ (book_writer 16384 out o).answer)
    (text : out' ≡ (book_writer 16384 out o).text) where
  abbrev given : Outcome Bytes
  given = book_written 16384 65536 o

  answered : writer_answer r ≡ on_accept given (λ t. accepted (length t))
  unfolding book_writer
  answered = rw (← room) answer

  left : out' ≡ onto given out
  unfolding book_writer
  left = rw (← room) text

  -- the book
  pub book_printed_law : (n : ℕ) → r ≡ Ok n → InFront (book_printed o) out out' n
  unfolding book_printed book_text on_accept onto writer_answer
  book_printed_law n e = go given refl
    where
      go : (o : Outcome Bytes) → given ≡ o → InFront (book_text o) out out' n
      go (accepted t) q =
          let a = ap writer_answer (sym e) ∙ answered ∙ ap (λ (x : Outcome Bytes). on_accept x (λ t. accepted (length t))) q in
          let same : n ≡ length t = cc in
          in_front_law t out out' n room same (fits o t q) (left ∙ ap (λ (x : Outcome Bytes). onto x out) q)
      go (refused f) q =
          let a = ap writer_answer (sym e) ∙ answered ∙ ap (λ (x : Outcome Bytes). on_accept x (λ t. accepted (length t))) q in
          let z : ◌≡◌ {A = ℕ} 0 1 = cc in absurd (omega arith)

  -- the refusal
  pub refusal_printed : (x : RefusalData) (out'' : Bytes) (n : ℕ) → r ≡ Err x → Puts out' 0 (refusal_text (refusal_of x)) out'' n
      → InFront (book_printed o) out out'' n
  unfolding book_printed book_text on_accept onto writer_answer
  refusal_printed x out'' n e p = go given refl
    where
      go : (o : Outcome Bytes) → given ≡ o → InFront (book_text o) out out'' n
      go (accepted t) q =
          let a = ap writer_answer (sym e) ∙ answered ∙ ap (λ (x : Outcome Bytes). on_accept x (λ t. accepted (length t))) q in
          let z : ◌≡◌ {A = ℕ} 0 1 = cc in absurd (omega arith)
      go (refused f) q =
          let a = ap writer_answer (sym e) ∙ answered ∙ ap (λ (x : Outcome Bytes). on_accept x (λ t. accepted (length t))) q in
          let same : refusal_of x ≡ f = cc in
          let short = refusal_short f in
          let kept : out' ≡ out = left ∙ ap (λ (x : Outcome Bytes). onto x out) q in
          let put : Puts out 0 (refusal_text f) out'' n = subst (λ (o : Bytes). Puts o 0 (refusal_text f) out'' n) kept (puts_same (ap refusal_text same) p) in
          let counts : n ≡ min last_place (length (refusal_text f)) = counts_length put in
          let long : n ≡ length (refusal_text f) = omega (arith, counts, short) in
          in_front_law (refusal_text f) out out'' n room long (omega (arith, short)) (fits_in_front (omega (arith, short)) (omega (arith, short, room)) put)
