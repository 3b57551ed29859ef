-- What a service that needs the book alone answers.
use Prim.Native.Nat.{ℕ}
use mathlib.Core.Path.{◌≡◌, refl, sym, ap, ◌∙◌}
use mathlib.Core.List.{List}
use mathlib.Core.Bool.{false}
use lib.ListN.{length}
use Rattle.std.specs.Prelude.{Ok, Err}
use Rattle.model.specs.Bytes.{Bytes}
use Rattle.model.specs.Refusal.{Outcome, accepted, refused, on_accept}
use Rattle.model.specs.Book.{Book, entry_count}
use Rattle.model.specs.ReadBook.{read_book}
use Rattle.model.specs.Service.{BookAnswer, with_work, book_service}
use Rattle.model.specs.Answers.{refusal_of, book_answer}
use Rattle.model.specs.declared.Refusal.{Refusal as RefusalData}
use Rattle.book_tables.specs.View.{node_of, rel_of, book_at}
use Rattle.book_tables.specs.Fits.{Fits}
use Rattle.book_tables.proofs.ListedLaws.{length_listed}
use Rattle.prepare.specs.declared.Needs.{Needs}
use Rattle.prepare.specs.declared.Ready.{Ready}
use Rattle.prepare.specs.Texts.{Texts, after_rules, after_book, through}
use Rattle.prepare.specs.Ready.{Prepared}
use Rattle.prepare.proofs.ThroughLaws.{all_ready, refused_through, ready_through}

-- no text but the book is needed
abbrev book_alone : Needs
book_alone = record { rules = false; query = false; request = false }

module _ (work : ℕ) (book rules query request : Bytes) (words table : List ℕ) (r : Ready)
    (given : Prepared book_alone book rules query request words table (through book_alone work book rules query request accepted) r) where
  -- the book itself
  abbrev itself : Texts → Outcome Book
  itself t = accepted t.book

  itself_is : with_work work (read_book book) ≡ through book_alone work book rules query request itself
  unfolding through with_work after_book after_rules on_accept
  itself_is = go (read_book book)
    where
      go : (o : Outcome Book) → with_work work o ≡ with_work work (on_accept o (λ b. accepted b))
      go (accepted b) = refl
      go (refused x) = refl

  -- its counts
  abbrev counted : Texts → Outcome BookAnswer
  counted t = accepted (record { nodes = length t.book.nodes; rels = length t.book.rels; entries = entry_count t.book })

  counted_is : (book_service work book).answer ≡ through book_alone work book rules query request counted
  unfolding book_service through after_book after_rules on_accept
  counted_is = refl

  module _ (e : r.request.verdict ≡ Ok tt) where
    pub book_fits : Fits book words r.book
    book_fits = (all_ready book_alone work book rules query request itself words table r given e).rules_ready.fits

    pub book_there : with_work work (read_book book) ≡ accepted (book_at book words r.book)
    book_there = itself_is ∙ ready_through book_alone work book rules query request itself words table r given
        (all_ready book_alone work book rules query request itself words table r given e)

    pub book_counted : book_answer (Ok (record { nodes = r.book.nodes; relationships = r.book.relationships; entries = r.book.entries })) ≡ (book_service work book).answer
    unfolding book_answer book_at
    book_counted =
        let a = all_ready book_alone work book rules query request counted words table r given e in
        sym (counted_is ∙ ready_through book_alone work book rules query request counted words table r given a ∙ ap accepted (λ i. record {
          nodes = length_listed (node_of book words) r.book.nodes i;
          rels = length_listed (rel_of book words) r.book.relationships i;
          entries = book_fits.counted i;
        }))

  module _ (x : RefusalData) (e : r.request.verdict ≡ Err x) where
    pub book_not_there : with_work work (read_book book) ≡ refused (refusal_of x)
    book_not_there = itself_is ∙ refused_through book_alone work book rules query request itself words table r given x e

    pub book_refused : book_answer (Err x) ≡ (book_service work book).answer
    unfolding book_answer
    book_refused = sym (counted_is ∙ refused_through book_alone work book rules query request counted words table r given x e)
