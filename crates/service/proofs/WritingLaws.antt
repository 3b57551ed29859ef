-- The answer of the query writer, and what it leaves in the text buffer.
use Prim.Native.Nat.{ℕ}
use mathlib.Core.Path.{◌≡◌, refl, sym, ap, ◌∙◌}
use mathlib.Core.Bool.{Bool, true, false}
use mathlib.Core.List.{List, ◌++◌}
use lib.ListN.{length, drop}
use Rattle.std.specs.Prelude.{Option, None, Some, Result, Ok, Err}
use Rattle.model.specs.Bytes.{Bytes}
use Rattle.model.specs.Choice.{pick}
use Rattle.model.specs.Refusal.{Outcome, accepted, on_accept, refusal}
use Rattle.model.specs.Book.{Book}
use Rattle.model.specs.Pattern.{pattern_of}
use Rattle.model.specs.Writing.{written_query}
use Rattle.model.specs.Service.{onto, writer_text, writer_service}
use Rattle.model.specs.Answers.{refusal_of, pattern_in, writer_answer}
use Rattle.model.specs.declared.Refusal.{Refusal as RefusalData}
use Rattle.model.specs.declared.Pattern.{Pattern as PatternData}
use Rattle.model.proofs.AcceptedQuery.{query_accepted}
use Rattle.book_tables.specs.View.{book_at}
use Rattle.rules_tables.specs.View.{tree_of}
use Rattle.putting.specs.Whole.{too_long, Writes}
use Rattle.query_writer.specs.Writable.{Writable}
use Rattle.query.specs.PatternRead.{PatternAsked, PatternRead}
use Rattle.query.proofs.ReadLaws.{pattern_asked}
use Rattle.prepare.specs.declared.Needs.{Needs}
use Rattle.prepare.specs.declared.Ready.{Ready}
use Rattle.prepare.specs.Texts.{Texts, after_rules, after_book, through}
use Rattle.prepare.specs.Ready.{AllReady, Prepared}
use Rattle.prepare.proofs.ThroughLaws.{all_ready, refused_through, ready_through}

-- what is needed
abbrev needed : Needs
needed = record { rules = true; query = true; request = false }

module _ (work : ℕ) (text book rules query request : Bytes) (words table : List ℕ) (r : Ready)
    (given : Prepared needed book rules query request words table (through needed work book rules query request accepted) r) where
  -- the written text of a pattern, if it fits
  abbrev fitting : Bytes → Outcome Bytes
  fitting t = pick (too_long 2048 (length text) (length t)) (refusal 14 3 1) (accepted t)

  abbrev of_texts : Texts → Outcome Bytes
  of_texts t = fitting (written_query (pattern_of t.query))

  -- an answer and a buffer are the service's
  abbrev WriterSays : Bytes → Result ℕ RefusalData → Type 0
  WriterSays text' w = (writer_answer w ≡ (writer_service work text book rules query).answer) × (text' ≡ (writer_service work text book rules query).text)

  says : (o : Outcome Bytes) → through needed work book rules query request of_texts ≡ o → (text' : Bytes) (w : Result ℕ RefusalData)
      → writer_answer w ≡ on_accept o (λ t. accepted (length t)) → text' ≡ onto o text → WriterSays text' w
  unfolding writer_service writer_text through after_book after_rules on_accept
  says o e text' w f g = (f ∙ ap (λ (z : Outcome Bytes). on_accept z (λ t. accepted (length t))) (sym e), g ∙ ap (λ (z : Outcome Bytes). onto z text) (sym e))

  pub writer_refused : (x : RefusalData) → r.request.verdict ≡ Err x → WriterSays text (Err x)
  unfolding writer_answer on_accept onto
  writer_refused x e = says _ (refused_through needed work book rules query request of_texts words table r given x e) text (Err x) refl refl

  module _ (e : r.request.verdict ≡ Ok tt) where
    all : AllReady needed book rules query request words table (through needed work book rules query request accepted) r
    all = all_ready needed work book rules query request of_texts words table r given e

    abbrev b : Book
    b = book_at book words r.book

    pub writer_asked : PatternAsked book words r.book query
    writer_asked = pattern_asked book words r.book query (tree_of query) all.rules_ready.fits all.query_read

    module _ (p : PatternData) (read : PatternRead b r.book query p) where
      pub writable : Writable book words r.book query p
      writable = record { fits = all.rules_ready.fits; pattern = read.fits; parts = read.parts }

      abbrev written : Bytes
      written = written_query (pattern_in b query p)

      fits_as : through needed work book rules query request of_texts ≡ fitting written
      fits_as = ready_through needed work book rules query request of_texts words table r given all
          ∙ ap (λ (t : Bytes). fitting t) (ap written_query (sym (read.is (tree_of query) (query_accepted b query (tree_of query) all.query_read).is_text)))

      module _ (text' : Bytes) (w : Option ℕ) (writes : Writes 2048 written text text' w) where
        pub wrote : (n : ℕ) → w ≡ Some n → WriterSays text' (Ok n)
        unfolding writer_answer on_accept onto refusal
        wrote n k = go (too_long 2048 (length text) (length written)) fits_as writes.answer writes.text
          where
            go : (t : Bool) → through needed work book rules query request of_texts ≡ pick t (refusal 14 3 1) (accepted written)
                → w ≡ pick t None (Some (length written)) → text' ≡ pick t text (written ++ drop (length written) text) → WriterSays text' (Ok n)
            go true h d f = absurd (cc)
            go false h d f = let e : n ≡ length written = cc in says _ h text' (Ok n) (ap accepted e) f

        pub no_room : w ≡ None → WriterSays text' (Err (record { number = 14; text = 3; line = 1 }))
        unfolding writer_answer on_accept onto refusal refusal_of
        no_room k = go (too_long 2048 (length text) (length written)) fits_as writes.answer writes.text
          where
            go : (t : Bool) → through needed work book rules query request of_texts ≡ pick t (refusal 14 3 1) (accepted written)
                → w ≡ pick t None (Some (length written)) → text' ≡ pick t text (written ++ drop (length written) text)
                → WriterSays text' (Err (record { number = 14; text = 3; line = 1 }))
            go true h d f = says _ h text' (Err (record { number = 14; text = 3; line = 1 })) refl f
            go false h d f = absurd (cc)
