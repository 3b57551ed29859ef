-- What a service that needs some texts gives, once they are ready or refused.
use Prim.Native.Nat.{ℕ}
use mathlib.Core.Path.{◌≡◌, refl, sym, ap, subst, ◌∙◌}
use mathlib.Core.List.{List}
use mathlib.Core.Bool.{Bool, true, false}
use lib.ListN.{length}
use lib.Dec.{ltb}
use Rattle.std.specs.Prelude.{Ok, Err}
use Rattle.model.specs.Bytes.{Bytes}
use Rattle.model.specs.Choice.{pick}
use Rattle.model.specs.Refusal.{Outcome, accepted, refused, on_accept, refusal}
use Rattle.model.specs.Book.{Book}
use Rattle.model.specs.ReadBook.{read_book}
use Rattle.model.specs.QueryText.{QueryText}
use Rattle.model.specs.Rules.{Rules}
use Rattle.model.specs.Request.{Request}
use Rattle.model.specs.Service.{ones, with_work}
use Rattle.model.specs.Answers.{refusal_of}
use Rattle.model.specs.declared.Refusal.{Refusal as RefusalData}
use Rattle.prepare.specs.declared.Needs.{Needs}
use Rattle.prepare.specs.declared.Ready.{Ready}
use Rattle.prepare.specs.Texts.{Texts, rules_if, query_if, request_if, after_rules, after_book, through}
use Rattle.prepare.specs.Ready.{AllReady, NotReady, ByVerdict, Prepared, texts_of}

-- a memory that was cleared, of so many words as it had
pub cleared_all : (entry words' : List ℕ) (n : ℕ) → words' ≡ ones n → n ≡ length entry → words' ≡ ones (length entry)
cleared_all entry words' n e l = e ∙ ap ones l

-- four texts that are read, one after another
abbrev four : Book → Rules → QueryText → Request → Texts
four b r q x = record { book = b; rules = r; query = q; request = x }

module _ {A : Type 0} (n : Needs) (work : ℕ) (book rules query request : Bytes) (f : Texts → Outcome A) where
  of_rules : (b : Book) (r : Rules) → on_accept (after_rules n query request b r accepted) f ≡ after_rules n query request b r f
  unfolding after_rules on_accept
  of_rules b r = go (query_if n.query b query) (request_if n.request b r request)
    where
      go : (o : Outcome QueryText) (p : Outcome Request)
          → on_accept (on_accept o (λ q. on_accept p (λ x. accepted (four b r q x)))) f ≡ on_accept o (λ q. on_accept p (λ x. f (four b r q x)))
      go (accepted q) (accepted x) = refl
      go (accepted q) (refused x) = refl
      go (refused x) p = refl

  of_book : (b : Book) → on_accept (after_book n rules query request b accepted) f ≡ after_book n rules query request b f
  unfolding after_book on_accept
  of_book b = go (rules_if n.rules b rules)
    where
      go : (o : Outcome Rules) → on_accept (on_accept o (λ r. after_rules n query request b r accepted)) f ≡ on_accept o (λ r. after_rules n query request b r f)
      go (accepted r) = of_rules b r
      go (refused x) = refl

  -- what a service makes of the texts that were read, it makes of the texts
  of_texts : on_accept (through n work book rules query request accepted) f ≡ through n work book rules query request f
  unfolding through with_work on_accept refusal
  of_texts = go (ltb work 16384) (read_book book)
    where
      go : (t : Bool) (o : Outcome Book)
          → on_accept (pick t (refusal 15 0 0) (on_accept o (λ b. after_book n rules query request b accepted))) f
          ≡ pick t (refusal 15 0 0) (on_accept o (λ b. after_book n rules query request b f))
      go true o = refl
      go false (accepted b) = of_book b
      go false (refused x) = refl

  abbrev texts : Outcome Texts
  texts = through n work book rules query request accepted

  module _ (words table : List ℕ) (r : Ready) (prepared : Prepared n book rules query request words table texts r) where
    abbrev All : Type 0
    All = AllReady n book rules query request words table texts r

    pub all_ready : r.request.verdict ≡ Ok tt → All
    all_ready e = subst (ByVerdict n book rules query request words table texts r) e prepared.given

    pub none_ready : (x : RefusalData) → r.request.verdict ≡ Err x → NotReady texts r x
    none_ready x e = subst (ByVerdict n book rules query request words table texts r) e prepared.given

    -- the answer behind a refusal, and behind the texts
    pub refused_through : (x : RefusalData) → r.request.verdict ≡ Err x → through n work book rules query request f ≡ refused (refusal_of x)
    unfolding on_accept
    refused_through x e = sym of_texts ∙ rw (none_ready x e).is

    pub ready_through : (a : All) → through n work book rules query request f ≡ f (texts_of n book rules query request words table r a.request_ready)
    unfolding on_accept
    ready_through a = sym of_texts ∙ rw a.is
