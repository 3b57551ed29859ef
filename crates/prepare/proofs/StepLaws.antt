-- What is ready after each step: the refusal of the text that was read last, or what the texts behind it give.
use Prim.Native.Nat.{ℕ, ◌≤◌, ◌<◌}
use mathlib.Core.Path.{◌≡◌, refl, sym, subst}
use mathlib.Core.List.{List}
use mathlib.Core.Bool.{Bool, true, false}
use borrow.Author.Tests.{lt-ltb, le-ltb}
use Rattle.std.specs.Prelude.{Result, Ok, Err, ⊤}
use Rattle.model.specs.Bytes.{Bytes}
use Rattle.model.specs.Refusal.{Outcome, accepted, refused, on_accept, refusal}
use Rattle.model.specs.Book.{Book}
use Rattle.model.specs.ReadBook.{read_book}
use Rattle.model.specs.Rules.{Rules}
use Rattle.model.specs.Service.{with_work}
use Rattle.model.specs.Answers.{refusal_of}
use Rattle.model.specs.declared.Refusal.{Refusal}
use Rattle.model.specs.declared.RequestRead.{RequestRead}
use Rattle.book_tables.specs.declared.BookCounts.{BookCounts}
use Rattle.book_tables.specs.View.{book_at}
use Rattle.book_tables.specs.Fits.{Fits}
use Rattle.rules_tables.specs.declared.RulesCounts.{RulesCounts}
use Rattle.rules_tables.specs.View.{tree_of, rules_at}
use Rattle.book.specs.Loaded.{Loaded}
use Rattle.request.specs.RequestReads.{ByVerdict as RequestBy}
use Rattle.prepare.specs.declared.Needs.{Needs}
use Rattle.prepare.specs.declared.Ready.{Ready}
use Rattle.prepare.specs.Texts.{Texts, rules_if, query_if, request_if, after_rules, after_book, through}
use Rattle.prepare.specs.Ready.{refused_ready, RulesGiven, QueryGiven, RequestGiven, RulesReady, ByVerdict, Prepared}

module _ (n : Needs) (book rules query request : Bytes) (words table : List ℕ) where
  abbrev Is : Outcome Texts → Ready → Type 0
  Is o r = Prepared n book rules query request words table o r

  -- a text is refused
  pub not_ready : (o : Outcome Texts) (r : Ready) (x : Refusal) → r ≡ refused_ready x → o ≡ refused (refusal_of x) → Is o r
  not_ready o r x e d = subst (λ (z : Ready). Is o z) (sym e) (record { given = record { is = d; none = refl } })

  -- the same, of texts that give the same
  ready_as : (o o' : Outcome Texts) (r : Ready) → o ≡ o' → Is o' r → Is o r
  ready_as o o' r e h = subst (λ (z : Outcome Texts). Is z r) (sym e) h

  module _ (k : BookCounts) where
    abbrev b : Book
    b = book_at book words k

    abbrev behind_book : Outcome Texts
    behind_book = after_book n rules query request b accepted

    -- the query and then the request
    module _ (m : RulesCounts) where
      abbrev the_rules : Rules
      the_rules = rules_at rules table m

      abbrev behind_rules : Outcome Texts
      behind_rules = after_rules n query request b the_rules accepted

      abbrev Asked : Result ⊤ Refusal → Type 0
      Asked v = QueryGiven query (query_if n.query b query) v

      pub query_refused : (v : Result ⊤ Refusal) → Asked v → (x : Refusal) → v ≡ Err x → (r : Ready) → r ≡ refused_ready x → Is behind_rules r
      unfolding after_rules on_accept
      query_refused v given x e r d = not_ready _ r x d (rw (subst Asked e given))

      pub request_read_law : RulesReady n.rules book words k rules table m → (v : Result ⊤ Refusal) → Asked v → v ≡ Ok tt
          → (rd : RequestRead) → RequestGiven n.request book words k rules table m request rd
          → Is behind_rules (record { book = k; rules = m; request = rd })
      unfolding after_rules on_accept
      request_read_law ready v given e rd h = record { given = go n.request h }
        where
          asked : query_if n.query b query ≡ accepted (tree_of query)
          asked = subst Asked e given

          needing : Bool → Needs
          needing t = record { rules = n.rules; query = n.query; request = t }

          Goal : Bool → RequestRead → Result ⊤ Refusal → Type 0
          Goal t rd v = ByVerdict (needing t) book rules query request words table (after_rules (needing t) query request b the_rules accepted)
              (record { book = k; rules = m; request = rd }) v

          by : (v : Result ⊤ Refusal) → rd.verdict ≡ v → RequestBy k.nodes rules table m.categories request (request_if true b the_rules request) rd v
              → Goal true rd v
          by (Ok u) d a = record { rules_ready = ready; query_read = asked; request_ready = a; is = rw (asked, a.is) }
          by (Err x) d a = record {
            is = rw (asked, a.is);
            none = λ i.
                record { verdict = d i; category = a.category i; identities = a.identities i; count = a.count i };
          }

          go : (t : Bool) → RequestGiven t book words k rules table m request rd → Goal t rd rd.verdict
          go true h = by rd.verdict refl h
          go false h = subst (λ (z : RequestRead). Goal false z z.verdict) (sym h)
              (record { rules_ready = ready; query_read = asked; request_ready = tt; is = rw asked })

    -- the rules
    module _ (l : Result RulesCounts Refusal) (given : RulesGiven rules table (rules_if n.rules b rules) l) where
      by_load : (z : Result RulesCounts Refusal) → l ≡ z → RulesGiven rules table (rules_if n.rules b rules) z
      by_load z e = subst (RulesGiven rules table (rules_if n.rules b rules)) e given

      pub rules_ready : Fits book words k → read_book book ≡ accepted b → (m : RulesCounts) → l ≡ Ok m
          → RulesReady n.rules book words k rules table m
      rules_ready fits read m e =
          let h = by_load (Ok m) e in record { fits = fits; book_read = read; rules_fit = h.1; rules_read = h.0 }

      pub rules_read : (m : RulesCounts) → l ≡ Ok m → (r : Ready) → Is (after_rules n query request b (rules_at rules table m) accepted) r
          → Is behind_book r
      unfolding after_book on_accept
      rules_read m e r h = ready_as _ _ r (rw (by_load (Ok m) e).0) h

      pub rules_refused : (x : Refusal) → l ≡ Err x → (r : Ready) → r ≡ refused_ready x → Is behind_book r
      unfolding after_book on_accept
      rules_refused x e r d = not_ready _ r x d (rw (by_load (Err x) e))

  -- 15, then the book
  module _ (work : ℕ) where
    abbrev behind_all : Outcome Texts
    behind_all = through n work book rules query request accepted

    pub memory_short : work < 16384 → (r : Ready) → r ≡ refused_ready (record { number = 15; text = 0; line = 0 }) → Is behind_all r
    unfolding through with_work refusal refusal_of
    memory_short h r d = not_ready _ r _ d (rw (lt-ltb work 16384 h))

    module _ (enough : 16384 ≤ work) (l : Result BookCounts Refusal) (loaded : Loaded book words l (read_book book)) where
      by_book : (z : Result BookCounts Refusal) → l ≡ z → Loaded book words z (read_book book)
      by_book z e = subst (λ (x : Result BookCounts Refusal). Loaded book words x (read_book book)) e loaded

      pub book_ready : (k : BookCounts) → l ≡ Ok k → Fits book words k × (read_book book ≡ accepted (book_at book words k))
      book_ready k e = let h = by_book (Ok k) e in (h.1, h.0)

      pub book_read : (k : BookCounts) → l ≡ Ok k → (r : Ready) → Is (after_book n rules query request (book_at book words k) accepted) r
          → Is behind_all r
      unfolding through with_work on_accept
      book_read k e r h = ready_as _ _ r (rw (le-ltb work 16384 enough, (book_ready k e).1)) h

      pub book_refused : (x : Refusal) → l ≡ Err x → (r : Ready) → r ≡ refused_ready x → Is behind_all r
      unfolding through with_work on_accept
      book_refused x e r d = not_ready _ r x d (rw (le-ltb work 16384 enough, (by_book (Err x) e).0))
