-- The answers of the readers: what is ready as each service answers it.
use Prim.Native.Nat.{ℕ, ◌<◌}
use mathlib.Core.Path.{◌≡◌, refl, sym, ap, ◌∙◌}
use mathlib.Core.List.{List}
use mathlib.Core.Bool.{true, false}
use native.Mathlib.Omega.{arith}
use lib.ListN.{length}
use lib.Dec.{ltb}
use borrow.Author.Tests.{ltb-true}
use Rattle.std.specs.Prelude.{Result, ⊤, Ok, Err}
use Rattle.model.specs.Bytes.{Bytes}
use Rattle.model.specs.Names.{place}
use Rattle.model.specs.Refusal.{Outcome, accepted, on_accept}
use Rattle.model.specs.ReadBook.{read_book}
use Rattle.model.specs.Pattern.{Pattern, pattern_of}
use Rattle.model.specs.Rules.{category_names}
use Rattle.model.specs.Service.{RulesAnswer, RequestAnswer, rules_service, query_service, request_service}
use Rattle.model.specs.Answers.{refusal_of, refusal_data, book_of, rules_answer, verdict_of, query_answer, request_answer}
use Rattle.model.specs.PlainData.{no_pattern}
use Rattle.model.specs.RequestPlaces.{slots}
use Rattle.model.specs.RequestAnswer.{told_request, request_read}
use Rattle.model.specs.WholeAnswers.{query_outcome, query_read}
use Rattle.model.specs.declared.Refusal.{Refusal as RefusalData}
use Rattle.model.specs.declared.Pattern.{Pattern as PatternData}
use Rattle.model.specs.declared.QueryRead.{QueryRead}
use Rattle.model.proofs.AcceptedQuery.{query_accepted}
use Rattle.book_tables.specs.View.{name_of, names_at, book_at}
use Rattle.book_tables.proofs.ListedLaws.{length_listed}
use Rattle.book_tables.proofs.NameLaws.{mem_place, length_names, name_mem, place_named}
use Rattle.rules_tables.specs.declared.RulesCounts.{RulesCounts}
use Rattle.rules_tables.specs.Layout.{names}
use Rattle.rules_tables.specs.View.{category_of, policy_of, tree_of, rules_at}
use Rattle.rules_tables.specs.Fits.{Fits as RulesFit}
use Rattle.rules_tables.proofs.Lowers.{category_names_law}
use Rattle.query.specs.PatternRead.{PatternAsked, PatternRead}
use Rattle.query.proofs.ReadLaws.{pattern_asked}
use Rattle.prepare.specs.declared.Needs.{Needs}
use Rattle.prepare.specs.declared.Ready.{Ready}
use Rattle.prepare.specs.Texts.{Texts, after_rules, after_book, through}
use Rattle.prepare.specs.Ready.{AllReady, Prepared}
use Rattle.prepare.proofs.ThroughLaws.{all_ready, none_ready, refused_through, ready_through}

-- the number of a category is the place of its name
category_place_law : (rules : Bytes) (table : List ℕ) (m : RulesCounts) → RulesFit rules table m → (k : ℕ) → k < m.categories
    → place (name_of rules table names k) (category_names (rules_at rules table m)) ≡ k
category_place_law rules table m fits k l =
    let w : Bytes = name_of rules table names k in
    let ws : List Bytes = names_at rules table names m.categories in
    let there : ltb (place w ws) (length ws) ≡ true = sym (mem_place w ws) ∙ name_mem rules table names m.categories w k l refl in
    let inside : place w ws < m.categories = omega (arith, ltb-true (place w ws) (length ws) there, length_names rules table names m.categories) in
    ap (place w) (category_names_law rules table m) ∙ fits.named.differ (place w ws) k inside l (place_named rules table names m.categories w inside)

-- what each of the readers needs
abbrev book_alone : Needs
book_alone = record { rules = false; query = false; request = false }

abbrev the_rules : Needs
the_rules = record { rules = true; query = false; request = false }

abbrev the_query : Needs
the_query = record { rules = false; query = true; request = false }

abbrev the_request : Needs
the_request = record { rules = true; query = false; request = true }

module _ (work : ℕ) (book rules query request : Bytes) (words table : List ℕ) (r : Ready) where
  abbrev Given : Needs → Type 0
  Given n = Prepared n book rules query request words table (through n work book rules query request accepted) r

  -- the rules reader
  module _ (given : Given the_rules) where
    abbrev of_rules : Texts → Outcome RulesAnswer
    of_rules t = accepted (record { categories = length t.rules.categories; policies = length t.rules.policies })

    rules_is : (rules_service work book rules).answer ≡ through the_rules work book rules query request of_rules
    unfolding rules_service through after_book after_rules on_accept
    rules_is = refl

    pub rules_counted : r.request.verdict ≡ Ok tt
        → rules_answer (Ok (record { categories = r.rules.categories; policies = r.rules.policies })) ≡ (rules_service work book rules).answer
    unfolding rules_answer rules_at
    rules_counted e =
        let a = all_ready the_rules work book rules query request of_rules words table r given e in
        sym (rules_is ∙ ready_through the_rules work book rules query request of_rules words table r given a ∙ ap accepted (λ i. record {
          categories = length_listed (category_of rules table) r.rules.categories i;
          policies = length_listed (policy_of rules table) r.rules.policies i;
        }))

    pub rules_refused : (x : RefusalData) → r.request.verdict ≡ Err x → rules_answer (Err x) ≡ (rules_service work book rules).answer
    unfolding rules_answer
    rules_refused x e = sym (rules_is ∙ refused_through the_rules work book rules query request of_rules words table r given x e)

  -- the query reader
  module _ (given : Given the_query) where
    abbrev of_query_law : Texts → Outcome Pattern
    of_query_law t = accepted (pattern_of t.query)

    abbrev answer : Outcome Pattern
    answer = (query_service work book query).answer

    query_is : answer ≡ through the_query work book rules query request of_query_law
    unfolding query_service through after_book after_rules on_accept
    query_is = refl

    -- an answer says what the service gives, by names and whole
    abbrev QuerySays : QueryRead → Type 0
    QuerySays q = (query_answer (book_of (read_book book)) query q ≡ answer) × (q ≡ query_read work book query)

    pub query_refused : (x : RefusalData) → r.request.verdict ≡ Err x → (p : PatternData) → p ≡ no_pattern
        → QuerySays (record { verdict = r.request.verdict; pattern = p })
    unfolding query_answer verdict_of query_read query_outcome refusal_data refusal_of
    query_refused x e p d =
        let is = query_is ∙ refused_through the_query work book rules query request of_query_law words table r given x e in
        (rw e (sym is), (λ i. record { verdict = e i; pattern = d i }) ∙ sym (ap (query_outcome (book_of (read_book book)) query) is))

    module _ (e : r.request.verdict ≡ Ok tt) where
      all : AllReady the_query book rules query request words table (through the_query work book rules query request accepted) r
      all = all_ready the_query work book rules query request of_query_law words table r given e

      pub query_asked_law : PatternAsked book words r.book query
      query_asked_law = pattern_asked book words r.book query (tree_of query) all.rules_ready.fits all.query_read

      pub query_accepted_as : (p : PatternData) → PatternRead (book_at book words r.book) r.book query p
          → QuerySays (record { verdict = r.request.verdict; pattern = p })
      unfolding query_answer verdict_of query_read query_outcome book_of
      query_accepted_as p read =
          let b = book_at book words r.book in
          let is = query_is ∙ ready_through the_query work book rules query request of_query_law words table r given all in
          let text = (query_accepted b query (tree_of query) all.query_read).is_text in
          let same : book_of (read_book book) ≡ b = ap book_of all.rules_ready.book_read in (
            rw (e, same) (ap accepted (read.is (tree_of query) text) ∙ sym is),
            (λ i. record { verdict = e i; pattern = read.whole (tree_of query) text i })
                ∙ sym (rw (is, same)),
          )

  -- the request reader
  module _ (given : Given the_request) where
    abbrev of_request : Texts → Outcome RequestAnswer
    of_request t = accepted (record { category = place t.request.category (category_names t.rules); identities = t.request.identities })

    request_is : (request_service work book rules request).answer ≡ through the_request work book rules query request of_request
    unfolding request_service through after_book after_rules on_accept
    request_is = refl

    pub request_answered : (request_answer request r.request ≡ (request_service work book rules request).answer)
        × (r.request ≡ request_read work book rules request)
    unfolding request_answer verdict_of request_read told_request slots refusal_data refusal_of
    request_answered = go r.request.verdict refl
      where
        go : (v : Result ⊤ RefusalData) → r.request.verdict ≡ v
            → (request_answer request r.request ≡ (request_service work book rules request).answer) × (r.request ≡ request_read work book rules request)
        go (Ok u) e =
            let all = all_ready the_request work book rules query request of_request words table r given e in
            let a = all.request_ready in
            let is = request_is ∙ ready_through the_request work book rules query request of_request words table r given all in
            let category : r.request.category ≡ place a.request.category (category_names (rules_at rules table r.rules))
            = sym (category_place_law rules table r.rules all.rules_ready.rules_fit r.request.category a.declared)
            ∙ ap (λ (w : Bytes). place w (category_names (rules_at rules table r.rules))) (sym a.category) in (
              rw (e, is) (ap accepted (λ i. record { category = category i; identities = sym a.identities i })),
              (λ i. record { verdict = e i; category = category i; identities = a.whole i; count = a.counted i }) ∙ sym (ap (told_request request) is),
            )
        go (Err x) e =
            let is = request_is ∙ refused_through the_request work book rules query request of_request words table r given x e in
            (rw (e, is), (none_ready the_request work book rules query request of_request words table r given x e).none ∙ sym (ap (told_request request) is))
