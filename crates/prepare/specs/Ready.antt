-- What is ready once the texts that are needed are read.
use Rattle.std.specs.Prelude.{ℕ, ◌≡◌, List, Bool, true, false, Result, Ok, Err, ⊤}
use Rattle.model.specs.Bytes.{Bytes}
use Rattle.model.specs.Refusal.{Outcome, accepted, refused}
use Rattle.model.specs.ReadBook.{read_book}
use Rattle.model.specs.QueryText.{QueryText}
use Rattle.model.specs.Rules.{Rules}
use Rattle.model.specs.Request.{Request, read_request}
use Rattle.model.specs.Answers.{refusal_of}
use Rattle.model.specs.declared.Refusal.{Refusal}
use Rattle.model.specs.declared.RequestRead.{RequestRead}
use Rattle.book_tables.specs.declared.BookCounts.{BookCounts}
use Rattle.book_tables.specs.View.{book_at}
use Rattle.book_tables.specs.Fits.{Fits}
use Rattle.book_tables.specs.Stores.{no_counts}
use Rattle.rules_tables.specs.declared.RulesCounts.{RulesCounts}
use Rattle.rules_tables.specs.View.{tree_of, rules_at}
use Rattle.rules_tables.specs.Fits.{Fits as RulesFit}
use Rattle.request.specs.Stored.{no_identities}
use Rattle.request.specs.RequestReads.{Accepts, RequestReads}
use Rattle.prepare.specs.declared.Needs.{Needs}
use Rattle.prepare.specs.declared.Ready.{Ready}
use Rattle.prepare.specs.Texts.{Texts, rules_if, query_if, no_request}

-- no category and no identity, beside a verdict
abbrev pub none_beside : Result ⊤ Refusal → RequestRead
none_beside v = record { verdict = v; category = 0; identities = no_identities; count = 0 }

-- nothing is ready
abbrev pub refused_ready : Refusal → Ready
refused_ready x = record { book = no_counts; rules = record { categories = 0; policies = 0 }; request = none_beside (Err x) }

-- rules are in words, or refused
abbrev pub RulesGiven : Bytes → List ℕ → Outcome Rules → Result RulesCounts Refusal → Type 0
RulesGiven text table o (Ok c) = (o ≡ accepted (rules_at text table c)) × RulesFit text table c
RulesGiven text table o (Err x) = o ≡ refused (refusal_of x)

-- a query is accepted, or refused
abbrev pub QueryGiven : Bytes → Outcome QueryText → Result ⊤ Refusal → Type 0
QueryGiven text o (Ok u) = o ≡ accepted (tree_of text)
QueryGiven text o (Err x) = o ≡ refused (refusal_of x)

-- a request is read, or none is needed
abbrev pub RequestGiven : Bool → Bytes → List ℕ → BookCounts → Bytes → List ℕ → RulesCounts → Bytes → RequestRead → Type 0
RequestGiven true book words k rules table m text r = RequestReads book words k rules table m text r
RequestGiven false book words k rules table m text r = r ≡ none_beside (Ok tt)

-- book and rules are in words, if the rules are needed
pub record RulesReady (needed : Bool) (book : Bytes) (words : List ℕ) (k : BookCounts) (rules : Bytes) (table : List ℕ) (m : RulesCounts) : Type 0 where
  pub fits : Fits book words k
  pub book_read : read_book book ≡ accepted (book_at book words k)
  pub rules_fit : RulesFit rules table m
  pub rules_read : rules_if needed (book_at book words k) rules ≡ accepted (rules_at rules table m)

-- a request that is needed is accepted
abbrev pub RequestReady : Bool → Bytes → List ℕ → Bytes → List ℕ → Bytes → Ready → Type 0
RequestReady true book words rules table text r =
    Accepts r.book.nodes rules table r.rules.categories text
    (read_request (book_at book words r.book) (rules_at rules table r.rules) text) r.request
RequestReady false book words rules table text r = Unit {0}

-- it is this one
abbrev pub request_of : (needed : Bool) (book : Bytes) (words : List ℕ) (rules : Bytes) (table : List ℕ) (text : Bytes) (r : Ready)
    → RequestReady needed book words rules table text r → Request
request_of true book words rules table text r a = a.request
request_of false book words rules table text r a = no_request

-- the texts that are ready
abbrev pub texts_of : (n : Needs) (book rules query request : Bytes) (words table : List ℕ) (r : Ready)
    → RequestReady n.request book words rules table request r → Texts
texts_of n book rules query request words table r a = record {
  book = book_at book words r.book;
  rules = rules_at rules table r.rules;
  query = tree_of query;
  request = request_of n.request book words rules table request r a;
}

-- all texts that are needed are accepted
pub record AllReady (n : Needs) (book rules query request : Bytes) (words table : List ℕ) (o : Outcome Texts) (r : Ready) : Type 0 where
  pub rules_ready : RulesReady n.rules book words r.book rules table r.rules
  pub query_read : query_if n.query (book_at book words r.book) query ≡ accepted (tree_of query)
  pub request_ready : RequestReady n.request book words rules table request r
  pub is : o ≡ accepted (texts_of n book rules query request words table r request_ready)

-- a text is refused, and nothing of a request is ready
pub record NotReady (o : Outcome Texts) (r : Ready) (x : Refusal) : Type 0 where
  pub is : o ≡ refused (refusal_of x)
  pub none : r.request ≡ none_beside (Err x)

-- one of the two, by the verdict
abbrev pub ByVerdict : Needs → Bytes → Bytes → Bytes → Bytes → List ℕ → List ℕ → Outcome Texts → Ready → Result ⊤ Refusal → Type 0
ByVerdict n book rules query request words table o r (Ok u) = AllReady n book rules query request words table o r
ByVerdict n book rules query request words table o r (Err x) = NotReady o r x

-- what reading the texts gives is ready
pub record Prepared (n : Needs) (book rules query request : Bytes) (words table : List ℕ) (o : Outcome Texts) (r : Ready) : Type 0 where
  pub given : ByVerdict n book rules query request words table o r r.request.verdict
