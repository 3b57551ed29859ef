-- The texts that a service needs, read in the paper's order: 15 first, then book, rules, query, request. A text that is not needed is not read.
use Rattle.std.specs.Prelude.{ℕ, [], Bool, true, false}
use Rattle.model.specs.Bytes.{Bytes}
use Rattle.model.specs.Refusal.{Outcome, accepted, on_accept}
use Rattle.model.specs.Book.{Book}
use Rattle.model.specs.ReadBook.{read_book}
use Rattle.model.specs.QueryText.{QueryText}
use Rattle.model.specs.ReadQuery.{read_query}
use Rattle.model.specs.Rules.{Rules}
use Rattle.model.specs.ReadRules.{read_rules}
use Rattle.model.specs.Request.{Request, read_request}
use Rattle.model.specs.Service.{with_work}
use Rattle.rules_tables.specs.View.{tree_of}
use Rattle.rules.specs.Loaded.{no_rules}
use Rattle.prepare.specs.declared.Needs.{Needs}

-- four texts that are read
pub record Texts : Type 0 where
  pub book : Book
  pub rules : Rules
  pub query : QueryText
  pub request : Request

-- each text but the book, if it is needed; what stands for it otherwise says nothing
abbrev pub rules_if : Bool → Book → Bytes → Outcome Rules
rules_if true b text = read_rules b text
rules_if false b text = accepted no_rules

abbrev pub query_if : Bool → Book → Bytes → Outcome QueryText
query_if true b text = read_query b text
query_if false b text = accepted (tree_of text)

abbrev pub no_request : Request
no_request = record { category = []; identities = [] }

abbrev pub request_if : Bool → Book → Rules → Bytes → Outcome Request
request_if true b r text = read_request b r text
request_if false b r text = accepted no_request

-- what follows from the texts, book and rules being read
unfoldable pub after_rules : {A : Type 0} → Needs → Bytes → Bytes → Book → Rules → (Texts → Outcome A) → Outcome A
after_rules n query request b r f =
    on_accept (query_if n.query b query) (λ q.
    on_accept (request_if n.request b r request) (λ x. f (record { book = b; rules = r; query = q; request = x })))

-- the book being read
unfoldable pub after_book : {A : Type 0} → Needs → Bytes → Bytes → Bytes → Book → (Texts → Outcome A) → Outcome A
after_book n rules query request b f = on_accept (rules_if n.rules b rules) (λ r. after_rules n query request b r f)

-- with so many words of working memory
unfoldable pub through : {A : Type 0} → Needs → ℕ → Bytes → Bytes → Bytes → Bytes → (Texts → Outcome A) → Outcome A
through n work book rules query request f = with_work work (on_accept (read_book book) (λ b. after_book n rules query request b f))
