-- The services: from the texts and the lent buffers to the answer and to what each buffer then holds.
use Rattle.std.specs.Prelude.{ℕ, ◌-◌, ◌*◌, List, ◌∷◌, ◌++◌, Bool, not, ◌||◌, length, drop, replicate, ltb}
use Rattle.model.specs.Bytes.{Bytes}
use Rattle.model.specs.Choice.{pick}
use Rattle.model.specs.Lists.{is_nil, joined}
use Rattle.model.specs.Limits.{max_query_bytes, whole_memory, no_node}
use Rattle.model.specs.Names.{place}
use Rattle.model.specs.Refusal.{Outcome, accepted, refused, on_accept, refusal, refused_if}
use Rattle.model.specs.Book.{entry_count}
use Rattle.model.specs.ReadBook.{read_book}
use Rattle.model.specs.Renaming.{renamed_book}
use Rattle.model.specs.Tidy.{tidy_book}
use Rattle.model.specs.ReadQuery.{read_query}
use Rattle.model.specs.Pattern.{Pattern, pattern_of}
use Rattle.model.specs.Writing.{written_query}
use Rattle.model.specs.Rules.{category_names}
use Rattle.model.specs.ReadRules.{read_rules}
use Rattle.model.specs.Request.{Identity, read_request}
use Rattle.model.specs.Weave.{asked_query, asked_policies, weave, woven_fault}
use Rattle.model.specs.Rows.{rows_of}

-- n words of all ones
unfoldable pub ones : ℕ → List ℕ
ones n = replicate n no_node

-- 15 comes first: the working memory is not whole
unfoldable pub with_work : {A : Type 0} → ℕ → Outcome A → Outcome A
with_work work o = pick (ltb work whole_memory) (refusal 15 0 0) o

-- what the book reader answers: counts
pub record BookAnswer : Type 0 where
  pub nodes : ℕ
  pub rels : ℕ
  pub entries : ℕ

-- what the rules reader answers: counts
pub record RulesAnswer : Type 0 where
  pub categories : ℕ
  pub policies : ℕ

-- what the request reader answers: the category's number, and the identities
pub record RequestAnswer : Type 0 where
  pub category : ℕ
  pub identities : List Identity

-- an answer, and the working memory, which ends all ones
pub record Read (A : Type 0) : Type 0 where
  pub answer : Outcome A
  pub work : List ℕ

-- each reader gives 15, then the refusals of the texts it needs, then its own; the book reader needs no other text
unfoldable pub book_service : ℕ → Bytes → Read BookAnswer
book_service work book = record {
  answer = with_work work (on_accept (read_book book) (λ b. accepted (record { nodes = length b.nodes; rels = length b.rels; entries = entry_count b })));
  work = ones work;
}

-- the rules reader needs the book
unfoldable pub rules_service : ℕ → Bytes → Bytes → Read RulesAnswer
rules_service work book rules = record {
  answer = with_work work (on_accept (read_book book)
      (λ b. on_accept (read_rules b rules) (λ r. accepted (record { categories = length r.categories; policies = length r.policies }))));
  work = ones work;
}

-- the query reader needs the book
unfoldable pub query_service : ℕ → Bytes → Bytes → Read Pattern
query_service work book query = record {
  answer = with_work work (on_accept (read_book book) (λ b. on_accept (read_query b query) (λ q. accepted (pattern_of q))));
  work = ones work;
}

-- the request reader needs book and rules
unfoldable pub request_service : ℕ → Bytes → Bytes → Bytes → Read RequestAnswer
request_service work book rules request = record {
  answer = with_work work (
      on_accept (read_book book) (λ b.
      on_accept (read_rules b rules) (λ r.
      on_accept (read_request b r request) (λ x. accepted (record { category = place x.category (category_names r); identities = x.identities })))));
  work = ones work;
}

-- the written query, if it fits its buffer and the bytes of a query
unfoldable pub writer_text : ℕ → ℕ → Bytes → Bytes → Bytes → Outcome Bytes
writer_text work room book rules query =
    with_work work (
    on_accept (read_book book) (λ b.
    on_accept (read_rules b rules) (λ r.
    on_accept (read_query b query) (λ q.
    let t = written_query (pattern_of q) in
    pick (ltb room (length t) || ltb max_query_bytes (length t)) (refusal 14 3 1) (accepted t)))))

-- what a writer of a text leaves
pub record Written : Type 0 where
  pub answer : Outcome ℕ
  pub text : Bytes
  pub work : List ℕ

-- a text in front of a buffer; a refusal leaves the buffer unchanged
unfoldable pub onto : Outcome Bytes → Bytes → Bytes
onto (accepted t) buffer = t ++ drop (length t) buffer
onto (refused r) buffer = buffer

-- the query writer answers the length in bytes
unfoldable pub writer_service : ℕ → Bytes → Bytes → Bytes → Bytes → Written
writer_service work buffer book rules query =
    let t = writer_text work (length buffer) book rules query in
    record { answer = on_accept t (λ x. accepted (length x)); text = onto t buffer; work = ones work }

-- a book that is written, if it fits its buffer: 15 first, then what the texts give, 14 last
unfoldable pub book_written : ℕ → ℕ → Outcome Bytes → Outcome Bytes
book_written work room o = with_work work (on_accept o (λ t. pick (ltb room (length t)) (refusal 14 1 0) (accepted t)))

-- a writer of a book answers its length in bytes and leaves the bytes past it
unfoldable pub book_writer : ℕ → Bytes → Outcome Bytes → Written
book_writer work buffer o =
    let t = book_written work (length buffer) o in
    record { answer = on_accept t (λ x. accepted (length x)); text = onto t buffer; work = ones work }

-- the renaming
unfoldable pub rename_service : ℕ → Bytes → Bytes → Written
rename_service work buffer book = book_writer work buffer (renamed_book book)

-- the tidy book
unfoldable pub tidy_service : ℕ → Bytes → Bytes → Written
tidy_service work buffer book = book_writer work buffer (tidy_book book)

-- the rows that a list finds, and how many Return names each row answers
pub record FoundRows : Type 0 where
  pub rows : List (List ℕ)
  pub width : ℕ

-- the rows that are asked for, however many: 15 first, then what the four texts give, then the woven pattern's 12 and 13
unfoldable pub rows_asked : ℕ → Bytes → Bytes → Bytes → Bytes → Outcome FoundRows
rows_asked work book rules query request =
    with_work work (
    on_accept (read_book book) (λ b.
    on_accept (read_rules b rules) (λ r.
    on_accept (read_query b query) (λ q.
    on_accept (read_request b r request) (λ x.
    let rows = rows_of b x.identities (asked_query r x q) (asked_policies r x) in
    let found = accepted (record { rows = rows; width = length q.returns }) in
    refused_if (woven_fault (weave (asked_query r x q ∷ asked_policies r x)) x.identities) 5 0 found)))))

-- the rows asked for, if rows times Return names fit the row buffer's words: 14 last
unfoldable pub list_found : ℕ → ℕ → Bytes → Bytes → Bytes → Bytes → Outcome FoundRows
list_found work words book rules query request =
    on_accept (rows_asked work book rules query request) (λ f. pick (ltb words (length f.rows * f.width)) (refusal 14 5 0) (accepted f))

-- the rows alone
unfoldable pub list_rows : ℕ → ℕ → Bytes → Bytes → Bytes → Bytes → Outcome (List (List ℕ))
list_rows work words book rules query request = on_accept (list_found work words book rules query request) (λ f. accepted f.rows)

-- what the list answers: how many rows there are, and how many Return names each row answers
pub record ListAnswer : Type 0 where
  pub rows : ℕ
  pub width : ℕ

-- what the list leaves
pub record Listed : Type 0 where
  pub answer : Outcome ListAnswer
  pub rows : List ℕ
  pub work : List ℕ

-- the rows one after another, then all ones
unfoldable pub row_words : ℕ → Outcome FoundRows → List ℕ
row_words words (accepted f) = let flat = joined (λ row. row) f.rows in flat ++ ones (words - length flat)
row_words words (refused r) = ones words

-- the list answers how many rows there are and how wide each is
unfoldable pub list_service : ℕ → ℕ → Bytes → Bytes → Bytes → Bytes → Listed
list_service work words book rules query request =
    let found = list_found work words book rules query request in
    record { answer = on_accept found (λ f. accepted (record { rows = length f.rows; width = f.width })); rows = row_words words found; work = ones work }

-- the lamp says yes exactly if there is a row; it needs no row words, so it has no 14
unfoldable pub lamp_service : ℕ → Bytes → Bytes → Bytes → Bytes → Read Bool
lamp_service work book rules query request = record {
  answer = on_accept (rows_asked work book rules query request) (λ f. accepted (not (is_nil f.rows)));
  work = ones work;
}
