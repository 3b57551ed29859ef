-- What reading a request gives: the category's number and the identities, or a refusal beside none.
use Rattle.std.specs.Prelude.{ℕ, ◌≤◌, ◌<◌, ◌≡◌, List, [], ◌∷◌, ◌++◌, map, true, length, get_or, take, Result, ⊤, Ok, Err}
use Rattle.model.specs.Bytes.{Bytes}
use Rattle.model.specs.Refusal.{Outcome, accepted, refused}
use Rattle.model.specs.Lines.{step_then}
use Rattle.model.specs.Request.{Request, request_step, read_request}
use Rattle.model.specs.Answers.{refusal_of, identity_in}
use Rattle.model.specs.RequestPlaces.{no_identity, identity_places, slots}
use Rattle.model.specs.declared.Refusal.{Refusal}
use Rattle.model.specs.declared.RequestRead.{RequestRead}
use Rattle.book_tables.specs.declared.BookCounts.{BookCounts}
use Rattle.book_tables.specs.View.{name_of, book_at}
use Rattle.rules_tables.specs.declared.RulesCounts.{RulesCounts}
use Rattle.rules_tables.specs.Layout.{names}
use Rattle.rules_tables.specs.View.{rules_at}
use Rattle.request.specs.Stored.{no_identities}

-- accepted: the category by its number in the rules, the identities by places of the request and by node numbers, each where its own actor stands
pub record Accepts (nodes : ℕ) (rules : Bytes) (words : List ℕ) (categories : ℕ) (text : Bytes) (o : Outcome Request) (r : RequestRead) : Type 0 where
  pub request : Request
  pub is : o ≡ accepted request
  pub category : request.category ≡ name_of rules words names r.category
  pub declared : r.category < categories
  pub identities : request.identities ≡ map (identity_in text) (take r.count r.identities)
  pub few : r.count ≤ 8
  pub below : (i : ℕ) → i < r.count → (get_or r.identities i no_identity).node < nodes
  pub counted : r.count ≡ length request.identities
  pub whole : r.identities ≡ slots (identity_places text request.identities)

-- refused, beside no category and no identities
pub record Refuses (o : Outcome Request) (r : RequestRead) (x : Refusal) : Type 0 where
  pub is : o ≡ refused (refusal_of x)
  pub category : r.category ≡ 0
  pub identities : r.identities ≡ no_identities
  pub count : r.count ≡ 0

-- such an answer
abbrev pub refused_read : ℕ → ℕ → RequestRead
refused_read number line = record {
  verdict = Err (record { number = number; text = 4; line = line });
  category = 0;
  identities = no_identities;
  count = 0;
}

-- one of the two, by the verdict
abbrev pub ByVerdict : ℕ → Bytes → List ℕ → ℕ → Bytes → Outcome Request → RequestRead → Result ⊤ Refusal → Type 0
ByVerdict nodes rules words categories text o r (Ok u) = Accepts nodes rules words categories text o r
ByVerdict nodes rules words categories text o r (Err x) = Refuses o r x

-- what is read says the outcome
abbrev pub Reads : ℕ → Bytes → List ℕ → ℕ → Bytes → Outcome Request → RequestRead → Type 0
Reads nodes rules words categories text o r = ByVerdict nodes rules words categories text o r r.verdict

-- a line and its line feed
abbrev pub fed : Bytes → Bytes
fed s = s ++ (10 ∷ [])

-- what is read of a line that ends in a line feed says the outcome of that line alone
abbrev pub LineReads : Bytes → List ℕ → BookCounts → Bytes → List ℕ → RulesCounts → Bytes → RequestRead → Type 0
LineReads book words counts rules table sizes s r =
    Reads counts.nodes rules table sizes.categories (fed s)
    (step_then (request_step (book_at book words counts) (rules_at rules table sizes) (record { bytes = s; ended = true })) 4 1 accepted) r

-- what is read of a request says its outcome, for the book and the rules that the words hold
abbrev pub RequestReads : Bytes → List ℕ → BookCounts → Bytes → List ℕ → RulesCounts → Bytes → RequestRead → Type 0
RequestReads book words counts rules table sizes text r =
    Reads counts.nodes rules table sizes.categories text (read_request (book_at book words counts) (rules_at rules table sizes) text) r
