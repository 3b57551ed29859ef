-- The refusals of the nine services, each a table in the paper's order: which refusal is given, and exactly if what holds.
use Rattle.std.specs.Prelude.{ℕ, ◌<◌, ◌≤◌, ◌*◌, ◌≡◌, ◌⊎◌, ◌↔◌, List, [], ◌∷◌, length}
use Rattle.model.specs.Bytes.{Bytes, same}
use Rattle.model.specs.Choice.{Maybe, nothing, just}
use Rattle.model.specs.Refusal.{Refusal, Outcome, accepted, refused}
use Rattle.model.specs.Names.{Name}
use Rattle.model.specs.Lines.{lines_of}
use Rattle.model.specs.Book.{Book, node_names}
use Rattle.model.specs.ReadBook.{read_book_by, read_book}
use Rattle.model.specs.Renaming.{later_names, first_stuck, declared_at, renamed_book}
use Rattle.model.specs.Tidy.{tidy_text}
use Rattle.model.specs.QueryText.{QueryText}
use Rattle.model.specs.ReadQuery.{read_query}
use Rattle.model.specs.Pattern.{pattern_of}
use Rattle.model.specs.Writing.{written_query}
use Rattle.model.specs.Rules.{Rules}
use Rattle.model.specs.ReadRules.{read_rules}
use Rattle.model.specs.Request.{Request, read_request}
use Rattle.model.specs.Weave.{WovenPattern, asked_query, asked_policies, weave, woven_fault}
use Rattle.model.specs.Rows.{rows_of}
use Rattle.model.specs.Service.{FoundRows}

-- returned (number, text, line)
abbrev pub returned : ℕ → ℕ → ℕ → Refusal
returned n t l = record { number = n; text = t; line = l }

-- an answer is refused exactly by a table, accepted exactly if the table gives no refusal, and the table never gives two
pub record Exactly {A : Type 0} (answer : Outcome A) (Table : Refusal → Type 0) : Type 0 where
  pub refused_if : (f : Refusal) → (answer ≡ refused f) ↔ Table f
  pub accepted_if : ((a : A) × (answer ≡ accepted a)) ↔ ((f : Refusal) → Table f → ⊥)
  pub one_refusal : (f g : Refusal) → Table f → Table g → f ≡ g

-- the book reader: 15, then the book's own
pub data BookTable (work : ℕ) (book : Bytes) (f : Refusal) : Type 0 where
  memory_short : work < 16384 → f ≡ returned 15 0 0 → BookTable work book f
  in_book : 16384 ≤ work → read_book book ≡ refused f → BookTable work book f

-- the renaming: 15, then the book's own by the very names and 5 for a name that cannot have its new one, then 14 for a book over its buffer
pub data RenameTable (work room : ℕ) (book : Bytes) (f : Refusal) : Type 0 where
  memory_short : work < 16384 → f ≡ returned 15 0 0 → RenameTable work room book f
  in_book : 16384 ≤ work → read_book_by same book ≡ refused f → RenameTable work room book f
  stuck : {b : Book} {n : Name} → 16384 ≤ work → read_book_by same book ≡ accepted b
      → first_stuck book (node_names b) [] (later_names [] (node_names b)) ≡ just n → f ≡ returned 5 1 (declared_at n (lines_of book))
      → RenameTable work room book f
  no_room : {t : Bytes} → 16384 ≤ work → renamed_book book ≡ accepted t → room < length t → f ≡ returned 14 1 0 → RenameTable work room book f

-- memory is whole and the book is read
pub record BookRead (work : ℕ) (book : Bytes) (b : Book) : Type 0 where
  pub memory_whole : 16384 ≤ work
  pub book_read : read_book book ≡ accepted b

-- the tidy book: what the book reader refuses, then 14 for a tidy book over its buffer or 65,536 bytes
pub data TidyTable (work room : ℕ) (book : Bytes) (f : Refusal) : Type 0 where
  book_first : BookTable work book f → TidyTable work room book f
  no_room : {b : Book} → BookRead work book b → (room < length (tidy_text b)) ⊎ (65536 < length (tidy_text b)) → f ≡ returned 14 1 0 → TidyTable work room book f

-- the rules reader: what the book reader refuses, then the rules' own
pub data RulesTable (work : ℕ) (book rules : Bytes) (f : Refusal) : Type 0 where
  book_first : BookTable work book f → RulesTable work book rules f
  in_rules : {b : Book} → BookRead work book b → read_rules b rules ≡ refused f → RulesTable work book rules f

-- the book and the rules are read
pub record RulesRead (work : ℕ) (book rules : Bytes) (b : Book) (r : Rules) : Type 0 where
  pub book_before : BookRead work book b
  pub rules_read : read_rules b rules ≡ accepted r

-- the query reader: what the book reader refuses, then the query's own
pub data QueryTable (work : ℕ) (book query : Bytes) (f : Refusal) : Type 0 where
  book_first : BookTable work book f → QueryTable work book query f
  in_query : {b : Book} → BookRead work book b → read_query b query ≡ refused f → QueryTable work book query f

-- the request reader: what the rules reader refuses, then the request's own
pub data RequestTable (work : ℕ) (book rules request : Bytes) (f : Refusal) : Type 0 where
  rules_first : RulesTable work book rules f → RequestTable work book rules request f
  in_request : {b : Book} {r : Rules} → RulesRead work book rules b r → read_request b r request ≡ refused f → RequestTable work book rules request f

-- the query writer: what the rules reader refuses, then the query's own, then 14 for a text over its buffer or 2,048 bytes
pub data WriterTable (work room : ℕ) (book rules query : Bytes) (f : Refusal) : Type 0 where
  rules_first : RulesTable work book rules f → WriterTable work room book rules query f
  in_query : {b : Book} {r : Rules} → RulesRead work book rules b r → read_query b query ≡ refused f → WriterTable work room book rules query f
  no_room : {b : Book} {r : Rules} {q : QueryText} → RulesRead work book rules b r → read_query b query ≡ accepted q
      → (room < length (written_query (pattern_of q))) ⊎ (2048 < length (written_query (pattern_of q))) → f ≡ returned 14 3 1
      → WriterTable work room book rules query f

-- all four texts are read
pub record AllRead (work : ℕ) (book rules query request : Bytes) (b : Book) (r : Rules) (q : QueryText) (x : Request) : Type 0 where
  pub rules_before : RulesRead work book rules b r
  pub query_read : read_query b query ≡ accepted q
  pub request_read : read_request b r request ≡ accepted x

-- the pattern woven for a query and a request
abbrev pub woven : Rules → QueryText → Request → WovenPattern
woven r q x = weave (asked_query r x q ∷ asked_policies r x)

-- the fault of the woven pattern, 12 or 13
abbrev pub woven_number : Rules → QueryText → Request → Maybe ℕ
woven_number r q x = woven_fault (woven r q x) x.identities

-- the rows that may be had
abbrev pub rows_for : Book → Rules → QueryText → Request → List (List ℕ)
rows_for b r q x = rows_of b x.identities (asked_query r x q) (asked_policies r x)

-- the rows found for four texts that are read
abbrev pub found_for : Book → Rules → QueryText → Request → FoundRows
found_for b r q x = record { rows = rows_for b r q x; width = length q.returns }

-- the lamp: what the rules reader refuses, then the query's own, the request's own, then 12 or 13
pub data LampTable (work : ℕ) (book rules query request : Bytes) (f : Refusal) : Type 0 where
  rules_first : RulesTable work book rules f → LampTable work book rules query request f
  in_query : {b : Book} {r : Rules} → RulesRead work book rules b r → read_query b query ≡ refused f → LampTable work book rules query request f
  in_request : {b : Book} {r : Rules} {q : QueryText} → RulesRead work book rules b r → read_query b query ≡ accepted q → read_request b r request ≡ refused f
      → LampTable work book rules query request f
  in_woven : {b : Book} {r : Rules} {q : QueryText} {x : Request} {n : ℕ} → AllRead work book rules query request b r q x
      → woven_number r q x ≡ just n → f ≡ returned n 5 0 → LampTable work book rules query request f

-- the list: what the lamp refuses, then 14 if rows times Return names exceed the words
pub data ListTable (work words : ℕ) (book rules query request : Bytes) (f : Refusal) : Type 0 where
  lamp_first : LampTable work book rules query request f → ListTable work words book rules query request f
  no_room : {b : Book} {r : Rules} {q : QueryText} {x : Request} → AllRead work book rules query request b r q x → woven_number r q x ≡ nothing
      → words < length (rows_for b r q x) * length q.returns → f ≡ returned 14 5 0 → ListTable work words book rules query request f
