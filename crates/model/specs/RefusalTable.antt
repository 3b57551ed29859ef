-- The table "Refused, and how it reads": a constructor for each of its rows, by the number, the text and the line that are returned.
use Rattle.std.specs.Prelude.{ℕ, ◌≤◌, ◌≡◌}
use Rattle.model.specs.Refusal.{Refusal}

-- what "text" stands for: book, rules, query, request
abbrev pub IsText : ℕ → Type 0
IsText text = (1 ≤ text) × (text ≤ 4)

-- what "text, line" stands for: a text and one of its lines, counted from 1; a query is line 1
pub record LineOf (text line : ℕ) : Type 0 where
  pub is_text : IsText text
  pub from_one : 1 ≤ line
  pub query_is_line_1 : text ≡ 3 → line ≡ 1

-- a request has one line, so what is wrong on a line is wrong on line 1
pub record NameOn (text line : ℕ) : Type 0 where
  pub line_of : LineOf text line
  pub request_is_line_1 : text ≡ 4 → line ≡ 1

-- the rows that say what is wrong with the memory, with a text or with the woven pattern, which are all but 14: returned number, text and line
pub data FaultRow : ℕ → ℕ → ℕ → Type 0 where
  -- 15: working memory is under 16,384 words
  memory_is_short : FaultRow 15 0 0
  -- 1: the text is too long
  text_too_long : {text : ℕ} → IsText text → FaultRow 1 text 0
  -- 2: first byte not allowed
  byte_not_allowed : {text line : ℕ} → LineOf text line → FaultRow 2 text line
  -- 3: grammar broken; a request's second line is 3 on line 2
  grammar_broken : {text line : ℕ} → LineOf text line → (text ≡ 4 → line ≤ 2) → FaultRow 3 text line
  -- 4: a name is not declared
  not_declared : {text line : ℕ} → NameOn text line → FaultRow 4 text line
  -- 5: declared, related, listed, given or returned a second time; a second policy of a category; in the renaming a name that cannot have its new one
  second_time : {text line : ℕ} → NameOn text line → FaultRow 5 text line
  -- 6: value or relation not of the declared type; a request has neither
  not_of_the_type : {text line : ℕ} → LineOf text line → text ≤ 3 → FaultRow 6 text line
  -- 7: a count or a policy's bytes pass the limit; a request has no such count
  passes_the_limit : {text line : ℕ} → LineOf text line → text ≤ 3 → FaultRow 7 text line
  -- 8: a vertex excluded from itself, in a policy or in the query
  excluded_from_itself : {text line : ℕ} → LineOf text line → 2 ≤ text → text ≤ 3 → FaultRow 8 text line
  -- 9: actors lack requestor or a lower category's actor
  lacks_an_actor : {line : ℕ} → 1 ≤ line → FaultRow 9 2 line
  -- 10: a category over nothing has no policy
  has_no_policy : FaultRow 10 2 0
  -- 11: no identity for requestor
  no_requestor : FaultRow 11 4 1
  -- 12: a woven limit passed
  woven_limit_passed : FaultRow 12 5 0
  -- 13: a woven vertex not tied to an identity
  vertex_not_tied : FaultRow 13 5 0

-- document 01's sixteen rows, and those of the change requests
pub data TableRow : ℕ → ℕ → ℕ → Type 0 where
  -- one of those
  fault_row : {number text line : ℕ} → FaultRow number text line → TableRow number text line
  -- 14: rows times Return names exceed the row buffer's words
  rows_exceed_words : TableRow 14 5 0
  -- 14: written query longer than its buffer or than 2,048 bytes
  written_too_long : TableRow 14 3 1
  -- 14: a book that is written is longer than its buffer, a tidy book than 65,536 bytes
  book_exceeds_buffer : TableRow 14 1 0

-- a refusal is one of these rows
abbrev pub InTable : Refusal → Type 0
InTable f = TableRow f.number f.text f.line

-- and not for want of room
abbrev pub InTableBut14 : Refusal → Type 0
InTableBut14 f = FaultRow f.number f.text f.line
