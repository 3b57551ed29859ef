-- Demand 3 in words: what a call of the list and one of the lamp promise, their premises, the rows that are due, and how they are listed or refused.
use Rattle.std.specs.Prelude.{ℕ, ◌-◌, ◌*◌, ◌≡◌, ◌↔◌, List, ◌++◌, length, T, Bool, Result}
use Rattle.model.specs.Bytes.{Bytes}
use Rattle.model.specs.Lists.{◌∈◌, joined}
use Rattle.model.specs.Refusal.{accepted, refused}
use Rattle.model.specs.Book.{Book}
use Rattle.model.specs.QueryText.{QueryText}
use Rattle.model.specs.Rules.{Rules}
use Rattle.model.specs.Request.{Request}
use Rattle.model.specs.Weave.{asked_query, asked_policies, woven_too_many}
use Rattle.model.specs.Tied.{IsVertex, TiedTo}
use Rattle.model.specs.MayHave.{MayHave}
use Rattle.model.specs.RowOrder.{Ascending, NoneTwice}
use Rattle.model.specs.Service.{ones, list_service, lamp_service}
use Rattle.model.specs.Refused.{returned, AllRead, woven}
use Rattle.model.specs.Answers.{list_answer, lamp_answer}
use Rattle.model.specs.declared.Refusal.{Refusal as RefusalData}
use Rattle.model.specs.declared.RowsSize.{RowsSize}

-- the contract of a call of the list: rows and work are the lent words before it, rows' and work' after it, r its answer
pub record ListCalled (book rules query request : Bytes) (rows work rows' work' : List ℕ) (r : Result RowsSize RefusalData) : Type 0 where
  pub answer : list_answer r ≡ (list_service (length work) (length rows) book rules query request).answer
  pub rows_left : rows' ≡ (list_service (length work) (length rows) book rules query request).rows
  pub cleared : work' ≡ ones (length work)

-- the contract of a call of the lamp: work is the lent memory before it, work' after it, r its answer
pub record LampCalled (book rules query request : Bytes) (work work' : List ℕ) (r : Result Bool RefusalData) : Type 0 where
  pub answer : lamp_answer r ≡ (lamp_service (length work) book rules query request).answer
  pub cleared : work' ≡ ones (length work)

-- the premises of a list, its row words aside
pub record Premises (work : ℕ) (book rules query request : Bytes) (b : Book) (r : Rules) (q : QueryText) (x : Request) : Type 0 where
  -- working memory is whole, and the four texts are accepted as these
  pub read : AllRead work book rules query request b r q x
  -- no woven limit is passed
  pub within_limits : T (woven_too_many (woven r q x)) → ⊥
  -- each woven vertex is tied to an identity
  pub all_tied : (v : ℕ) → IsVertex (woven r q x) v → TiedTo (woven r q x) x.identities v

-- every row that may be had and no other row, ascending, each once
pub record HadRows (b : Book) (r : Rules) (q : QueryText) (x : Request) (list : List (List ℕ)) : Type 0 where
  pub every_row_and_no_other : (row : List ℕ) → (row ∈ list) ↔ MayHave b x.identities (asked_query r x q) (asked_policies r x) row
  pub ascending : Ascending list
  pub each_once : NoneTwice list

-- all premises hold, and list is the list of the rows that may be had
pub record RowsDue (work : ℕ) (book rules query request : Bytes) (list : List (List ℕ)) : Type 0 where
  pub b : Book
  pub r : Rules
  pub q : QueryText
  pub x : Request
  pub premises : Premises work book rules query request b r q x
  pub had : HadRows b r q x list

-- how many row words the rows that are due ask for: rows times Return names
abbrev pub words_needed : {work : ℕ} {book rules query request : Bytes} {list : List (List ℕ)} → RowsDue work book rules query request list → ℕ
words_needed {list = list} due = length list * length due.q.returns

-- the rows stand in the words, one after another, then all ones; the answer is their number and their width
pub record RowsGiven (list : List (List ℕ)) (width words : ℕ) (rows' : List ℕ) (r : Result RowsSize RefusalData) : Type 0 where
  pub number_and_width : list_answer r ≡ accepted (record { rows = length list; width = width })
  pub rows_then_ones : rows' ≡ joined (λ row. row) list ++ ones (words - length (joined (λ row. row) list))

-- 14, and every row word is all ones
pub record DoNotFit (words : ℕ) (rows' : List ℕ) (r : Result RowsSize RefusalData) : Type 0 where
  pub fourteen : list_answer r ≡ refused (returned 14 5 0)
  pub all_ones : rows' ≡ ones words
