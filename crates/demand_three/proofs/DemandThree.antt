-- Demand 3, from the contract of `list` alone, the record ListCalled: the row words hold every row that may be had, each once, ascending,
-- and no other row, then all ones; the answer is their number and their width; 14 is answered exactly if they do not fit and every other premise holds.
use Prim.Native.Nat.{ℕ, ◌*◌, ◌<◌, ◌≤◌}
use mathlib.Core.Path.{◌≡◌, refl, sym, ap, ap₂, subst, ◌∙◌}
use mathlib.Core.Logic.{◌↔◌, ⊎_elim}
use mathlib.Core.List.{List, [], ◌∷◌}
use native.Mathlib.Omega.{arith}
use lib.ListN.{length}
use lib.Dec.{ltb}
use borrow.Author.Tests.{lt-ltb, le-ltb}
use Rattle.std.specs.Prelude.{Result}
use Rattle.model.specs.Bytes.{Bytes, bytes_of}
use Rattle.model.specs.Choice.{pick}
use Rattle.model.specs.Refusal.{Outcome, accepted, refused, refusal, on_accept}
use Rattle.model.specs.Book.{Book}
use Rattle.model.specs.QueryText.{QueryText}
use Rattle.model.specs.Rules.{Rules}
use Rattle.model.specs.Request.{Request}
use Rattle.model.specs.Service.{ones, FoundRows, ListAnswer, row_words, list_found, list_service}
use Rattle.model.specs.Refused.{returned, rows_for}
use Rattle.model.specs.Answers.{list_answer}
use Rattle.model.specs.Demands.{ListCalled, Premises, HadRows, RowsDue, words_needed, RowsGiven, DoNotFit}
use Rattle.model.specs.Computing.{computing}
use Rattle.model.specs.declared.Refusal.{Refusal as RefusalData}
use Rattle.model.specs.declared.RowsSize.{RowsSize}
use Rattle.model.proofs.Faults.{need_refused}
use Rattle.model.proofs.Outcomes.{never, accept_e}
use Rattle.model.proofs.Refusals.{finding, list_given}
use Rattle.model.proofs.ListRefusals.{found_14}
use Rattle.model.proofs.Example as example
use Rattle.demand_three.proofs.PremiseLaws.{premises_of, had_rows, only_list, rows_given}

module _ (book rules query request : Bytes) (rows work rows' work' : List ℕ) (res : Result RowsSize RefusalData)
    (call : ListCalled book rules query request rows work rows' work' res) where
  -- the rows that are due to this call
  abbrev pub Due : List (List ℕ) → Type 0
  Due list = RowsDue (length work) book rules query request list

  abbrev found : Outcome FoundRows
  found = list_found (length work) (length rows) book rules query request

  abbrev answer_of : FoundRows → Outcome ListAnswer
  answer_of f = accepted (record { rows = length f.rows; width = f.width })

  -- where the premises hold there is such a list
  pub rows_that_may_be_had : (b : Book) (r : Rules) (q : QueryText) (x : Request) → Premises (length work) book rules query request b r q x
      → (list : List (List ℕ)) × HadRows b r q x list
  rows_that_may_be_had b r q x h = (rows_for b r q x, had_rows (length work) book rules query request b r q x h)

  given : (list : List (List ℕ)) (a : Due list)
      → found ≡ pick (ltb (length rows) (words_needed a)) (refusal 14 5 0) (accepted (record { rows = list; width = length a.q.returns }))
  given list a =
      let e = only_list (length work) book rules query request a.b a.r a.q a.x a.premises list a.had in
      rows_given (length work) book rules query request a.b a.r a.q a.x a.premises (length rows)
      ∙ ap (λ (l : List (List ℕ)). pick (ltb (length rows) (length l * length a.q.returns)) (refusal 14 5 0)
      (accepted (record { rows = l; width = length a.q.returns }))) (sym e)

  -- the theorem: the rows that may be had are listed if they fit, and 14 is answered if they do not
  pub listed_if_they_fit : (list : List (List ℕ)) (a : Due list) → words_needed a ≤ length rows → RowsGiven list (length a.q.returns) (length rows) rows' res
  unfolding list_service on_accept row_words
  listed_if_they_fit list a l =
      let e : found ≡ accepted (record { rows = list; width = length a.q.returns }) = given list a ∙ rw (le-ltb (length rows) (words_needed a) l) in
      record { number_and_width = call.answer ∙ rw e; rows_then_ones = call.rows_left ∙ rw e }

  pub fourteen_if_they_do_not : (list : List (List ℕ)) (a : Due list) → length rows < words_needed a → DoNotFit (length rows) rows' res
  unfolding list_service on_accept row_words refusal
  fourteen_if_they_do_not list a l =
      let e : found ≡ refused (returned 14 5 0) = given list a ∙ rw (lt-ltb (length rows) (words_needed a) l) in
      record { fourteen = call.answer ∙ rw e; all_ones = call.rows_left ∙ rw e }

  -- 14 exactly if they do not fit and every other premise holds
  pub fourteen_exactly : (list_answer res ≡ refused (returned 14 5 0)) ↔ ((list : List (List ℕ)) × (a : Due list) × (length rows < words_needed a))
  unfolding list_service
  fourteen_exactly = (
    λ e. let n = (need_refused found answer_of (returned 14 5 0)).0 (sym call.answer ∙ e) in
        let f : found ≡ refused (returned 14 5 0) = ⊎_elim (λ d. d) (λ u. never (returned 14 5 0) _ (sym u.2)) n in
        let (b, r, q, x, read, u) = (found_14 (length work) (length rows) book rules query request).0 f in
        let h = premises_of (length work) book rules query request b r q x read u.0 in
        (rows_for b r q x, record { b = b; r = r; q = q; x = x; premises = h; had = had_rows (length work) book rules query request b r q x h }, u.1),
    λ (list, a, l). (fourteen_if_they_do_not list a l).fourteen,
  )

  -- so many rows, so wide, exactly if they fit and every premise holds: as many as may be had, with a node's number for each Return name
  pub counted_exactly : (n w : ℕ)
      → (list_answer res ≡ accepted (record { rows = n; width = w }))
      ↔ ((list : List (List ℕ)) × (a : Due list) × (words_needed a ≤ length rows) × (length list ≡ n) × (length a.q.returns ≡ w))
  unfolding list_service
  counted_exactly n w = (
    λ e. let (f, d, m) = accept_e found answer_of (record { rows = n; width = w }) (sym call.answer ∙ e) in
        let l = list_given (length work) (length rows) book rules query request f d in
        let g = finding (length work) book rules query request f l.found_rows in
        let h = premises_of (length work) book rules query request g.b g.r g.q g.x g.read g.woven in
        let a : Due f.rows = record {
          b = g.b;
          r = g.r;
          q = g.q;
          x = g.x;
          premises = h;
          had = subst (λ (z : FoundRows). HadRows g.b g.r g.q g.x z.rows) (sym g.found_is)
              (had_rows (length work) book rules query request g.b g.r g.q g.x h);
        } in
        let same : ◌≡◌ {A = ListAnswer} (record { rows = length f.rows; width = f.width }) (record { rows = n; width = w }) = cc in (
          f.rows,
          a,
          subst (λ (k : ℕ). length f.rows * k ≤ length rows) (ap (λ (z : FoundRows). z.width) g.found_is) l.fits,
          ap (λ (z : ListAnswer). z.rows) same,
          sym (ap (λ (z : FoundRows). z.width) g.found_is)
              ∙ ap (λ (z : ListAnswer). z.width) same,
        ),
    λ (list, a, l, m, v). (listed_if_they_fit list a l).number_and_width ∙ ap₂ (λ (i j : ℕ). accepted (record { rows = i; width = j })) m v,
  )

-- Not vacuous: the paper's texts meet the premises,
premises_example : Premises 16384 (bytes_of example.book) (bytes_of example.rules) (bytes_of example.query) (bytes_of example.request) example.the_book
    example.the_rules example.the_query example.the_request
unfolding computing
premises_example = premises_of 16384 (bytes_of example.book) (bytes_of example.rules) (bytes_of example.query) (bytes_of example.request) example.the_book
    example.the_rules example.the_query example.the_request
    (record {
      rules_before = record { book_before = record { memory_whole = omega arith; book_read = example.book_read }; rules_read = example.rules_read };
      query_read = example.query_read_law;
      request_read = example.request_read_law;
    }) refl

-- and a call on them, with two row words lent, answers one row of one name: that of S5, then all ones
row_example : (rows work rows' work' : List ℕ) (res : Result RowsSize RefusalData) → length rows ≡ 2 → length work ≡ 16384
    → ListCalled (bytes_of example.book) (bytes_of example.rules) (bytes_of example.query) (bytes_of example.request) rows work rows' work' res
    → (list_answer res ≡ accepted (record { rows = 1; width = 1 })) × (rows' ≡ 2 ∷ 4294967295 ∷ [])
unfolding computing
row_example rows work rows' work' res m n call = (
  call.answer ∙ ap₂ (λ (i j : ℕ). (list_service i j (bytes_of example.book) (bytes_of example.rules) (bytes_of example.query)
      (bytes_of example.request)).answer) n m,
  call.rows_left ∙ ap₂ (λ (i j : ℕ). (list_service i j (bytes_of example.book) (bytes_of example.rules) (bytes_of example.query)
      (bytes_of example.request)).rows) n m,
)
