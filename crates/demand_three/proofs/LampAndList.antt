-- What the lamp says, from the contract of `lamp` alone, the record LampCalled: yes exactly if every premise of a list holds and a row may be had. And
-- from the contracts of `lamp` and `list` on the same texts: whenever the rows fit, yes exactly if the list answers a number above 0; every refusal of the
-- list but 14 is the lamp's, and the lamp has no other.
use Prim.Native.Nat.{ℕ, suc, ◌*◌, ◌<◌}
use mathlib.Core.Path.{◌≡◌, refl, sym, ap, subst, ◌∙◌}
use mathlib.Core.Logic.{◌≢◌, ◌↔◌}
use mathlib.Core.Bool.{Bool, true, false, not}
use mathlib.Core.List.Memᴰ
use mathlib.Core.List.{List, [], ◌∷◌, map}
use native.Mathlib.Omega.{arith}
use lib.ListN.{length}
use lib.Dec.{T, ltb}
use borrow.Author.Tests.{lt-ltb}
use Rattle.std.specs.Prelude.{Result}
use Rattle.model.specs.Bytes.{Bytes, bytes_of}
use Rattle.model.specs.Lists.{◌∈◌, is_nil}
use Rattle.model.specs.Refusal.{Refusal, Outcome, accepted, refused, on_accept}
use Rattle.model.specs.Book.{Book}
use Rattle.model.specs.QueryText.{QueryText}
use Rattle.model.specs.Rules.{Rules}
use Rattle.model.specs.Request.{Request}
use Rattle.model.specs.Weave.{asked_query, asked_policies}
use Rattle.model.specs.MayHave.{MayHave}
use Rattle.model.specs.Service.{FoundRows, ListAnswer, rows_asked, list_service, lamp_service}
use Rattle.model.specs.Refused.{returned, rows_for, found_for, ListTable, lamp_first, no_room}
use Rattle.model.specs.RefusalTable.{FaultRow, memory_is_short, text_too_long, byte_not_allowed, grammar_broken, not_declared, second_time}
use Rattle.model.specs.RefusalTable.{not_of_the_type, passes_the_limit, excluded_from_itself, lacks_an_actor, has_no_policy, no_requestor}
use Rattle.model.specs.RefusalTable.{woven_limit_passed, vertex_not_tied}
use Rattle.model.specs.Answers.{list_answer, lamp_answer}
use Rattle.model.specs.Demands.{ListCalled, LampCalled, Premises}
use Rattle.model.specs.Computing.{computing}
use Rattle.model.specs.declared.RowsSize.{RowsSize}
use Rattle.model.specs.declared.Refusal.{Refusal as RefusalData}
use Rattle.model.proofs.Outcomes.{accept_e}
use Rattle.model.proofs.Refusals.{finding, gives_rows, list_given, same_accepted, list_service_table, lamp_service_table}
use Rattle.model.proofs.TableRows.{lamp_refuses_by_the_table}
use Rattle.model.proofs.Example as example
use Rattle.model.proofs.Cases.{Case, cases}
use Rattle.demand_three.proofs.PremiseLaws.{premises_of, no_woven_fault, had_rows}

-- a list that has something in it has a first row, and a list with a row has something in it
first_row : (rows : List (List ℕ)) → not (is_nil rows) ≡ true → (row : List ℕ) × (row ∈ rows)
unfolding is_nil
first_row [] e = absurd (subst T (sym e) tt)
first_row (row ∷ rows) e = (row, Memᴰ.head refl)

has_row : (rows : List (List ℕ)) (row : List ℕ) → row ∈ rows → not (is_nil rows) ≡ true
unfolding is_nil
has_row [] row m = elim m [ ]
has_row (x ∷ rows) row m = refl

no_row : (rows : List (List ℕ)) → ((row : List ℕ) → row ∈ rows → ⊥) → not (is_nil rows) ≡ false
unfolding is_nil
no_row [] h = refl
no_row (row ∷ rows) h = absurd (h row (Memᴰ.head refl))

none_in : (rows : List (List ℕ)) → not (is_nil rows) ≡ false → (row : List ℕ) → row ∈ rows → ⊥
none_in rows e row m = subst T (sym (has_row rows row m) ∙ e) tt

-- something is in a list exactly if its length is above 0
by_length : (rows : List (List ℕ)) → not (is_nil rows) ≡ ltb 0 (length rows)
unfolding is_nil
by_length [] = refl
by_length (row ∷ rows) = sym (lt-ltb 0 (suc (length rows)) (omega arith))

-- 14 is none of the rows but 14
not_14 : {n t l : ℕ} → FaultRow n t l → n ≢ 14
not_14 memory_is_short e = omega (arith, e)
not_14 (text_too_long i) e = omega (arith, e)
not_14 (byte_not_allowed i) e = omega (arith, e)
not_14 (grammar_broken i j) e = omega (arith, e)
not_14 (not_declared i) e = omega (arith, e)
not_14 (second_time i) e = omega (arith, e)
not_14 (not_of_the_type i j) e = omega (arith, e)
not_14 (passes_the_limit i j) e = omega (arith, e)
not_14 (excluded_from_itself i j k) e = omega (arith, e)
not_14 (lacks_an_actor i) e = omega (arith, e)
not_14 has_no_policy e = omega (arith, e)
not_14 no_requestor e = omega (arith, e)
not_14 woven_limit_passed e = omega (arith, e)
not_14 vertex_not_tied e = omega (arith, e)

module _ (book rules query request : Bytes) (work work' : List ℕ) (shown : Result Bool RefusalData) (call : LampCalled book rules query request work work' shown) where
  abbrev found : Outcome FoundRows
  found = rows_asked (length work) book rules query request

  -- the premises of a list hold, and this holds of what the texts say
  abbrev pub PremisesAnd : (Book → Rules → QueryText → Request → Type 0) → Type 0
  PremisesAnd P = (b : Book) × (r : Rules) × (q : QueryText) × (x : Request) × Premises (length work) book rules query request b r q x × P b r q x

  -- a row may be had
  abbrev pub SomeRow : Book → Rules → QueryText → Request → Type 0
  SomeRow b r q x = (row : List ℕ) × MayHave b x.identities (asked_query r x q) (asked_policies r x) row

  -- no row may be had
  abbrev pub NoRow : Book → Rules → QueryText → Request → Type 0
  NoRow b r q x = (row : List ℕ) → MayHave b x.identities (asked_query r x q) (asked_policies r x) row → ⊥

  -- what the lamp says of rows that are found
  says : (f : FoundRows) → found ≡ accepted f → lamp_answer shown ≡ accepted (not (is_nil f.rows))
  unfolding lamp_service on_accept
  says f e = call.answer ∙ rw e

  -- where it answers, the premises hold, and the rows found are those that may be had
  answered : (said : Bool) → lamp_answer shown ≡ accepted said → PremisesAnd (λ b r q x. not (is_nil (rows_for b r q x)) ≡ said)
  unfolding lamp_service
  answered said e =
      let (f, d, m) = accept_e found (λ f. accepted (not (is_nil f.rows))) said (sym call.answer ∙ e) in
      let g = finding (length work) book rules query request f d in
      let h = premises_of (length work) book rules query request g.b g.r g.q g.x g.read g.woven in
      (g.b, g.r, g.q, g.x, h, ap (λ (z : FoundRows). not (is_nil z.rows)) (sym g.found_is) ∙ same_accepted (not (is_nil f.rows)) said m)

  answers : (said : Bool) (b : Book) (r : Rules) (q : QueryText) (x : Request) → Premises (length work) book rules query request b r q x
      → not (is_nil (rows_for b r q x)) ≡ said → lamp_answer shown ≡ accepted said
  answers said b r q x h e =
      says (found_for b r q x)
      (gives_rows (length work) book rules query request b r q x h.read (no_woven_fault (length work) book rules query request b r q x h)) ∙ ap accepted e

  -- the theorem: yes exactly if every premise holds and a row may be had
  pub yes_exactly : (lamp_answer shown ≡ accepted true) ↔ PremisesAnd SomeRow
  yes_exactly = (
    λ e. let (b, r, q, x, h, some) = answered true e in
        let (row, m) = first_row (rows_for b r q x) some in
        (b, r, q, x, h, (row, ((had_rows (length work) book rules query request b r q x h).every_row_and_no_other row).0 m)),
    λ (b, r, q, x, h, (row, had)). answers true b r q x h
        (has_row (rows_for b r q x) row (((had_rows (length work) book rules query request b r q x h).every_row_and_no_other row).1 had)),
  )

  -- no exactly if every premise holds and no row may be had
  pub no_exactly : (lamp_answer shown ≡ accepted false) ↔ PremisesAnd NoRow
  no_exactly = (
    λ e. let (b, r, q, x, h, none) = answered false e in (
      b,
      r,
      q,
      x,
      h,
      λ row had. none_in (rows_for b r q x) none row
          (((had_rows (length work) book rules query request b r q x h).every_row_and_no_other row).1 had),
    ),
    λ (b, r, q, x, h, none). answers false b r q x h
        (no_row (rows_for b r q x) (λ row m. none row (((had_rows (length work) book rules query request b r q x h).every_row_and_no_other row).0 m))),
  )

  -- its refusals have no 14
  pub never_14 : (f : Refusal) → lamp_answer shown ≡ refused f → f.number ≢ 14
  never_14 f e = not_14 (lamp_refuses_by_the_table (length work) book rules query request f (sym call.answer ∙ e))

  -- beside a call of the list on the same texts, with as many words of working memory
  module _ (rows lent rows' lent' : List ℕ) (res : Result RowsSize RefusalData) (listed : ListCalled book rules query request rows lent rows' lent' res)
      (alike : length lent ≡ length work) where
    list_answer_law : list_answer res ≡ (list_service (length work) (length rows) book rules query request).answer
    list_answer_law = subst (λ (n : ℕ). list_answer res ≡ (list_service n (length rows) book rules query request).answer) alike listed.answer

    abbrev Table : Refusal → Type 0
    Table f = ListTable (length work) (length rows) book rules query request f

    in_list_table : (f : Refusal) → list_answer res ≡ refused f → Table f
    in_list_table f e = ((list_service_table (length work) (length rows) book rules query request).refused_if f).0 (sym list_answer_law ∙ e)

    -- the theorem: whenever the rows fit, yes exactly if the list answers a number above 0
    pub by_the_number : (n w : ℕ) → list_answer res ≡ accepted (record { rows = n; width = w }) → lamp_answer shown ≡ accepted (ltb 0 n)
    unfolding list_service
    by_the_number n w e =
        let (f, d, m) = accept_e _ (λ f. accepted (record { rows = length f.rows; width = f.width })) (record { rows = n; width = w })
        (sym list_answer_law ∙ e) in
        let count : length f.rows ≡ n = ap (λ (z : ListAnswer). z.rows) (same_accepted _ _ m) in
        says f (list_given (length work) (length rows) book rules query request f d).found_rows
        ∙ ap accepted (by_length f.rows ∙ ap (ltb 0) count)

    -- what the list refuses with other than 14 the lamp refuses alike
    pub refuses_alike : (f : Refusal) → list_answer res ≡ refused f → f.number ≢ 14 → lamp_answer shown ≡ refused f
    refuses_alike f e other = go (in_list_table f e)
      where
        go : Table f → lamp_answer shown ≡ refused f
        go (lamp_first t) = call.answer ∙ ((lamp_service_table (length work) book rules query request).refused_if f).1 t
        go (no_room a n l d) = absurd (other (ap (λ (z : Refusal). z.number) d))

    -- what the lamp refuses the list refuses alike
    pub list_refuses_alike : (f : Refusal) → lamp_answer shown ≡ refused f → list_answer res ≡ refused f
    list_refuses_alike f e = list_answer_law ∙ ((list_service_table (length work) (length rows) book rules query request).refused_if f).1
        (lamp_first (((lamp_service_table (length work) book rules query request).refused_if f).0 (sym call.answer ∙ e)))

    -- and where the rows do not fit the lamp says yes
    pub yes_if_no_room : (f : Refusal) → list_answer res ≡ refused f → f.number ≡ 14 → lamp_answer shown ≡ accepted true
    unfolding is_nil
    yes_if_no_room f e is = go (in_list_table f e)
      where
        some : (l : List (List ℕ)) (words w : ℕ) → words < length l * w → not (is_nil l) ≡ true
        some [] words w h = absurd (omega arith)
        some (row ∷ l) words w h = refl

        go : Table f → lamp_answer shown ≡ accepted true
        go (lamp_first t) = absurd (never_14 f (call.answer ∙ ((lamp_service_table (length work) book rules query request).refused_if f).1 t) is)
        go (no_room {b} {r} {q} {x} a n l d) =
            says (found_for b r q x) (gives_rows (length work) book rules query request b r q x a n) ∙ ap accepted (some (rows_for b r q x) (length rows) _ l)

-- Not vacuous: the worked example and the ten marked cases of document 01, computed. Where the list has no room for its row the lamp says yes.
lit : Case → Outcome Bool
lit c = (lamp_service 16384 (bytes_of example.book) (bytes_of example.rules) (bytes_of c.query) (bytes_of c.request)).answer

abbrev on : Outcome Bool
on = accepted true

abbrev off : Outcome Bool
off = accepted false

lit_by_hand : map lit cases
    ≡ on ∷ on ∷ on ∷ off ∷ on ∷ off ∷ refused (returned 13 5 0) ∷ refused (returned 8 3 1) ∷ on ∷ off ∷ refused (returned 6 3 1) ∷ refused (returned 5 3 1) ∷ []
unfolding computing lit
lit_by_hand = refl
