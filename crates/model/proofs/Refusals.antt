-- The table of refusals is exclusive and complete: each service accepts or gives one refusal, and that is the first in the paper's order.
use Prim.Native.Nat.{ℕ, ◌<◌, ◌≤◌, ◌*◌}
use mathlib.Core.Path.{◌≡◌, refl, sym, ap, subst, ◌∙◌}
use mathlib.Core.Logic.{◌⊎◌, inl, inr, ⊎_elim, ◌↔◌}
use mathlib.Core.List.{List}
use mathlib.Core.Bool.{not, ◌||◌}
use lib.ListN.{length}
use lib.Dec.{ltb, ltb→lt, lt→ltb, nltb→le, not_T}
use borrow.Author.Tests.{le-ltb}
use Rattle.model.specs.Bytes.{Bytes}
use Rattle.model.specs.Choice.{pick, nothing, just}
use Rattle.model.specs.Lists.{is_nil}
use Rattle.model.specs.Refusal.{Refusal, Outcome, accepted, refused, on_accept, refusal, refused_if}
use Rattle.model.specs.Book.{Book}
use Rattle.model.specs.ReadBook.{read_book}
use Rattle.model.specs.QueryText.{QueryText}
use Rattle.model.specs.ReadQuery.{read_query}
use Rattle.model.specs.Pattern.{pattern_of}
use Rattle.model.specs.Writing.{written_query}
use Rattle.model.specs.Rules.{Rules}
use Rattle.model.specs.ReadRules.{read_rules}
use Rattle.model.specs.Request.{Request, read_request}
use Rattle.model.specs.Service.{with_work, book_service, rules_service, query_service, request_service, writer_text, writer_service, FoundRows}
use Rattle.model.specs.Service.{rows_asked, list_found, list_rows, list_service, lamp_service}
use Rattle.model.specs.Refused.{returned, Exactly, BookTable, memory_short, in_book, BookRead, RulesTable, book_first, in_rules, RulesRead}
use Rattle.model.specs.Refused.{QueryTable, in_query, RequestTable, rules_first, in_request, WriterTable, no_room, AllRead, woven_number}
use Rattle.model.specs.Refused.{found_for, LampTable, in_woven, ListTable, lamp_first}
use Rattle.model.proofs.Members.{test, is_true, is_false}
use Rattle.model.proofs.Faults.{over_refused, number_refused, need_refused}
use Rattle.model.proofs.Outcomes.{never, accept_e, if_e}
use Rattle.model.proofs.Decides.{or_l, or_r, or_cases}

-- a table that says when each refusal is given says all that `Exactly` asks
pub exactly : {A : Type 0} (answer : Outcome A) (Table : Refusal → Type 0) → ((f : Refusal) → (answer ≡ refused f) ↔ Table f) → Exactly answer Table
exactly {A} answer Table h = record {
  refused_if = h;
  accepted_if = (λ u f t. never f u.0 (sym ((h f).1 t) ∙ u.1), other answer refl);
  one_refusal = λ f g t u. let e : ◌≡◌ {A = Outcome A} (refused f) (refused g) = sym ((h f).1 t) ∙ (h g).1 u in cc;
}
  where
    other : (o : Outcome A) → answer ≡ o → ((f : Refusal) → Table f → ⊥) → (a : A) × (answer ≡ accepted a)
    other (accepted a) e n = (a, e)
    other (refused f) e n = absurd (n f ((h f).0 e))

-- what a service gives behind the book
after_book_law : {A : Type 0} (work : ℕ) (book : Bytes) (g : Book → Outcome A) (f : Refusal)
    → (with_work work (on_accept (read_book book) g) ≡ refused f) ↔ (BookTable work book f ⊎ ((b : Book) × BookRead work book b × (g b ≡ refused f)))
unfolding with_work refusal
after_book_law work book g f =
    let w = over_refused work 16384 (returned 15 0 0) (on_accept (read_book book) g) f in
    let n = need_refused (read_book book) g f in (
      λ e. ⊎_elim (λ u. inl (memory_short u.0 u.1))
          (λ u. ⊎_elim (λ d. inl (in_book u.0 d)) (λ v. inr (v.0, record { memory_whole = u.0; book_read = v.1 }, v.2)) (n.0 u.1)) (w.0 e),
      ⊎_elim (λ t. w.1 (elim t [ memory_short l e ↦ inl (l, e) | in_book l e ↦ inr (l, n.1 (inl e)) ]))
          (λ u. w.1 (inr (u.1.memory_whole, n.1 (inr (u.0, u.1.book_read, u.2))))),
    )

-- what a service gives behind the rules
after_rules_law : {A : Type 0} (work : ℕ) (book rules : Bytes) (g : Book → Rules → Outcome A) (f : Refusal)
    → (with_work work (on_accept (read_book book) (λ b. on_accept (read_rules b rules) (g b))) ≡ refused f) ↔
    (RulesTable work book rules f ⊎ ((b : Book) × (r : Rules) × RulesRead work book rules b r × (g b r ≡ refused f)))
after_rules_law {A} work book rules g f = (
  λ e. ⊎_elim (λ t. inl (book_first t)) (λ u. ⊎_elim (λ d. inl (in_rules u.1 d))
      (λ v. inr (u.0, v.0, record { book_before = u.1; rules_read = v.1 }, v.2)) ((need_refused (read_rules u.0 rules) (g u.0) f).0 u.2))
      (before.0 e),
  λ u. before.1 (⊎_elim (λ t. table t) (λ v. inr
      (v.0, v.2.book_before, (need_refused (read_rules v.0 rules) (g v.0) f).1 (inr (v.1, v.2.rules_read, v.3)))) u),
)
  where
    rest : Book → Outcome A
    rest b = on_accept (read_rules b rules) (g b)

    before : (with_work work (on_accept (read_book book) rest) ≡ refused f) ↔ (BookTable work book f ⊎ ((b : Book) × BookRead work book b × (rest b ≡ refused f)))
    before = after_book_law work book rest f

    table : RulesTable work book rules f → BookTable work book f ⊎ ((b : Book) × BookRead work book b × (rest b ≡ refused f))
    table (book_first t) = inl t
    table (in_rules {b} u e) = inr (b, u, (need_refused (read_rules b rules) (g b) f).1 (inl e))

-- what is accepted is not refused
pub accepts : {A C : Type 0} (a : A) (f : Refusal) → ◌≡◌ {A = Outcome A} (accepted a) (refused f) → C
accepts a f e = never f a (sym e)

-- the book reader refuses by its table, and else accepts
pub book_table : (work : ℕ) (book : Bytes) → Exactly (book_service work book).answer (BookTable work book)
unfolding book_service
book_table work book = exactly _ (BookTable work book)
    (λ f. let h = after_book_law work book _ f in (λ e. ⊎_elim (λ t. t) (λ u. accepts _ f u.2) (h.0 e), λ t. h.1 (inl t)))

-- the rules reader refuses by its table, and else accepts
pub rules_table : (work : ℕ) (book rules : Bytes) → Exactly (rules_service work book rules).answer (RulesTable work book rules)
unfolding rules_service
rules_table work book rules = exactly _ (RulesTable work book rules)
    (λ f. let h = after_rules_law work book rules _ f in (λ e. ⊎_elim (λ t. t) (λ u. accepts _ f u.3) (h.0 e), λ t. h.1 (inl t)))

-- the query reader refuses by its table, and else accepts
pub query_table : (work : ℕ) (book query : Bytes) → Exactly (query_service work book query).answer (QueryTable work book query)
unfolding query_service
query_table work book query = exactly _ (QueryTable work book query) (λ f. (
  λ e. ⊎_elim book_first (λ u. ⊎_elim (in_query u.1) (λ v. accepts _ f v.2) ((need_refused (read_query u.0 query) _ f).0 u.2))
      ((after_book_law work book _ f).0 e),
  back f,
))
  where
    back : (f : Refusal) → QueryTable work book query f → (query_service work book query).answer ≡ refused f
    back f (book_first t) = (after_book_law work book _ f).1 (inl t)
    back f (in_query {b} u e) = (after_book_law work book _ f).1 (inr (b, u, (need_refused (read_query b query) _ f).1 (inl e)))

-- the request reader refuses by its table, and else accepts
pub request_table : (work : ℕ) (book rules request : Bytes) → Exactly (request_service work book rules request).answer (RequestTable work book rules request)
unfolding request_service
request_table work book rules request = exactly _ (RequestTable work book rules request) (λ f. (
  λ e. ⊎_elim rules_first (λ u. ⊎_elim (in_request u.2) (λ v. accepts _ f v.2) ((need_refused (read_request u.0 u.1 request) _ f).0 u.3))
      ((after_rules_law work book rules _ f).0 e),
  back f,
))
  where
    back : (f : Refusal) → RequestTable work book rules request f → (request_service work book rules request).answer ≡ refused f
    back f (rules_first t) = (after_rules_law work book rules _ f).1 (inl t)
    back f (in_request {b} {r} u e) = (after_rules_law work book rules _ f).1 (inr (b, r, u, (need_refused (read_request b r request) _ f).1 (inl e)))

-- refused if k is over m or over n
either_refused : {A : Type 0} (m n k : ℕ) (g : Refusal) (a : A) (f : Refusal)
    → (pick (ltb m k || ltb n k) (refused g) (accepted a) ≡ refused f) ↔ (((m < k) ⊎ (n < k)) × (f ≡ g))
either_refused {A} m n k g a f = ⊎_elim
    (λ t. rw (is_true (ltb m k || ltb n k) t)
    (λ e. (⊎_elim (λ u. inl (ltb→lt m k u)) (λ u. inr (ltb→lt n k u)) (or_cases (ltb m k) (ltb n k) t), cc), λ u. ap refused (sym u.1)))
    (λ t. rw (is_false (ltb m k || ltb n k) t)
    (λ e. accepts a f e, λ u. absurd (t (⊎_elim (λ l. or_l (ltb m k) (ltb n k) (lt→ltb m k l)) (λ l. or_r (ltb m k) (ltb n k) (lt→ltb n k l)) u.0))))
    (test (ltb m k || ltb n k))

-- the written query is refused by the writer's table, and else given
pub writer_table : (work room : ℕ) (book rules query : Bytes) → Exactly (writer_text work room book rules query) (WriterTable work room book rules query)
unfolding writer_text refusal
writer_table work room book rules query = exactly _ (WriterTable work room book rules query) (λ f. (
  λ e. ⊎_elim rules_first (λ u. ⊎_elim (in_query u.2)
      (λ v. let w = (either_refused room 2048 (length (written_query (pattern_of v.0))) (returned 14 3 1) (written_query (pattern_of v.0)) f).0 v.2 in
      no_room u.2 v.1 w.0 w.1)
      ((need_refused (read_query u.0 query) _ f).0 u.3)) ((after_rules_law work book rules _ f).0 e),
  back f,
))
  where
    back : (f : Refusal) → WriterTable work room book rules query f → writer_text work room book rules query ≡ refused f
    back f (rules_first t) = (after_rules_law work book rules _ f).1 (inl t)
    back f (in_query {b} {r} u e) = (after_rules_law work book rules _ f).1 (inr (b, r, u, (need_refused (read_query b query) _ f).1 (inl e)))
    back f (no_room {b} {r} {q} u e l d) = (after_rules_law work book rules _ f).1 (inr (
      b,
      r,
      u,
      (need_refused (read_query b query) _ f).1
          (inr (q, e, (either_refused room 2048 (length (written_query (pattern_of q))) (returned 14 3 1) (written_query (pattern_of q)) f).1 (l, d))),
    ))

-- behind the four texts the lamp refuses by the number of the woven pattern's fault, whatever is found
woven_refused : {A : Type 0} (a : A) (r : Rules) (q : QueryText) (x : Request) (f : Refusal)
    → (refused_if (woven_number r q x) 5 0 (accepted a) ≡ refused f) ↔ ((n : ℕ) × (woven_number r q x ≡ just n) × (f ≡ returned n 5 0))
woven_refused a r q x f =
    let h = number_refused (woven_number r q x) 5 0 (accepted a) f in
    (λ e. ⊎_elim (λ u. u) (λ u. accepts _ f u.1) (h.0 e), λ u. h.1 (inl u))

-- what is found is refused by the lamp's table, and else given
pub rows_table : (work : ℕ) (book rules query request : Bytes)
    → Exactly (rows_asked work book rules query request) (LampTable work book rules query request)
unfolding rows_asked
rows_table work book rules query request = exactly _ (LampTable work book rules query request) (λ f. (
  λ e. ⊎_elim rules_first (λ u. ⊎_elim (in_query u.2) (λ v. ⊎_elim (in_request u.2 v.1)
      (λ w. let z = (woven_refused _ u.1 v.0 w.0 f).0 w.2 in
      in_woven (record { rules_before = u.2; query_read = v.1; request_read = w.1 }) z.1 z.2)
      ((need_refused (read_request u.0 u.1 request) _ f).0 v.2))
      ((need_refused (read_query u.0 query) _ f).0 u.3)) ((after_rules_law work book rules _ f).0 e),
  back f,
))
  where
    back : (f : Refusal) → LampTable work book rules query request f → rows_asked work book rules query request ≡ refused f
    back f (rules_first t) = (after_rules_law work book rules _ f).1 (inl t)
    back f (in_query {b} {r} u e) = (after_rules_law work book rules _ f).1 (inr (b, r, u, (need_refused (read_query b query) _ f).1 (inl e)))
    back f (in_request {b} {r} {q} u e d) = (after_rules_law work book rules _ f).1
        (inr (b, r, u, (need_refused (read_query b query) _ f).1 (inr (q, e, (need_refused (read_request b r request) _ f).1 (inl d)))))
    back f (in_woven {b} {r} {q} {x} {n} a e d) = (after_rules_law work book rules _ f).1
        (inr (
          b,
          r,
          a.rules_before,
          (need_refused (read_query b query) _ f).1
              (inr (
                q,
                a.query_read,
                (need_refused (read_request b r request) _ f).1
                    (inr (x, a.request_read, (woven_refused _ r q x f).1 (n, e, d))),
              )),
        ))

-- rows that are found: all four texts are read, the woven pattern has no fault, and they are the rows that may be had
pub record Finding (work : ℕ) (book rules query request : Bytes) (found : FoundRows) : Type 0 where
  pub b : Book
  pub r : Rules
  pub q : QueryText
  pub x : Request
  pub read : AllRead work book rules query request b r q x
  pub woven : woven_number r q x ≡ nothing
  pub found_is : found ≡ found_for b r q x

within : {A : Type 0} (m n : ℕ) (g : Refusal) (o : Outcome A) (a : A) → pick (ltb m n) (refused g) o ≡ accepted a → (n ≤ m) × (o ≡ accepted a)
within m n g o a e = ⊎_elim (λ t. never g a (rw (is_true (ltb m n) t) at e)) (λ t. (nltb→le m n (not_T (ltb m n) t), rw (is_false (ltb m n) t) at e))
    (test (ltb m n))

pub same_accepted : {A : Type 0} (a c : A) → ◌≡◌ {A = Outcome A} (accepted a) (accepted c) → a ≡ c
same_accepted a c e = cc

-- rows that are found are so given
pub finding : (work : ℕ) (book rules query request : Bytes) (found : FoundRows) → rows_asked work book rules query request ≡ accepted found
    → Finding work book rules query request found
unfolding rows_asked with_work refusal
finding work book rules query request found e =
    let w = within work 16384 (returned 15 0 0) _ found e in
    let a = accept_e (read_book book) _ found w.1 in
    let c = accept_e (read_rules a.0 rules) _ found a.2 in
    let d = accept_e (read_query a.0 query) _ found c.2 in
    let f = accept_e (read_request a.0 c.0 request) _ found d.2 in
    let g = if_e (woven_number c.0 d.0 f.0) 5 0 (accepted (found_for a.0 c.0 d.0 f.0)) found f.2 in
    record {
      b = a.0;
      r = c.0;
      q = d.0;
      x = f.0;
      read = record {
        rules_before = record { book_before = record { memory_whole = w.0; book_read = a.1 }; rules_read = c.1 };
        query_read = d.1;
        request_read = f.1;
      };
      woven = g.0;
      found_is = sym (same_accepted (found_for a.0 c.0 d.0 f.0) found g.1);
    }

-- and the texts that are read without a woven fault give these rows
pub gives_rows : (work : ℕ) (book rules query request : Bytes) (b : Book) (r : Rules) (q : QueryText) (x : Request)
    → AllRead work book rules query request b r q x → woven_number r q x ≡ nothing → rows_asked work book rules query request ≡ accepted (found_for b r q x)
unfolding rows_asked with_work on_accept refused_if
gives_rows work book rules query request b r q x read clear = rw (
  le-ltb work 16384 read.rules_before.book_before.memory_whole,
  read.rules_before.book_before.book_read,
  read.rules_before.rules_read,
  read.query_read,
  read.request_read,
  clear,
)

-- what the list finds is refused by the list's table, and else given
pub found_table : (work words : ℕ) (book rules query request : Bytes)
    → Exactly (list_found work words book rules query request) (ListTable work words book rules query request)
unfolding list_found refusal
found_table work words book rules query request = exactly _ (ListTable work words book rules query request) (λ f. (
  λ e. ⊎_elim (λ d. lamp_first (((rows_table work book rules query request).refused_if f).0 d)) (λ u. too_many_law f u.0 u.1 u.2) ((found f).0 e),
  back f,
))
  where
    over : FoundRows → Outcome FoundRows
    over g = pick (ltb words (length g.rows * g.width)) (refused (returned 14 5 0)) (accepted g)

    found : (f : Refusal) → (on_accept (rows_asked work book rules query request) over ≡ refused f) ↔
        ((rows_asked work book rules query request ≡ refused f)
        ⊎ ((g : FoundRows) × (rows_asked work book rules query request ≡ accepted g) × (over g ≡ refused f)))
    found f = need_refused (rows_asked work book rules query request) over f

    exceeds : (f : Refusal) (g : FoundRows) → (over g ≡ refused f) ↔ ((words < length g.rows * g.width) × (f ≡ returned 14 5 0))
    exceeds f g = let o = over_refused words (length g.rows * g.width) (returned 14 5 0) (accepted g) f in
        (λ e. ⊎_elim (λ v. v) (λ v. accepts _ f v.1) (o.0 e), λ v. o.1 (inl v))

    too_many_law : (f : Refusal) (g : FoundRows) → rows_asked work book rules query request ≡ accepted g → over g ≡ refused f
        → ListTable work words book rules query request f
    too_many_law f g e d =
        let v = (exceeds f g).0 d in
        let t = finding work book rules query request g e in
        no_room t.read t.woven (subst (λ (z : FoundRows). words < length z.rows * z.width) t.found_is v.0) v.1

    back : (f : Refusal) → ListTable work words book rules query request f → on_accept (rows_asked work book rules query request) over ≡ refused f
    back f (lamp_first t) = (found f).1 (inl (((rows_table work book rules query request).refused_if f).1 t))
    back f (no_room {b} {r} {q} {x} a e l d) = (found f).1
        (inr (found_for b r q x, gives_rows work book rules query request b r q x a e, (exceeds f (found_for b r q x)).1 (l, d)))

-- an answer made of what is accepted is refused as that is
pub answer_exactly : {A B : Type 0} (o : Outcome A) (g : A → B) (Table : Refusal → Type 0) → Exactly o Table → Exactly (on_accept o (λ a. accepted (g a))) Table
answer_exactly o g Table h = exactly _ Table
    (λ f. let n = need_refused o (λ a. accepted (g a)) f in
    (λ e. ⊎_elim (h.refused_if f).0 (λ u. accepts _ f u.2) (n.0 e), λ t. n.1 (inl ((h.refused_if f).1 t))))

-- the rows are refused by the list's table, and else given
pub list_table : (work words : ℕ) (book rules query request : Bytes)
    → Exactly (list_rows work words book rules query request) (ListTable work words book rules query request)
unfolding list_rows
list_table work words book rules query request = answer_exactly (list_found work words book rules query request) (λ f. f.rows) _
    (found_table work words book rules query request)

-- the query writer refuses by its table, and else answers
pub writer_service_table : (work : ℕ) (buffer book rules query : Bytes)
    → Exactly (writer_service work buffer book rules query).answer (WriterTable work (length buffer) book rules query)
unfolding writer_service
writer_service_table work buffer book rules query = answer_exactly (writer_text work (length buffer) book rules query) length _
    (writer_table work (length buffer) book rules query)

-- the list refuses by its table, and else answers
pub list_service_table : (work words : ℕ) (book rules query request : Bytes)
    → Exactly (list_service work words book rules query request).answer (ListTable work words book rules query request)
unfolding list_service
list_service_table work words book rules query request = answer_exactly (list_found work words book rules query request)
    (λ f. record { rows = length f.rows; width = f.width }) _ (found_table work words book rules query request)

-- the lamp refuses by its table, and else answers
pub lamp_service_table : (work : ℕ) (book rules query request : Bytes)
    → Exactly (lamp_service work book rules query request).answer (LampTable work book rules query request)
unfolding lamp_service
lamp_service_table work book rules query request = answer_exactly (rows_asked work book rules query request) (λ f. not (is_nil f.rows)) _
    (rows_table work book rules query request)

-- an accepted list: these rows are found, and they fit
pub record ListGiven (work words : ℕ) (book rules query request : Bytes) (found : FoundRows) : Type 0 where
  pub found_rows : rows_asked work book rules query request ≡ accepted found
  pub fits : length found.rows * found.width ≤ words

-- a list that is accepted is so given
pub list_given : (work words : ℕ) (book rules query request : Bytes) (found : FoundRows) → list_found work words book rules query request ≡ accepted found
    → ListGiven work words book rules query request found
unfolding list_found refusal
list_given work words book rules query request found e =
    let a = accept_e (rows_asked work book rules query request) _ found e in
    let w = within words (length a.0.rows * a.0.width) (returned 14 5 0) (accepted a.0) found a.2 in
    let i = same_accepted a.0 found w.1 in
    record { found_rows = a.1 ∙ ap accepted i; fits = subst (λ (z : FoundRows). length z.rows * z.width ≤ words) i w.0 }

-- rows that are accepted are found
pub rows_found : (work words : ℕ) (book rules query request : Bytes) (rows : List (List ℕ)) → list_rows work words book rules query request ≡ accepted rows
    → (found : FoundRows) × Finding work book rules query request found × (rows ≡ found.rows)
unfolding list_rows
rows_found work words book rules query request rows e =
    let (found, f, d) = accept_e (list_found work words book rules query request) (λ f. accepted f.rows) rows e in
    let g = list_given work words book rules query request found f in
    (found, finding work book rules query request found g.found_rows, sym (same_accepted found.rows rows d))
