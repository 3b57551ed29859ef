-- Every refusal of every service is a row of the paper's table.
use Prim.Native.Nat.{ℕ, ◌≤◌}
use mathlib.Core.Path.{◌≡◌, refl, sym, subst}
use mathlib.Core.Logic.{⊎_elim}
use mathlib.Core.List.{List, [], ◌∷◌}
use native.Mathlib.Omega.{arith}
use lib.ListN.{length}
use Rattle.model.specs.Bytes.{Bytes, same}
use Rattle.model.specs.Choice.{just}
use Rattle.model.specs.Refusal.{Refusal, Row, refused, lowest}
use Rattle.model.specs.Lines.{bad_line, Line, lines_of, Step, fault}
use Rattle.model.specs.Book.{Book, empty_book}
use Rattle.model.specs.BookLines.{label, BookLine, vattr, eattr, node, rel}
use Rattle.model.specs.Names.{Name, same_but_case}
use Rattle.model.specs.ReadBook.{NamesAlike, name_fault, node_fault, rel_fault, line_fault, book_step, read_book_by, read_book}
use Rattle.model.specs.Renaming.{declared_at}
use Rattle.model.specs.ReadQuery.{query_fault, read_query}
use Rattle.model.specs.Rules.{Rules}
use Rattle.model.specs.ReadRules.{RulesLine, category, policy, rules_fault, rules_step, read_rules}
use Rattle.model.specs.Request.{request_fault, request_step, read_request}
use Rattle.model.specs.Graph.{Each}
use Rattle.model.specs.Service.{book_service, rules_service, query_service, request_service, writer_service, rename_service, list_service}
use Rattle.model.specs.Service.{tidy_service, lamp_service}
use Rattle.model.specs.RefusalTable.{IsText, LineOf, NameOn, FaultRow, TableRow, fault_row, memory_is_short, text_too_long, byte_not_allowed}
use Rattle.model.specs.RefusalTable.{grammar_broken}
use Rattle.model.specs.RefusalTable.{not_declared, second_time, not_of_the_type, passes_the_limit, excluded_from_itself, lacks_an_actor}
use Rattle.model.specs.RefusalTable.{has_no_policy, no_requestor, woven_limit_passed, vertex_not_tied, rows_exceed_words, written_too_long}
use Rattle.model.specs.RefusalTable.{book_exceeds_buffer, InTable, InTableBut14}
use Rattle.model.specs.Refused.{returned, BookTable, memory_short, in_book, RulesTable, book_first, in_rules, QueryTable, in_query}
use Rattle.model.specs.Refused.{RequestTable, rules_first, in_request, WriterTable, no_room, LampTable, in_woven, ListTable, lamp_first, woven}
use Rattle.model.specs.Refused.{RenameTable, stuck, TidyTable}
use Rattle.model.proofs.Members.{test, is_true, is_false}
use Rattle.model.proofs.Faults.{AtLine}
use Rattle.model.proofs.TextRefusals.{first_bad_byte, OfText, too_long_law, bad_byte, own, book_refused_by, book_line_fault, OfRules, at_line}
use Rattle.model.proofs.TextRefusals.{no_policy, rules_refused, rules_line_fault, OfQuery, broken, has_fault, query_refused, OfRequest}
use Rattle.model.proofs.TextRefusals.{no_line, second_line, request_refused, request_line_fault}
use Rattle.model.proofs.Refusals.{book_table, rules_table, query_table, request_table, writer_service_table, list_service_table}
use Rattle.model.proofs.Refusals.{lamp_service_table}
use Rattle.model.proofs.RenamingRefusals.{rename_service_table}
use Rattle.model.proofs.TidyRefusals.{tidy_service_table}
use Rattle.model.proofs.ListRefusals.{woven_number_law}

-- a refusal by its three numbers
no_room_row : {n t l : ℕ} {f : Refusal} → f ≡ returned n t l → TableRow n t l → InTable f
no_room_row e h = subst InTable (sym e) h

in_table : {n t l : ℕ} {f : Refusal} → f ≡ returned n t l → FaultRow n t l → InTableBut14 f
in_table e h = subst InTableBut14 (sym e) h

-- what holds of every number of a table of faults holds of the number that it gives
number_in : (P : ℕ → Type 0) (rows : List Row) (n : ℕ) → Each (λ r. P r.fault) rows → lowest rows ≡ just n → P n
unfolding lowest
number_in P [] n u e = let z : ◌≡◌ {A = ℕ} 0 1 = cc in absurd (omega arith)
number_in P (r ∷ rows) n u e = ⊎_elim
    (λ t. let d : r.fault ≡ n = cc (rw (is_true r.found t) at e) in subst P d u.0)
    (λ t. number_in P rows n u.1 (rw (is_false r.found t) at e))
    (test r.found)

-- the rows that a line of the book or of the rules can give
module _ (t l : ℕ) (from : 1 ≤ t) (to : t ≤ 2) (h : 1 ≤ l) where
  line_of : LineOf t l
  line_of = record { is_text = (from, omega arith); from_one = h; query_is_line_1 = λ e. absurd (omega arith) }

  name_on : NameOn t l
  name_on = record { line_of = line_of; request_is_line_1 = λ e. absurd (omega arith) }

  row_3 : FaultRow 3 t l
  row_3 = grammar_broken line_of (λ e. absurd (omega arith))

  row_4 : FaultRow 4 t l
  row_4 = not_declared name_on

  row_5 : FaultRow 5 t l
  row_5 = second_time name_on

  row_6 : FaultRow 6 t l
  row_6 = not_of_the_type line_of (omega arith)

  row_7 : FaultRow 7 t l
  row_7 = passes_the_limit line_of (omega arith)

-- the query's line, and the lines of a request
query_line : LineOf 3 1
query_line = record { is_text = (omega arith, omega arith); from_one = omega arith; query_is_line_1 = λ e. refl }

query_name : NameOn 3 1
query_name = record { line_of = query_line; request_is_line_1 = λ e. refl }

request_line_law : (l : ℕ) → 1 ≤ l → LineOf 4 l
request_line_law l h = record { is_text = (omega arith, omega arith); from_one = h; query_is_line_1 = λ e. absurd (omega arith) }

request_name : NameOn 4 1
request_name = record { line_of = request_line_law 1 (omega arith); request_is_line_1 = λ e. refl }

-- the line of the first byte not allowed is counted from 1
bad_from_one : (s : Bytes) (l : ℕ) → bad_line 1 s ≡ just l → 1 ≤ l
bad_from_one s l e = let h = (first_bad_byte 1 s l).0 e in omega (arith, h.at)

-- so is the line that declares a node
declared_from_one : (n : Name) (ls : List Line) → 1 ≤ declared_at n ls
unfolding declared_at
declared_from_one n ls = omega arith

-- a text's refusals are rows: 1, 2, and those of its own
text_row : {t limit : ℕ} {line : ℕ → ℕ} {s : Bytes} {Own : Refusal → Type 0} {f : Refusal}
    → IsText t → ((l : ℕ) → 1 ≤ l → LineOf t (line l)) → (Own f → InTableBut14 f) → OfText t limit line s Own f → InTableBut14 f
text_row is at h (too_long_law l e) = in_table e (text_too_long is)
text_row {s = s} is at h (bad_byte {l = k} l b e) = in_table e (byte_not_allowed (at k (bad_from_one s k b)))
text_row is at h (own l b u) = h u

-- a fault of the first line that has one is a row of its text
at_line_row : {S : Type 0} (t : ℕ) (step : S → Line → Step S) (x : S) (ls : List Line) (f : Refusal)
    → ((y : S) (k : Line) (n l : ℕ) → 1 ≤ l → step y k ≡ fault n → FaultRow n t l) → AtLine t step 1 x ls f → InTableBut14 f
at_line_row t step x ls f h u =
    let l : 1 ≤ f.line = omega (arith, u.at) in
    subst (λ (z : ℕ). FaultRow f.number z f.line) (sym u.of_text) (h u.known_before u.line f.number f.line l u.has_fault)

-- a fault of a book line is a row of text 1
book_row : (alike : NamesAlike) (b : Book) (x : BookLine) (n l : ℕ) → 1 ≤ l → line_fault alike b x ≡ just n → FaultRow n 1 l
unfolding line_fault name_fault node_fault rel_fault
book_row alike b x n l h e = go x e
  where
    In : ℕ → Type 0
    In n = FaultRow n 1 l

    name : In 5 × (In 7 × Unit {0})
    name = (row_5 1 l (omega arith) (omega arith) h, (row_7 1 l (omega arith) (omega arith) h, tt))

    entry : In 4 × (In 5 × (In 6 × (In 7 × Unit {0})))
    entry = (
      row_4 1 l (omega arith) (omega arith) h,
      (row_5 1 l (omega arith) (omega arith) h, (row_6 1 l (omega arith) (omega arith) h, (row_7 1 l (omega arith) (omega arith) h, tt))),
    )

    go : (x : BookLine) → line_fault alike b x ≡ just n → In n
    go (vattr m k) e = number_in In _ n name e
    go (eattr m k) e = number_in In _ n name e
    go (label m) e = number_in In _ n name e
    go (node m es) e = number_in In _ n entry e
    go (rel m x y es) e = number_in In _ n entry e

-- a refusal of the book is a row, by any rule for node names
book_in_table : (alike : NamesAlike) (s : Bytes) (f : Refusal) → read_book_by alike s ≡ refused f → InTableBut14 f
book_in_table alike s f e = text_row (omega arith, omega arith) (λ l h. line_of 1 l (omega arith) (omega arith) h)
    (at_line_row 1 (book_step alike) empty_book (lines_of s) f (λ b k n l h d. ⊎_elim
    (λ u. subst (λ (z : ℕ). FaultRow z 1 l) (sym u.1) (row_3 1 l (omega arith) (omega arith) h))
    (λ u. book_row alike b u.0 n l h u.2) ((book_line_fault alike b k n).0 d)))
    ((book_refused_by alike s f).0 e)

-- a fault of a rules line is a row of text 2
rules_row : (b : Book) (r : Rules) (x : RulesLine) (n l : ℕ) → 1 ≤ l → rules_fault b r x ≡ just n → FaultRow n 2 l
unfolding rules_fault
rules_row b r x n l h e = go x e
  where
    In : ℕ → Type 0
    In n = FaultRow n 2 l

    four : In 4
    four = row_4 2 l (omega arith) (omega arith) h

    five : In 5
    five = row_5 2 l (omega arith) (omega arith) h

    seven : In 7
    seven = row_7 2 l (omega arith) (omega arith) h

    go : (x : RulesLine) → rules_fault b r x ≡ just n → In n
    go (category m actors over) e = number_in In _ n (four, (five, (seven, (lacks_an_actor h, tt)))) e
    go (policy c bytes q) e = number_in In _ n (
      four,
      (
        five,
        (
          row_6 2 l (omega arith) (omega arith) h,
          (seven, (excluded_from_itself (line_of 2 l (omega arith) (omega arith) h) (omega arith) (omega arith), tt)),
        ),
      ),
    ) e

-- a refusal of the rules is a row
rules_in_table : (b : Book) (s : Bytes) (f : Refusal) → read_rules b s ≡ refused f → InTableBut14 f
rules_in_table b s f e = text_row (omega arith, omega arith) (λ l h. line_of 2 l (omega arith) (omega arith) h) go ((rules_refused b s f).0 e)
  where
    go : OfRules b (lines_of s) f → InTableBut14 f
    go (at_line u) = at_line_row 2 (rules_step b) _ (lines_of s) f (λ r k n l h d. ⊎_elim
        (λ v. subst (λ (z : ℕ). FaultRow z 2 l) (sym v.1) (row_3 2 l (omega arith) (omega arith) h))
        (λ v. rules_row b r v.0 n l h v.2) ((rules_line_fault b r k n).0 d)) u
    go (no_policy a m i h d) = in_table d has_no_policy

-- a refusal of the query is a row
query_in_table : (b : Book) (s : Bytes) (f : Refusal) → read_query b s ≡ refused f → InTableBut14 f
unfolding query_fault
query_in_table b s f e = text_row (omega arith, omega arith) (λ l h. query_line) go ((query_refused b s f).0 e)
  where
    rows : FaultRow 4 3 1 × (FaultRow 5 3 1 × (FaultRow 6 3 1 × (FaultRow 7 3 1 × (FaultRow 8 3 1 × Unit {0}))))
    rows = (
      not_declared query_name,
      (
        second_time query_name,
        (
          not_of_the_type query_line (omega arith),
          (passes_the_limit query_line (omega arith), (excluded_from_itself query_line (omega arith) (omega arith), tt)),
        ),
      ),
    )

    go : OfQuery b s f → InTableBut14 f
    go (broken d e) = in_table e (grammar_broken query_line (λ z. absurd (omega arith)))
    go (has_fault {n = n} d k e) = in_table e (number_in (λ n. FaultRow n 3 1) _ n rows k)

-- a refusal of the request is a row
request_in_table : (b : Book) (r : Rules) (s : Bytes) (f : Refusal) → read_request b r s ≡ refused f → InTableBut14 f
unfolding request_fault
request_in_table b r s f e = text_row (omega arith, omega arith) request_line_law go ((request_refused b r s f).0 e)
  where
    rows : FaultRow 4 4 1 × (FaultRow 5 4 1 × (FaultRow 11 4 1 × Unit {0}))
    rows = (not_declared request_name, (second_time request_name, (no_requestor, tt)))

    line : (n : ℕ) (l : Line) → request_step b r l ≡ fault n → FaultRow n 4 1
    line n l d = ⊎_elim
        (λ v. subst (λ (z : ℕ). FaultRow z 4 1) (sym v.1) (grammar_broken (request_line_law 1 (omega arith)) (λ z. omega arith)))
        (λ v. number_in (λ n. FaultRow n 4 1) _ n rows v.2) ((request_line_fault b r l n).0 d)

    go : OfRequest b r (lines_of s) f → InTableBut14 f
    go (no_line d e) = in_table e (grammar_broken (request_line_law 1 (omega arith)) (λ z. omega arith))
    go (at_line {l = l} {n = n} d k e) = in_table e (line n l k)
    go (second_line d k e) = in_table e (grammar_broken (request_line_law 2 (omega arith)) (λ z. omega arith))

book_rows : (work : ℕ) (book : Bytes) (f : Refusal) → BookTable work book f → InTableBut14 f
unfolding read_book
book_rows work book f (memory_short l e) = in_table e memory_is_short
book_rows work book f (in_book l e) = book_in_table same_but_case book f e

rules_rows : (work : ℕ) (book rules : Bytes) (f : Refusal) → RulesTable work book rules f → InTableBut14 f
rules_rows work book rules f (book_first t) = book_rows work book f t
rules_rows work book rules f (in_rules {b} u e) = rules_in_table b rules f e

-- if the book reader refuses, then with a row of the table
pub book_refuses_by_the_table : (work : ℕ) (book : Bytes) (f : Refusal) → (book_service work book).answer ≡ refused f → InTable f
book_refuses_by_the_table work book f e = fault_row (book_rows work book f (((book_table work book).refused_if f).0 e))

-- so does the rules reader
pub rules_refuse_by_the_table : (work : ℕ) (book rules : Bytes) (f : Refusal) → (rules_service work book rules).answer ≡ refused f → InTable f
rules_refuse_by_the_table work book rules f e = fault_row (rules_rows work book rules f (((rules_table work book rules).refused_if f).0 e))

-- so does the query reader
pub query_refuses_by_the_table : (work : ℕ) (book query : Bytes) (f : Refusal) → (query_service work book query).answer ≡ refused f → InTable f
query_refuses_by_the_table work book query f e = go (((query_table work book query).refused_if f).0 e)
  where
    go : QueryTable work book query f → InTable f
    go (book_first t) = fault_row (book_rows work book f t)
    go (in_query {b} u d) = fault_row (query_in_table b query f d)

-- so does the request reader
pub request_refuses_by_the_table : (work : ℕ) (book rules request : Bytes)
    (f : Refusal) → (request_service work book rules request).answer ≡ refused f → InTable f
request_refuses_by_the_table work book rules request f e = go (((request_table work book rules request).refused_if f).0 e)
  where
    go : RequestTable work book rules request f → InTable f
    go (rules_first t) = fault_row (rules_rows work book rules f t)
    go (in_request {b} {r} u d) = fault_row (request_in_table b r request f d)

-- so does the query writer
pub writer_refuses_by_the_table : (work : ℕ) (buffer book rules query : Bytes)
    (f : Refusal) → (writer_service work buffer book rules query).answer ≡ refused f → InTable f
writer_refuses_by_the_table work buffer book rules query f e = go (((writer_service_table work buffer book rules query).refused_if f).0 e)
  where
    go : WriterTable work (length buffer) book rules query f → InTable f
    go (rules_first t) = fault_row (rules_rows work book rules f t)
    go (in_query {b} u d) = fault_row (query_in_table b query f d)
    go (no_room u d l g) = no_room_row g written_too_long

-- so does the renaming
pub rename_refuses_by_the_table : (work : ℕ) (buffer book : Bytes) (f : Refusal) → (rename_service work buffer book).answer ≡ refused f → InTable f
rename_refuses_by_the_table work buffer book f e = go (((rename_service_table work buffer book).refused_if f).0 e)
  where
    go : RenameTable work (length buffer) book f → InTable f
    go (memory_short l d) = fault_row (in_table d memory_is_short)
    go (in_book l d) = fault_row (book_in_table same book f d)
    go (stuck {n = n} l r k d) =
        fault_row (in_table d (row_5 1 (declared_at n (lines_of book)) (omega arith) (omega arith) (declared_from_one n (lines_of book))))
    go (no_room l r o d) = no_room_row d book_exceeds_buffer

-- so does the tidy book
pub tidy_refuses_by_the_table : (work : ℕ) (buffer book : Bytes) (f : Refusal) → (tidy_service work buffer book).answer ≡ refused f → InTable f
tidy_refuses_by_the_table work buffer book f e = go (((tidy_service_table work buffer book).refused_if f).0 e)
  where
    go : TidyTable work (length buffer) book f → InTable f
    go (book_first t) = fault_row (book_rows work book f t)
    go (no_room u o d) = no_room_row d book_exceeds_buffer

lamp_rows : (work : ℕ) (book rules query request : Bytes) (f : Refusal) → LampTable work book rules query request f → InTableBut14 f
lamp_rows work book rules query request f (rules_first t) = rules_rows work book rules f t
lamp_rows work book rules query request f (in_query {b} u d) = query_in_table b query f d
lamp_rows work book rules query request f (in_request {b} {r} u q d) = request_in_table b r request f d
lamp_rows work book rules query request f (in_woven {r = r} {q = q} {x = x} {n = n} a d g) = in_table g (⊎_elim
    (λ z. subst (λ (k : ℕ). FaultRow k 5 0) (sym z) woven_limit_passed) (λ z. subst (λ (k : ℕ). FaultRow k 5 0) (sym z) vertex_not_tied)
    (woven_number_law (woven r q x) x.identities n d))

-- so does the lamp, and never with 14
pub lamp_refuses_by_the_table : (work : ℕ) (book rules query request : Bytes)
    (f : Refusal) → (lamp_service work book rules query request).answer ≡ refused f → InTableBut14 f
lamp_refuses_by_the_table work book rules query request f e =
    lamp_rows work book rules query request f (((lamp_service_table work book rules query request).refused_if f).0 e)

-- and so does the list
pub list_refuses_by_the_table : (work words : ℕ) (book rules query request : Bytes)
    (f : Refusal) → (list_service work words book rules query request).answer ≡ refused f → InTable f
list_refuses_by_the_table work words book rules query request f e = go (((list_service_table work words book rules query request).refused_if f).0 e)
  where
    go : ListTable work words book rules query request f → InTable f
    go (lamp_first t) = fault_row (lamp_rows work book rules query request f t)
    go (no_room a n l g) = no_room_row g rows_exceed_words
