-- Within a text the refusal given is the first there is: too long, a byte not allowed, then lines upwards, and on a line the lowest number.
use Prim.Native.Nat.{ℕ, ◌+◌, ◌<◌, ◌≤◌}
use mathlib.Core.Path.{◌≡◌, refl, sym, ap, subst, ◌∙◌}
use mathlib.Core.Logic.{◌⊎◌, inl, inr, ⊎_elim, ◌↔◌}
use mathlib.Core.List.{List, [], ◌∷◌, ◌++◌}
use native.Mathlib.Omega.{arith}
use lib.ListN.{length}
use lib.Dec.{T, ltb, ltb→lt, lt→ltb, nltb→le, not_T}
use Rattle.model.specs.Choice.{pick, Maybe, nothing, just}
use Rattle.model.specs.Refusal.{Refusal, Outcome, accepted, refused, on_accept, refusal, refused_if, Row, lowest}
use Rattle.model.specs.Lines.{Line, Step, fault, known, step_then, read_lines, fault_or, form_step}
use Rattle.model.specs.Graph.{Each}
pub use Rattle.model.specs.Refused.{returned}
use Rattle.model.proofs.Members.{test, is_true, is_false, each_e, each_i}
use Rattle.model.proofs.Pairwise.{Pairwise}
use Rattle.model.proofs.Outcomes.{never}

refused_is : {A : Type 0} (f g : Refusal) → (◌≡◌ {A = Outcome A} (refused g) (refused f)) ↔ (f ≡ g)
refused_is f g = (λ e. cc, λ e. ap refused (sym e))

-- refused if n is over m, then what else there is
pub over_refused : {A : Type 0} (m n : ℕ) (g : Refusal) (o : Outcome A) (f : Refusal)
    → (pick (ltb m n) (refused g) o ≡ refused f) ↔ (((m < n) × (f ≡ g)) ⊎ ((n ≤ m) × (o ≡ refused f)))
over_refused {A} m n g o f = ⊎_elim
    (λ t. let l = ltb→lt m n t in rw (is_true (ltb m n) t)
    (λ e. inl (l, (refused_is {A = A} f g).0 e), λ u. ⊎_elim (λ h. (refused_is f g).1 h.1) (λ h. absurd (omega arith)) u))
    (λ t. rw (is_false (ltb m n) t) (λ e. inr (nltb→le m n (not_T (ltb m n) t), e), λ u. ⊎_elim (λ h. absurd (t (lt→ltb m n h.0))) (λ h. h.1) u))
    (test (ltb m n))

-- refused if a number is there, then what else there is
pub number_refused : {A : Type 0} (m : Maybe ℕ) (t l : ℕ) (o : Outcome A) (f : Refusal)
    → (refused_if m t l o ≡ refused f) ↔ (((n : ℕ) × (m ≡ just n) × (f ≡ returned n t l)) ⊎ ((m ≡ nothing) × (o ≡ refused f)))
unfolding refused_if refusal
number_refused nothing t l o f = (λ e. inr (refl, e), λ u. ⊎_elim (λ h. let z : ◌≡◌ {A = ℕ} 0 1 = cc h.1 in absurd (omega arith)) (λ h. h.1) u)
number_refused {A} (just n) t l o f = (
  λ e. inl (n, refl, (refused_is {A = A} f (returned n t l)).0 e),
  λ u. ⊎_elim (λ h. let d : n ≡ h.0 = cc h.1 in rw d ((refused_is f (returned h.0 t l)).1 h.2))
      (λ h. let z : ◌≡◌ {A = ℕ} 0 1 = cc h.0 in absurd (omega arith)) u,
)

-- refused if what is needed is refused, then what else there is
pub need_refused : {A B : Type 0} (o : Outcome A) (g : A → Outcome B) (f : Refusal)
    → (on_accept o g ≡ refused f) ↔ ((o ≡ refused f) ⊎ ((a : A) × (o ≡ accepted a) × (g a ≡ refused f)))
unfolding on_accept
need_refused (accepted a) g f = (
  λ e. inr (a, refl, e),
  λ u. ⊎_elim (λ h. let z : ◌≡◌ {A = ℕ} 0 1 = cc in absurd (omega arith))
      (λ h. let d : a ≡ h.0 = cc h.1 in rw d h.2) u,
)
need_refused {A} {B} (refused r) g f = (
  λ e. inl ((refused_is {A = A} f r).1 ((refused_is {A = B} f r).0 e)),
  λ u. ⊎_elim (λ h. (refused_is f r).1 ((refused_is {A = A} f r).0 h)) (λ h. let z : ◌≡◌ {A = ℕ} 0 1 = cc h.1 in absurd (omega arith)) u,
)

-- a row of a table is not found
abbrev pub NotFound : Row → Type 0
NotFound r = T r.found → ⊥

-- n is the number of the first row found in a table
pub record FirstFound (rows : List Row) (n : ℕ) : Type 0 where
  pub earlier : List Row
  pub row : Row
  pub later : List Row
  pub stands : rows ≡ earlier ++ (row ∷ later)
  pub none_earlier : Each NotFound earlier
  pub is_found : T row.found
  pub number : row.fault ≡ n

-- a table gives no number exactly if no row is found
pub lowest_none : (rows : List Row) → (lowest rows ≡ nothing) ↔ Each NotFound rows
unfolding lowest
lowest_none [] = (λ e. tt, λ u. refl)
lowest_none (r ∷ rows) = ⊎_elim
    (λ t. (λ e. let d = rw (is_true r.found t) at e in let z : ◌≡◌ {A = ℕ} 0 1 = cc in absurd (omega arith), λ u. absurd (u.0 t)))
    (λ t. rw (is_false r.found t) (λ e. (λ z. z, (lowest_none rows).0 e), λ u. (lowest_none rows).1 u.1))
    (test r.found)

-- a table gives the number of the first row found
pub lowest_first : (rows : List Row) (n : ℕ) → (lowest rows ≡ just n) ↔ FirstFound rows n
unfolding lowest
lowest_first rows n = (
  first rows,
  λ h. subst (λ z. lowest z ≡ just n) (sym h.stands)
      (back h.earlier h.row h.later h.none_earlier h.is_found ∙ ap just h.number),
)
  where
    first : (rows : List Row) → lowest rows ≡ just n → FirstFound rows n
    first [] e = let z : ◌≡◌ {A = ℕ} 0 1 = cc in absurd (omega arith)
    first (r ∷ rows) e = ⊎_elim
        (λ t. let d : r.fault ≡ n = cc (rw (is_true r.found t) at e) in
        record { earlier = []; row = r; later = rows; stands = refl; none_earlier = tt; is_found = t; number = d })
        (λ t. let h = first rows (rw (is_false r.found t) at e) in
        record {
          earlier = r ∷ h.earlier;
          row = h.row;
          later = h.later;
          stands = ap (λ z. r ∷ z) h.stands;
          none_earlier =
              (t, h.none_earlier);
          is_found = h.is_found;
          number = h.number;
        })
        (test r.found)

    back : (earlier : List Row) (r : Row) (later : List Row) → Each NotFound earlier → T r.found → lowest (earlier ++ (r ∷ later)) ≡ just r.fault
    back [] r later u t = rw (is_true r.found t) refl
    back (q ∷ earlier) r later u t = rw (is_false q.found u.0) (back earlier r later u.1 t)

-- in a table whose numbers ascend it is the lowest number found
pub lowest_is_lowest : (rows : List Row) → Pairwise (λ r s. r.fault < s.fault) rows → (n : ℕ) → lowest rows ≡ just n
    → Each (λ r. T r.found → n ≤ r.fault) rows
unfolding lowest
lowest_is_lowest [] u n e = tt
lowest_is_lowest (r ∷ rows) u n e = ⊎_elim
    (λ t. let d : r.fault ≡ n = cc (rw (is_true r.found t) at e) in
    (λ z. omega arith, each_i (λ s. T s.found → n ≤ s.fault) rows (λ s m z. let l = each_e (λ s. r.fault < s.fault) rows u.0 s m in omega arith)))
    (λ t. (λ z. absurd (t z), lowest_is_lowest rows u.1 n (rw (is_false r.found t) at e)))
    (test r.found)

-- a line's fault: its form breaks the grammar (3), or its table gives the number
pub step_fault : {S L : Type 0} (form : Maybe L) (table : L → Maybe ℕ) (after : L → S) (n : ℕ)
    → (form_step form (λ x. fault_or (table x) (after x)) ≡ fault n) ↔ (((form ≡ nothing) × (n ≡ 3)) ⊎ ((x : L) × (form ≡ just x) × (table x ≡ just n)))
unfolding form_step fault_or
step_fault {S} {L} nothing table after n =
    (λ e. inl (refl, cc), λ u. ⊎_elim (λ h. ap fault (sym h.1)) (λ h. let z : ◌≡◌ {A = ℕ} 0 1 = cc h.1 in absurd (omega arith)) u)
step_fault {S} {L} (just l) table after n = (
  λ e. inr (l, refl, go (table l) e),
  λ u. ⊎_elim (λ h. let z : ◌≡◌ {A = ℕ} 0 1 = cc h.0 in absurd (omega arith))
      (λ h. let d : l ≡ h.0 = cc h.1 in let g : table l ≡ just n = ap table d ∙ h.2 in rw g refl) u,
)
  where
    go : (m : Maybe ℕ) → fault_or m (after l) ≡ fault n → m ≡ just n
    go nothing e = let z : ◌≡◌ {A = ℕ} 0 1 = cc in absurd (omega arith)
    go (just k) e = let d : k ≡ n = cc in ap just d

-- a line is accepted exactly if its form is kept and its table gives no number
pub step_known : {S L : Type 0} (form : Maybe L) (table : L → Maybe ℕ) (after : L → S) (y : S)
    → (form_step form (λ x. fault_or (table x) (after x)) ≡ known y) ↔ ((x : L) × (form ≡ just x) × (table x ≡ nothing) × (after x ≡ y))
unfolding form_step fault_or
step_known {S} {L} nothing table after y =
    (λ e. let z : ◌≡◌ {A = ℕ} 0 1 = cc in absurd (omega arith), λ h. let z : ◌≡◌ {A = ℕ} 0 1 = cc h.1 in absurd (omega arith))
step_known {S} {L} (just l) table after y = (λ e. let h = go (table l) e in (l, refl, h.0, h.1), λ h. let d : l ≡ h.0 = cc h.1 in rw (d, h.2, h.3) refl)
  where
    go : (m : Maybe ℕ) → fault_or m (after l) ≡ known y → (m ≡ nothing) × (after l ≡ y)
    go nothing e = (refl, cc)
    go (just k) e = let z : ◌≡◌ {A = ℕ} 0 1 = cc in absurd (omega arith)

-- a refusal of lines upwards from the nth: every line before was accepted, and this one has the fault
pub record AtLine {S : Type 0} (t : ℕ) (step : S → Line → Step S) (n : ℕ) (x : S) (ls : List Line) (f : Refusal) : Type 0 where
  pub earlier : List Line
  pub line : Line
  pub later : List Line
  pub known_before : S
  pub stands : ls ≡ earlier ++ (line ∷ later)
  pub earlier_accepted : read_lines t step n x earlier ≡ accepted known_before
  pub has_fault : step known_before line ≡ fault f.number
  pub of_text : f.text ≡ t
  pub at : f.line ≡ n + length earlier

-- lines are refused exactly at the first that has a fault
pub first_line_law : {S : Type 0} (t : ℕ) (step : S → Line → Step S) (n : ℕ) (x : S) (ls : List Line) (f : Refusal)
    → (read_lines t step n x ls ≡ refused f) ↔ AtLine t step n x ls f
unfolding read_lines step_then refusal
first_line_law {S} t step n x ls f = (
  first n x ls,
  λ h. subst (λ z. read_lines t step n x z ≡ refused f) (sym h.stands)
      (back n x h.earlier h.line h.later h.known_before h.earlier_accepted h.has_fault h.of_text h.at),
)
  where
    first : (n : ℕ) (x : S) (ls : List Line) → read_lines t step n x ls ≡ refused f → AtLine t step n x ls f
    first n x [] e = let z : ◌≡◌ {A = ℕ} 0 1 = cc in absurd (omega arith)
    first n x (l ∷ ls) e = go (step x l) refl (λ y d. first (n + 1) y ls d) e
      where
        go : (s : Step S) → step x l ≡ s → ((y : S) → read_lines t step (n + 1) y ls ≡ refused f → AtLine t step (n + 1) y ls f)
            → step_then s t n (λ y. read_lines t step (n + 1) y ls) ≡ refused f → AtLine t step n x (l ∷ ls) f
        go (fault k) d ih e = let g : returned k t n ≡ f = cc in record {
          earlier = [];
          line = l;
          later = ls;
          known_before = x;
          stands = refl;
          earlier_accepted = refl;
          has_fault = d ∙ ap (λ (z : Refusal). fault z.number) g;
          of_text = sym (ap (λ (z : Refusal). z.text) g);
          at = sym (ap (λ (z : Refusal). z.line) g) ∙ omega arith;
        }
        go (known y) d ih e = let h = ih y e in record {
          earlier = l ∷ h.earlier;
          line = h.line;
          later = h.later;
          known_before = h.known_before;
          stands = ap (λ z. l ∷ z) h.stands;
          earlier_accepted = rw d h.earlier_accepted;
          has_fault = h.has_fault;
          of_text = h.of_text;
          at = h.at ∙ omega arith;
        }

    back : (n : ℕ) (x : S) (earlier : List Line) (l : Line) (later : List Line) (y : S) → read_lines t step n x earlier ≡ accepted y
        → step y l ≡ fault f.number → f.text ≡ t → f.line ≡ n + length earlier
        → read_lines t step n x (earlier ++ (l ∷ later)) ≡ refused f
    back n x [] l later y a h d e = let g : x ≡ y = cc in let i : n ≡ f.line = omega arith in rw (g, h, i, ← d) refl
    back n x (k ∷ earlier) l later y a h d e = go (step x k) refl a (λ z b. back (n + 1) z earlier l later y b h d (omega arith))
      where
        go : (s : Step S) → step x k ≡ s → step_then s t n (λ z. read_lines t step (n + 1) z earlier) ≡ accepted y
            → ((z : S) → read_lines t step (n + 1) z earlier ≡ accepted y → read_lines t step (n + 1) z (earlier ++ (l ∷ later)) ≡ refused f)
            → step_then (step x k) t n (λ z. read_lines t step (n + 1) z (earlier ++ (l ∷ later))) ≡ refused f
        go (fault m) b a ih = never _ y a
        go (known z) b a ih = rw b (ih z a)
