-- Laws of the clause table: a stored clause stands behind those there; the exclusions among a text's clauses. Assumes nothing.
use Prim.Native.Nat.{ℕ, ◌+◌, ◌*◌, ◌<◌, ◌≤◌}
use mathlib.Core.Path.{◌≡◌, refl, sym, ap, ap₂, subst, ◌∙◌}
use mathlib.Core.Logic.{◌≢◌, ◌⊎◌, ⊎_elim}
use mathlib.Core.List.{List, [], ◌∷◌, ◌++◌, map, append_assoc, append-nil}
use native.Mathlib.Numerals.{add-one}
use native.Mathlib.Omega.{arith}
use lib.ListN.{length, get_or, set, take, drop, length-set, length-append}
use lib.Seq.{get_or-set_same, get_or-set_other, take-suc, length-take-le}
use Rattle.logic.specs.Tests.{either, below_or_not}
use Rattle.model.specs.Bytes.{Bytes}
use Rattle.model.specs.Lists.{keep}
use Rattle.model.specs.Book.{Book}
use Rattle.model.specs.Weave.{is_excluded}
use Rattle.model.specs.Answers.{clause_in}
use Rattle.model.specs.declared.Condition.{Condition}
use Rattle.model.specs.declared.Condition.TheVariants.{Excluded, OfVertex, OfEdge}
use Rattle.model.specs.declared.Clause.{Clause as ClauseData}
use Rattle.book_tables.proofs.ListedLaws.{listed_more, listed_same, map_end}
use Rattle.woven_tables.specs.declared.clauses.ClauseWords.{ClauseWords}
use Rattle.woven_tables.specs.Tables.{text_of, clause_at, clauses_at, woven_words}
use Rattle.model.specs.PlainData.{no_clause}
use Rattle.woven_tables.specs.Steps.{KeptOutside}
use Rattle.woven_tables.specs.Reading.{what_of, high_of, low_of, ClauseInside, ClausesInside}
use Rattle.woven_tables.specs.ClauseSteps.{renumbered_clause, ClauseSaid, named_clause, ClausesAdded, one_if_excluded, ExclusionsCounted}
use Rattle.woven_tables.proofs.EdgeLaws.{maps_more}
use Rattle.woven_tables.proofs.Kept.{keep_append}

-- clauses that were there stay
pub clauses_same : (b : Book) (q r : Bytes) (old new : List ℕ) (n : ℕ) → ((i : ℕ) → 120 ≤ i → i < 120 + 3 * n → get_or new i 0 ≡ get_or old i 0)
    → clauses_at b q r new n ≡ clauses_at b q r old n
unfolding clauses_at
clauses_same b q r old new n f = listed_same _ _ n (λ i l.
    λ j. clause_at b q r (f (120 + 3 * i) (omega arith) (omega arith) j) (f (120 + 3 * i + 1) (omega arith) (omega arith) j)
    (f (120 + 3 * i + 2) (omega arith) (omega arith) j))

-- their text values end where they did
same_inside : (q r : Bytes) {w w' x x' y y' : ℕ} → w' ≡ w → x' ≡ x → y' ≡ y → ClauseInside q r w x y → ClauseInside q r w' x' y'
same_inside q r e f g h = rw (e, f, g) h

pub inside_same : (q r : Bytes) (old new : List ℕ) (n : ℕ) → ((i : ℕ) → 120 ≤ i → i < 120 + 3 * n → get_or new i 0 ≡ get_or old i 0)
    → ClausesInside q r old n → ClausesInside q r new n
inside_same q r old new n f h i l = same_inside q r (f (120 + 3 * i) (omega arith) (omega arith)) (f (120 + 3 * i + 1) (omega arith) (omega arith))
    (f (120 + 3 * i + 2) (omega arith) (omega arith)) (h i l)

module _ (words : List ℕ) (m w x y : ℕ) (room : m < 96) (size : woven_words ≤ length words) where
  at : ℕ
  at = 120 + 3 * m

  stored : List ℕ
  stored = set (set (set words (120 + 3 * m) w) (120 + 3 * m + 1) x) (120 + 3 * m + 2) y

  elsewhere : (i : ℕ) → i ≢ 120 + 3 * m → i ≢ 120 + 3 * m + 1 → i ≢ 120 + 3 * m + 2 → get_or stored i 0 ≡ get_or words i 0
  unfolding stored
  elsewhere i p q s =
      get_or-set_other (set (set words (120 + 3 * m) w) (120 + 3 * m + 1) x) (120 + 3 * m + 2) i y 0 s
      ∙ get_or-set_other (set words (120 + 3 * m) w) (120 + 3 * m + 1) i x 0 q ∙ get_or-set_other words (120 + 3 * m) i w 0 p

  -- its three words
  first : get_or stored (120 + 3 * m) 0 ≡ w
  unfolding stored
  first = get_or-set_other (set (set words (120 + 3 * m) w) (120 + 3 * m + 1) x) (120 + 3 * m + 2) (120 + 3 * m) y 0 (λ e. omega arith)
      ∙ get_or-set_other (set words (120 + 3 * m) w) (120 + 3 * m + 1) (120 + 3 * m) x 0 (λ e. omega arith)
      ∙ get_or-set_same words (120 + 3 * m) w 0 (omega arith)

  second : get_or stored (120 + 3 * m + 1) 0 ≡ x
  unfolding stored
  second = get_or-set_other (set (set words (120 + 3 * m) w) (120 + 3 * m + 1) x) (120 + 3 * m + 2) (120 + 3 * m + 1) y 0 (λ e. omega arith)
      ∙ get_or-set_same (set words (120 + 3 * m) w) (120 + 3 * m + 1) x 0 (omega (arith, length-set words (120 + 3 * m) w))

  third : get_or stored (120 + 3 * m + 2) 0 ≡ y
  unfolding stored
  third =
      let one = set words (120 + 3 * m) w in
      get_or-set_same (set one (120 + 3 * m + 1) x) (120 + 3 * m + 2) y 0
      (omega (arith, length-set words (120 + 3 * m) w, length-set one (120 + 3 * m + 1) x))

  pub clause_stored : (b : Book) (q r : Bytes)
      → clauses_at b q r (set (set (set words (120 + 3 * m) w) (120 + 3 * m + 1) x) (120 + 3 * m + 2) y) (m + 1)
      ≡ clauses_at b q r words m ++ (clause_at b q r w x y ∷ [])
  unfolding clauses_at stored
  clause_stored b q r =
      listed_more _ m
      ∙ ap₂ (λ xs z. xs ++ (z ∷ []))
      (clauses_same b q r words stored m (λ i l u. elsewhere i (λ e. omega arith) (λ e. omega arith) (λ e. omega arith)))
      (λ i. clause_at b q r (first i) (second i) (third i))

  pub clause_inside : (q r : Bytes) → ClausesInside q r words m → ClauseInside q r w x y
      → ClausesInside q r (set (set (set words (120 + 3 * m) w) (120 + 3 * m + 1) x) (120 + 3 * m + 2) y) (m + 1)
  unfolding stored
  clause_inside q r old own i l = either (below_or_not i m)
      (λ h. inside_same q r words stored m (λ i l u. elsewhere i (λ e. omega arith) (λ e. omega arith) (λ e. omega arith)) old i h)
      (λ h. let e : i ≡ m = omega arith in subst (λ n. ClauseInside q r (what_of stored n) (high_of stored n) (low_of stored n)) (sym e)
      (same_inside q r first second third own))

  pub clause_kept : KeptOutside 120 408 words (set (set (set words (120 + 3 * m) w) (120 + 3 * m + 1) x) (120 + 3 * m + 2) y)
  unfolding stored
  clause_kept i z = elsewhere i (λ e. ⊎_elim (λ y. omega arith) (λ y. omega arith) z) (λ e. ⊎_elim (λ y. omega arith) (λ y. omega arith) z)
      (λ e. ⊎_elim (λ y. omega arith) (λ y. omega arith) z)

-- the first i clauses of a text are woven
pub record ClausesSoFar (base k : ℕ) (clauses : List ClauseData) (i : ℕ) (numbers : List ℕ) (before : ℕ) (old new : List ℕ) (woven : ℕ) : Type 0 where
  pub size : length new ≡ length old
  pub added : ClausesAdded base k clauses i numbers before old new woven

pub clauses_start : (base k : ℕ) (clauses : List ClauseData) (numbers : List ℕ) (before : ℕ) (old : List ℕ) (woven : ℕ)
    → ClausesSoFar base k clauses 0 numbers before old old woven
clauses_start base k clauses numbers before old woven =
    let e : woven + 0 ≡ woven = omega arith in
    record {
      size = refl;
      added = record {
        clauses_are = λ b q r. ap (clauses_at b q r old) e
            ∙ sym (append-nil (clauses_at b q r old woven));
        inside = λ q r n h w old i l. old i (omega arith);
        kept = λ i z. refl;
      };
    }

pub clauses_more : (base k : ℕ) (clauses : List ClauseData) (i : ℕ) (numbers : List ℕ) (before : ℕ) (old words : List ℕ) (woven : ℕ) (out : ClauseWords)
    → ClausesSoFar base k clauses i numbers before old words woven
    → i < length clauses → woven + i < 96 → woven_words ≤ length words → ClauseSaid k base numbers before (get_or clauses i no_clause).condition out
    → ClausesSoFar base k clauses (i + 1) numbers before old
    (set (set (set words (120 + 3 * (woven + i)) out.what) (120 + 3 * (woven + i) + 1) out.high) (120 + 3 * (woven + i) + 2) out.low) woven
clauses_more base k clauses i numbers before old words woven out so_far more room size said =
    let e : woven + (i + 1) ≡ woven + i + 1 = omega arith in
    let at = 120 + 3 * (woven + i) in
    let one = set words at out.what in
    let two = set one (at + 1) out.high in
    record {
      size = length-set two (at + 2) out.low ∙ length-set one (at + 1) out.high ∙ length-set words at out.what ∙ so_far.size;
      added = record {
        clauses_are = λ b q r.
            let text = drop base (text_of q r k) in
            let given = map (renumbered_clause numbers before) (map (named_clause b text) (take i clauses)) in
            let own = renumbered_clause numbers before (named_clause b text (get_or clauses i no_clause)) in
            ap (clauses_at b q r (set two (at + 2) out.low)) e
            ∙ clause_stored words (woven + i) out.what out.high out.low room size b q r
            ∙ ap₂ (λ xs y. xs ++ (y ∷ [])) (so_far.added.clauses_are b q r) (said.is b q r)
            ∙ append_assoc (clauses_at b q r old woven) given (own ∷ [])
            ∙ ap (λ z. clauses_at b q r old woven ++ z) (sym (maps_more (renumbered_clause numbers before) (named_clause b text) clauses i no_clause more));
        inside = λ q r n h w before. subst (ClausesInside q r (set two (at + 2) out.low)) (sym e)
            (clause_inside words (woven + i) out.what out.high out.low room size q r
            (so_far.added.inside q r n h (λ j l. w j (omega arith)) before) (said.inside q r n h (w i (omega arith))));
        kept = λ j z. clause_kept words (woven + i) out.what out.high out.low room size j z ∙ so_far.added.kept j z;
      };
    }

-- whether a condition is an exclusion needs no book and no text
excluded_one_law : (b : Book) (text : Bytes) (c : Condition) → length (keep is_excluded (clause_in b text c ∷ [])) ≡ one_if_excluded c
unfolding keep is_excluded clause_in one_if_excluded
excluded_one_law b text (Excluded u v) = refl
excluded_one_law b text (OfVertex v x) = refl
excluded_one_law b text (OfEdge e x) = refl

pub one_at_most : (c : Condition) → one_if_excluded c ≤ 1
unfolding one_if_excluded
one_at_most (Excluded u v) = omega arith
one_at_most (OfVertex v x) = omega arith
one_at_most (OfEdge e x) = omega arith

pub counted_none : (clauses : List ClauseData) → ExclusionsCounted clauses 0 0
unfolding keep
counted_none clauses = record { some = omega arith; all = refl; exactly = λ b text. refl }

pub counted_more : (clauses : List ClauseData) (i n one : ℕ) → i < length clauses → one ≡ one_if_excluded (get_or clauses i no_clause).condition
    → ExclusionsCounted clauses i n → ExclusionsCounted clauses (i + 1) (n + one)
counted_more clauses i n one more e so_far = record {
  some = omega (arith, so_far.some, one_at_most (get_or clauses i no_clause).condition);
  all = length-take-le (i + 1) clauses (omega arith);
  exactly = λ b text.
      let first = map (named_clause b text) (take i clauses) in
      let own = named_clause b text (get_or clauses i no_clause) in
      let split : map (named_clause b text) (take (i + 1) clauses) ≡ first ++ (own ∷ []) = ap (λ n. map (named_clause b text) (take n clauses)) (add-one i)
      ∙ ap (map (named_clause b text)) (take-suc clauses i no_clause more) ∙ map_end (named_clause b text) (take i clauses) (get_or clauses i no_clause) in
      let both = ap (λ z. length (keep is_excluded z)) split ∙ ap length (keep_append is_excluded first (own ∷ []))
      ∙ length-append (keep is_excluded first) (keep is_excluded (own ∷ [])) in
      both ∙ ap₂ (λ x y. x + y) (so_far.exactly b text) (excluded_one_law b text (get_or clauses i no_clause).condition ∙ sym e);
}
