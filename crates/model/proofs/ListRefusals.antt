-- The rows 12, 13, 14 and 15 of the table, each given exactly if its own condition holds: limits passed, a vertex not tied, rows that do not fit, memory short.
use Prim.Native.Nat.{ℕ, ◌<◌, ◌*◌}
use mathlib.Core.Path.{◌≡◌, refl, sym, ap, subst, ◌∙◌}
use mathlib.Core.Logic.{◌⊎◌, inl, inr, ⊎_elim, ◌↔◌}
use mathlib.Core.List.Memᴰ
use mathlib.Core.List.{List, [], ◌∷◌}
use mathlib.Core.Bool.{Bool, true, false, not}
use native.Mathlib.Omega.{arith}
use lib.ListN.{length}
use lib.Dec.{T}
use Rattle.model.specs.Bytes.{Bytes}
use Rattle.model.specs.Choice.{pick, Maybe, nothing, just}
use Rattle.model.specs.Lists.{all, memℕ, below}
use Rattle.model.specs.Refusal.{Refusal, refused, lowest}
use Rattle.model.specs.Book.{Book}
use Rattle.model.specs.QueryText.{QueryText}
use Rattle.model.specs.Rules.{Rules}
use Rattle.model.specs.Request.{Identity, Request}
use Rattle.model.specs.Weave.{woven_too_many, tied, woven_fault, WovenPattern}
use Rattle.model.specs.Service.{list_found}
use Rattle.model.proofs.Decides.{pick_iff}
use Rattle.model.proofs.Members.{◌∈◌, test, below_i, below_e}
use Rattle.model.proofs.TextRefusals.{book_is_text_1, rules_are_text_2, query_is_text_3, request_is_text_4}
use Rattle.model.proofs.Refusals.{found_table}
use Rattle.model.proofs.Tied.{tied_by_path, memℕ-e, memℕ-i}
use Rattle.model.specs.Tied.{Untied}
use Rattle.model.specs.Refused.{returned, Exactly, memory_short, in_book, book_first, in_rules, AllRead, ListTable, rules_first, in_query}
use Rattle.model.specs.Refused.{in_request, in_woven, lamp_first, no_room, woven, woven_number, rows_for}

-- a test that does not hold everywhere fails somewhere
fails_somewhere : {A : Type 0} (p : A → Bool) (l : List A) → (T (all p l) → ⊥) → (x : A) × (x ∈ l) × (T (p x) → ⊥)
unfolding all
fails_somewhere p [] h = absurd (h tt)
fails_somewhere p (x ∷ l) h = ⊎_elim
    (λ t. let r = fails_somewhere p l (λ u. h ((pick_iff (p x) (all p l)).0 (t, u))) in (r.0, Memᴰ.tail r.1, r.2))
    (λ t. (x, Memᴰ.head refl, t)) (test (p x))

fails_not_all : {A : Type 0} (p : A → Bool) (l : List A) (x : A) → x ∈ l → (T (p x) → ⊥) → T (all p l) → ⊥
unfolding all
fails_not_all p [] x m h t = elim m [ ]
fails_not_all p (y ∷ l) x m h t = let u = (pick_iff (p y) (all p l)).1 t in
    ⊎_elim (λ e. h (subst (λ z. T (p z)) (sym e) u.0)) (λ n. fails_not_all p l x n h u.1) (mathlib.Core.List.Memᴰ.cases_cons m)

-- the number given where limits are passed or not, and every vertex is tied or not
abbrev number : Bool → Bool → Maybe ℕ
number a c = pick a (just 12) (pick (not c) (just 13) nothing)

module _ (p : WovenPattern) (ids : List Identity) where
  -- the test that every vertex is tied
  abbrev every_tied : Bool
  every_tied = all (λ v. memℕ v (tied p ids)) (below (length p.vertices))

  untied : (T every_tied → ⊥) ↔ Untied p ids
  untied = (
    λ h. let r = fails_somewhere (λ v. memℕ v (tied p ids)) (below (length p.vertices)) h in
        (r.0, below_e (length p.vertices) r.0 r.1, λ t. r.2 (memℕ-i r.0 (tied p ids) ((tied_by_path p ids r.0).1 t))),
    λ u. fails_not_all (λ v. memℕ v (tied p ids)) (below (length p.vertices)) u.0 (below_i (length p.vertices) u.0 u.1)
        (λ t. u.2 ((tied_by_path p ids u.0).0 (memℕ-e u.0 (tied p ids) t))),
  )

  -- 12 exactly if a woven limit is passed
  pub woven_12 : (woven_fault p ids ≡ just 12) ↔ T (woven_too_many p)
  unfolding woven_fault lowest
  woven_12 = go (woven_too_many p) every_tied
    where
      go : (a c : Bool) → (number a c ≡ just 12) ↔ T a
      go true c = (λ e. tt, λ t. refl)
      go false true = (λ e. let z : ◌≡◌ {A = ℕ} 0 1 = cc in absurd (omega arith), λ t. absurd t)
      go false false = (λ e. let z : ◌≡◌ {A = ℕ} 13 12 = cc in absurd (omega arith), λ t. absurd t)

  -- 13 exactly if none is and some woven vertex is not tied to an identity
  pub woven_13 : (woven_fault p ids ≡ just 13) ↔ ((T (woven_too_many p) → ⊥) × Untied p ids)
  unfolding woven_fault lowest
  woven_13 = let r = go (woven_too_many p) every_tied in (λ e. let u = r.0 e in (u.0, untied.0 u.1), λ u. r.1 (u.0, untied.1 u.1))
    where
      go : (a c : Bool) → (number a c ≡ just 13) ↔ ((T a → ⊥) × (T c → ⊥))
      go true c = (λ e. let z : ◌≡◌ {A = ℕ} 12 13 = cc in absurd (omega arith), λ u. absurd (u.0 tt))
      go false true = (λ e. let z : ◌≡◌ {A = ℕ} 0 1 = cc in absurd (omega arith), λ u. absurd (u.1 tt))
      go false false = (λ e. (λ t. t, λ t. t), λ u. refl)

  -- no other number
  pub woven_number_law : (n : ℕ) → woven_fault p ids ≡ just n → (n ≡ 12) ⊎ (n ≡ 13)
  unfolding woven_fault lowest
  woven_number_law n e = go (woven_too_many p) every_tied e
    where
      go : (a c : Bool) → number a c ≡ just n → (n ≡ 12) ⊎ (n ≡ 13)
      go true c e = inl (cc)
      go false true e = let z : ◌≡◌ {A = ℕ} 0 1 = cc in absurd (omega arith)
      go false false e = inr (cc)

module _ (work words : ℕ) (book rules query request : Bytes) where
  -- all four texts are read, and this holds of what they say
  abbrev pub ReadAnd : (Book → Rules → QueryText → Request → Type 0) → Type 0
  ReadAnd P = (b : Book) × (r : Rules) × (q : QueryText) × (x : Request) × AllRead work book rules query request b r q x × P b r q x

  -- rows times Return names exceed the words
  abbrev pub TooFewWords : Book → Rules → QueryText → Request → Type 0
  TooFewWords b r q x = words < length (rows_for b r q x) * length q.returns

  table : Exactly (list_found work words book rules query request) (ListTable work words book rules query request)
  table = found_table work words book rules query request

  -- a refusal that names no text, or text 5, comes before the texts, or behind them
  behind : (f : Refusal) → ListTable work words book rules query request f
      → ((f.text ≡ 0) → work < 16384) × ((f.text ≡ 5)
      → ReadAnd (λ b r q x. (woven_number r q x ≡ just f.number) ⊎ ((f.number ≡ 14) × (woven_number r q x ≡ nothing) × TooFewWords b r q x)))
  behind f (lamp_first (rules_first (book_first (memory_short l e)))) = (λ z. l, λ z. let d : f.text ≡ 0 = ap (λ z. z.text) e in absurd (omega arith))
  behind f (lamp_first (rules_first (book_first (in_book l e)))) = let d = book_is_text_1 book f e in (λ z. absurd (omega arith), λ z. absurd (omega arith))
  behind f (lamp_first (rules_first (in_rules {b} u e))) = let d = rules_are_text_2 b rules f e in (λ z. absurd (omega arith), λ z. absurd (omega arith))
  behind f (lamp_first (in_query {b} u e)) = let d = query_is_text_3 b query f e in (λ z. absurd (omega arith), λ z. absurd (omega arith))
  behind f (lamp_first (in_request {b} {r} u q e)) = let d = request_is_text_4 b r request f e in (λ z. absurd (omega arith), λ z. absurd (omega arith))
  behind f (lamp_first (in_woven {b} {r} {q} {x} a n e)) = let d : f.text ≡ 5 = ap (λ z. z.text) e in
      (λ z. absurd (omega arith), λ z. (b, r, q, x, a, inl (n ∙ ap (λ z. just z.number) (sym e))))
  behind f (no_room {b} {r} {q} {x} a n l e) = let d : f.text ≡ 5 = ap (λ z. z.text) e in
      (λ z. absurd (omega arith), λ z. (b, r, q, x, a, inr (ap (λ z. z.number) e, n, l)))

  -- 15 exactly if working memory is under 16,384 words
  pub found_15 : (list_found work words book rules query request ≡ refused (returned 15 0 0)) ↔ (work < 16384)
  found_15 = (
    λ e. (behind (returned 15 0 0) ((table.refused_if (returned 15 0 0)).0 e)).0 refl,
    λ l. (table.refused_if (returned 15 0 0)).1
        (lamp_first (rules_first (book_first (memory_short l refl)))),
  )

  -- 12 exactly if the texts are read and a woven limit is passed
  pub found_12 : (list_found work words book rules query request ≡ refused (returned 12 5 0)) ↔ ReadAnd (λ b r q x. T (woven_too_many (woven r q x)))
  found_12 = (
    λ e. let (b, r, q, x, a, u) = (behind (returned 12 5 0) ((table.refused_if (returned 12 5 0)).0 e)).1 refl in
        (b, r, q, x, a, (woven_12 (woven r q x) x.identities).0 (⊎_elim (λ n. n) (λ n. let z : ◌≡◌ {A = ℕ} 12 14 = n.0 in absurd (omega arith)) u)),
    λ u. (table.refused_if (returned 12 5 0)).1 (lamp_first (in_woven u.4 ((woven_12 (woven u.1 u.2 u.3) u.3.identities).1 u.5) refl)),
  )

  -- 13 exactly if no limit is passed and a woven vertex is not tied to an identity
  pub found_13 : (list_found work words book rules query request ≡ refused (returned 13 5 0)) ↔ ReadAnd
      (λ b r q x. (T (woven_too_many (woven r q x)) → ⊥) × Untied (woven r q x) x.identities)
  found_13 = (
    λ e. let (b, r, q, x, a, u) = (behind (returned 13 5 0) ((table.refused_if (returned 13 5 0)).0 e)).1 refl in
        (b, r, q, x, a, (woven_13 (woven r q x) x.identities).0 (⊎_elim (λ n. n) (λ n. let z : ◌≡◌ {A = ℕ} 13 14 = n.0 in absurd (omega arith)) u)),
    λ u. (table.refused_if (returned 13 5 0)).1 (lamp_first (in_woven u.4 ((woven_13 (woven u.1 u.2 u.3) u.3.identities).1 u.5) refl)),
  )

  -- 14 exactly if the woven pattern has no fault and the rows do not fit
  pub found_14 : (list_found work words book rules query request ≡ refused (returned 14 5 0)) ↔ ReadAnd
      (λ b r q x. (woven_number r q x ≡ nothing) × TooFewWords b r q x)
  found_14 = (
    λ e. let (b, r, q, x, a, u) = (behind (returned 14 5 0) ((table.refused_if (returned 14 5 0)).0 e)).1 refl in (
      b,
      r,
      q,
      x,
      a,
      ⊎_elim (λ n. ⊎_elim (λ z. absurd (omega arith)) (λ z. absurd (omega arith)) (woven_number_law (woven r q x) x.identities 14 n))
          (λ n. (n.1, n.2)) u,
    ),
    λ u. (table.refused_if (returned 14 5 0)).1 (no_room u.4 u.5.0 u.5.1 refl),
  )
