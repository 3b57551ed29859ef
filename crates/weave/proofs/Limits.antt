-- The woven limits: what passes one passes it whatever text is woven behind. Assumes nothing.
use Prim.Native.Nat.{ℕ, ◌+◌, ◌<◌, ◌≤◌}
use mathlib.Core.Path.{◌≡◌, ap}
use mathlib.Core.Logic.{◌⊎◌, inl, inr}
use mathlib.Core.List.{List, ◌++◌, map}
use mathlib.Core.Bool.{Bool, false, not, ◌||◌}
use native.Mathlib.Omega.{arith}
use lib.ListN.{length, length-append}
use lib.Dec.{T, ltb, ltb→lt, lt→ltb}
use borrow.Author.Tests.{le-ltb}
use Rattle.logic.specs.Tests.{either, or_either, or_left, or_right}
use Rattle.model.specs.Bytes.{Bytes}
use Rattle.model.specs.Lists.{keep}
use Rattle.model.specs.Pattern.{Pattern, Clause}
use Rattle.model.specs.Graph.{Each}
use Rattle.model.specs.Weave.{Asked, moved_edge, moved_clause, is_excluded, woven_too_many, weave, WovenPattern, first_vertices}
use Rattle.weave.specs.OneMore.{under_names, more_vertices, one_more}
use Rattle.woven_tables.proofs.Kept.{keep_append}
use Rattle.weave.proofs.OneMore.{Sound, weave_keeps}
use Rattle.woven_tables.proofs.Places.{vertices_grow}

-- the exclusions and the requirements among clauses
abbrev pub exclusions : List Clause → List Clause
exclusions = keep is_excluded

abbrev pub requirements : List Clause → List Clause
requirements = keep (λ c. not (is_excluded c))

-- one of the four limits is passed
abbrev pub Passed : WovenPattern → Type 0
Passed p = (((24 < length p.vertices) ⊎ (48 < length p.edges)) ⊎ (48 < length (exclusions p.clauses))) ⊎ (48 < length (requirements p.clauses))

pub passed_is_too_many : (p : WovenPattern) → Passed p → T (woven_too_many p)
unfolding woven_too_many
passed_is_too_many p h =
    let A = ltb 24 (length p.vertices) in
    let B = ltb 48 (length p.edges) in
    let C = ltb 48 (length (exclusions p.clauses)) in
    let D = ltb 48 (length (requirements p.clauses)) in
    either h (λ h. or_left (A || B || C) D (either h (λ h. or_left (A || B) C (either h
    (λ a. or_left A B (lt→ltb 24 (length p.vertices) a))
    (λ b. or_right A B (lt→ltb 48 (length p.edges) b))))
    (λ c. or_right (A || B) C (lt→ltb 48 (length (exclusions p.clauses)) c))))
    (λ d. or_right (A || B || C) D (lt→ltb 48 (length (requirements p.clauses)) d))

pub too_many_is_passed : (p : WovenPattern) → T (woven_too_many p) → Passed p
unfolding woven_too_many
too_many_is_passed p t =
    let A = ltb 24 (length p.vertices) in
    let B = ltb 48 (length p.edges) in
    let C = ltb 48 (length (exclusions p.clauses)) in
    let D = ltb 48 (length (requirements p.clauses)) in
    either (or_either (A || B || C) D t) (λ t. inl (either (or_either (A || B) C t) (λ t. inl (either (or_either A B t)
    (λ a. inl (ltb→lt 24 (length p.vertices) a))
    (λ b. inr (ltb→lt 48 (length p.edges) b))))
    (λ c. inr (ltb→lt 48 (length (exclusions p.clauses)) c))))
    (λ d. inr (ltb→lt 48 (length (requirements p.clauses)) d))

pub within_limits : (p : WovenPattern) → length p.vertices ≤ 24 → length p.edges ≤ 48 → length (exclusions p.clauses) ≤ 48
    → length (requirements p.clauses) ≤ 48 → woven_too_many p ≡ false
unfolding woven_too_many
within_limits p a b c d = rw (
  le-ltb 24 (length p.vertices) a,
  le-ltb 48 (length p.edges) b,
  le-ltb 48 (length (exclusions p.clauses)) c,
  le-ltb
      48 (length (requirements p.clauses)) d,
)

keep_grow : {A : Type 0} (p : A → Bool) (xs ys : List A) → length (keep p xs) ≤ length (keep p (xs ++ ys))
keep_grow p xs ys = omega (arith, length-append (keep p xs) (keep p ys), ap length (keep_append p xs ys))

-- a limit that is passed stays passed
pub passed_stays : (k : ℕ) (actors : List Bytes) (p : Pattern) (woven : WovenPattern) → Passed woven → Passed (one_more k actors p woven)
unfolding one_more more_vertices
passed_stays k actors p woven h =
    let own = under_names k actors p in
    let vs = first_vertices woven.vertices own.vertices in
    let edges = map (moved_edge vs own) p.edges in
    let clauses = map (moved_clause vs own (length woven.edges)) p.clauses in
    either h (λ h. inl (either h (λ h. inl (either h
    (λ a. inl (omega (arith, vertices_grow woven.vertices own.vertices)))
    (λ b. inr (omega (arith, length-append woven.edges edges)))))
    (λ c. inr (omega (arith, keep_grow is_excluded woven.clauses clauses)))))
    (λ d. inr (omega (arith, keep_grow (λ c. not (is_excluded c)) woven.clauses clauses)))

-- the woven pattern of some texts passes a limit: so does that of the texts with more behind them
pub weave_stays_too_many : (asked more : List Asked) → Each Sound (asked ++ more) → T (woven_too_many (weave asked)) → T (woven_too_many (weave (asked ++ more)))
weave_stays_too_many asked more sound t = passed_is_too_many (weave (asked ++ more))
    (weave_keeps Passed (λ k actors p woven r h. passed_stays k actors p woven h) asked more sound (too_many_is_passed (weave asked) t))
