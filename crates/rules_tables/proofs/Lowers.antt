-- The lower sets are whole: category m is in that of category k exactly if the model's `down_from` has its name.
use Prim.Native.Nat.{ℕ, zero, suc, ◌<◌}
use mathlib.Core.Path.{◌≡◌, refl, sym, ap, subst, ◌∙◌}
use mathlib.Core.Logic.{◌⊎◌, inl, inr, ⊎_elim}
use mathlib.Core.List.{List}
use native.Mathlib.Omega.{arith}
use lib.Dec.{T, eqb, eqb→eq}
use Rattle.logic.specs.Tests.{same_test, eq→eqb}
use Rattle.logic.specs.Lists.{in_get_or, get_or_in}
use Rattle.bits.specs.Word.{bit}
use Rattle.model.specs.Bytes.{Bytes}
use Rattle.model.specs.Names.{mem}
use Rattle.model.specs.Rules.{Category, Rules, category_names, down_from}
use Rattle.model.proofs.Members.{◌∈◌, any_e, any_i, mem_e, mem_i}
use Rattle.model.proofs.Decides.{or_l, or_r, or_cases}
use Rattle.model.proofs.Enforced.{Reaches, itself, over, down_is_reached}
use Rattle.book_tables.specs.Listed.{listed}
use Rattle.book_tables.specs.View.{word_at, name_of, names_at}
use Rattle.book_tables.proofs.ListedLaws.{length_listed, get_or_listed, map_listed}
use Rattle.book_tables.proofs.NameLaws.{place_named}
use Rattle.rules_tables.specs.declared.RulesCounts.{RulesCounts}
use Rattle.rules_tables.specs.Layout.{names, over_count_at, over_from}
use Rattle.rules_tables.specs.View.{over_at, lower_set, category_of, rules_at}
use Rattle.rules_tables.specs.Fits.{rank, Fits}

-- the elements of `listed`
pub listed_i : {A : Type 0} (f : ℕ → A) (n i : ℕ) → i < n → f i ∈ listed f n
listed_i f n i l = subst (λ x. x ∈ listed f n) (get_or_listed f n i (f i) l) (get_or_in (f i) (listed f n) i (rw length_listed l))

pub listed_e : {A : Type 0} (f : ℕ → A) (n : ℕ) (x : A) → x ∈ listed f n → (i : ℕ) × (i < n) × (f i ≡ x)
listed_e f n x m =
    let r = in_get_or x x (listed f n) m in
    let l : r.0 < n = rw (length_listed f n) at r.1 in
    (r.0, l, sym (get_or_listed f n r.0 x l) ∙ r.2)

reaches_on : (r : Rules) (a b c : Bytes) → Reaches r a b → Reaches r b c → Reaches r a c
reaches_on r a b c p itself = p
reaches_on r a b c p (over {d} q i o j) = over (reaches_on r a b d.name p q) i o j

module _ (text : Bytes) (words : List ℕ) (c : RulesCounts) where
  -- the name of category k
  abbrev pub named : ℕ → Bytes
  named k = name_of text words names k

  pub category_names_law : category_names (rules_at text words c) ≡ names_at text words names c.categories
  unfolding category_names rules_at category_of names_at
  category_names_law = map_listed (λ (x : Category). x.name) (category_of text words) c.categories

  pub declared : (k : ℕ) → k < c.categories → named k ∈ category_names (rules_at text words c)
  unfolding names_at
  declared k l = rw category_names_law (listed_i (name_of text words names) c.categories k l)

  module _ (f : Fits text words c) where
    -- what is in a category's set: itself, or what is in that of an earlier one that it is over
    lower_itself : (k : ℕ) → k < c.categories → T (bit (lower_set words k) k)
    lower_itself k l = rw ((f.each k l).lower k) (or_l (eqb k k) _ (eq→eqb k k refl))

    lower_cases : (k m : ℕ) → k < c.categories → T (bit (lower_set words k) m)
        → (m ≡ k) ⊎ ((j : ℕ) × (j < k) × (named j ∈ over_at text words k) × T (bit (lower_set words j) m))
    unfolding over_at names_at
    lower_cases k m l t = ⊎_elim (λ u. inl (eqb→eq m k u))
        (λ u. let o = any_e (λ o. bit (lower_set words (rank text words k o)) m) (over_at text words k) u in
        let i = listed_e (name_of text words (over_from k)) (word_at words (over_count_at k)) o.0 o.1 in
        let h : rank text words k o.0 < k = rw i.2 at ((f.each k l).earlier i.0 i.1) in
        inr (rank text words k o.0, h, subst (λ z. z ∈ over_at text words k) (sym (place_named text words names k o.0 h)) o.1, o.2))
        (or_cases (eqb m k) _ (rw ((f.each k l).lower m) at t))

    lower_under : (k j m : ℕ) → k < c.categories → j < c.categories → named j ∈ over_at text words k → T (bit (lower_set words j) m)
        → T (bit (lower_set words k) m)
    unfolding over_at names_at
    lower_under k j m l h o t =
        let i = listed_e (name_of text words (over_from k)) (word_at words (over_count_at k)) (named j) o in
        let e : rank text words k (named j) < k = rw i.2 at ((f.each k l).earlier i.0 i.1) in
        let q : rank text words k (named j) ≡ j = f.named.differ _ j (omega arith) h (place_named text words names k (named j) e) in
        rw ((f.each k l).lower m) (or_r (eqb m k) _ (any_i (λ o. bit (lower_set words (rank text words k o)) m) (over_at text words k) (named j) o (rw q t)))

    -- all that a member is over directly is in the set too
    lower_closed : (b k : ℕ) → k < b → k < c.categories → (y m : ℕ) → m < c.categories → T (bit (lower_set words k) y) → named m ∈ over_at text words y
        → T (bit (lower_set words k) m)
    lower_closed zero k h l y m n t o = absurd (omega arith)
    lower_closed (suc b) k h l y m n t o = ⊎_elim
        (λ e. lower_under k m m l n (subst (λ z. named m ∈ over_at text words z) e o) (lower_itself m n))
        (λ j. let n' : j.0 < c.categories = omega (arith, j.1) in
        lower_under k j.0 m l n' j.2 (lower_closed b j.0 (omega (arith, j.1)) n' y m n j.3 o))
        (lower_cases k y l t)

    lower_reached : (b k : ℕ) → k < b → k < c.categories → (m : ℕ) → T (bit (lower_set words k) m) → Reaches (rules_at text words c) (named k) (named m)
    unfolding rules_at category_of
    lower_reached zero k h l m t = absurd (omega arith)
    lower_reached (suc b) k h l m t = ⊎_elim
        (λ e. subst (λ z. Reaches (rules_at text words c) (named k) (named z)) (sym e) itself)
        (λ j. let n : j.0 < c.categories = omega (arith, j.1) in
        reaches_on (rules_at text words c) (named k) (named j.0) (named m)
        (over {d = category_of text words k} itself (listed_i (category_of text words) c.categories k l) j.2 (declared j.0 n))
        (lower_reached b j.0 (omega (arith, j.1)) n m j.3))
        (lower_cases k m l t)

    reached_lower : (k : ℕ) → k < c.categories → (e : Bytes) → Reaches (rules_at text words c) (named k) e → (m : ℕ) → m < c.categories → named m ≡ e
        → T (bit (lower_set words k) m)
    unfolding rules_at category_of
    reached_lower k l e itself m n q = subst (λ z. T (bit (lower_set words k) z)) (sym (f.named.differ m k n l q)) (lower_itself k l)
    reached_lower k l e (over {d} p i o j) m n q =
        let y = listed_e (category_of text words) c.categories d i in
        lower_closed (suc k) k (omega arith) l y.0 m n
        (reached_lower k l d.name p y.0 y.1 (ap (λ (x : Category). x.name) y.2))
        (subst (λ z. z ∈ over_at text words y.0) (sym q) (subst (λ (z : Category). e ∈ z.over) (sym y.2) o))

    -- the law
    pub lower_is_down : (k m : ℕ) → k < c.categories → m < c.categories → bit (lower_set words k) m ≡ mem (named m) (down_from (rules_at text words c) (named k))
    lower_is_down k m l n =
        let d = down_is_reached (rules_at text words c) (named k) (declared k l) (named m) in
        same_test _ _
        (λ t. mem_i (named m) _ (d.1 (lower_reached (suc k) k (omega arith) l m t)))
        (λ t. reached_lower k l (named m) (d.0 (mem_e (named m) _ t)) m n refl)
