-- The enforced policies are those of the categories in the lower set, in the order of the categories.
use Prim.Native.Nat.{ℕ, zero, suc, ◌+◌, ◌≤◌, ◌<◌}
use mathlib.Core.Path.{◌≡◌, refl, sym, ap, subst, ◌∙◌}
use mathlib.Core.List.{List, [], ◌∷◌, ◌++◌, map, append-nil}
use mathlib.Core.Bool.{Bool, true, false, ◌&&◌, ◌||◌}
use native.Mathlib.Omega.{arith}
use lib.ListN.{length}
use lib.Dec.{T, eqb, ltb, eqb→eq}
use borrow.Author.Tests.{lt-ltb, le-ltb, eq-eqb, ne_eqb}
use Rattle.logic.specs.Tests.{same_test, either, equal_or_not, below_or_not}
use Rattle.model.specs.Bytes.{Bytes, same}
use Rattle.model.specs.Choice.{pick}
use Rattle.model.specs.Lists.{any, keep, joined, place_where}
use Rattle.model.specs.Names.{mem}
use Rattle.model.specs.Rules.{Category, Policy, Rules, category_names, actors_of, step_down, steps_down, down_from, enforced}
use Rattle.model.proofs.Members.{◌∈◌, is_true, is_false, keep_e, keep_i, mem_e, mem_i}
use Rattle.model.proofs.Places.{joined_end, keep_same, map_keep}
use Rattle.book_tables.specs.Listed.{listed}
use Rattle.book_tables.specs.View.{name_of, names_at}
use Rattle.book_tables.proofs.ListedLaws.{length_listed, get_or_listed, scan_found, place_inside, place_passes, place_none}
use Rattle.book_tables.proofs.NameLaws.{equal_same, same_equal}
use Rattle.rules_tables.specs.declared.RulesCounts.{RulesCounts}
use Rattle.rules_tables.specs.Layout.{names}
use Rattle.rules_tables.specs.View.{actors_at, category_of, policy_category, policy_of, rules_at}
use Rattle.rules_tables.specs.Fits.{Fits}
use Rattle.rules_tables.specs.Enforced.{policy_place, policies_of, enforced_below}
use Rattle.rules_tables.proofs.Lowers.{named, category_names_law, declared, lower_is_down}

keep_end : {A : Type 0} (p : A → Bool) (l : List A) (x : A) → keep p (l ++ (x ∷ [])) ≡ keep p l ++ pick (p x) (x ∷ []) []
unfolding keep
keep_end p [] x = refl
keep_end p (y ∷ l) x = rw (keep_end p l x) (go (p y))
  where
    go : (b : Bool) → pick b (y ∷ (keep p l ++ pick (p x) (x ∷ []) [])) (keep p l ++ pick (p x) (x ∷ []) [])
        ≡ pick b (y ∷ keep p l) (keep p l) ++ pick (p x) (x ∷ []) []
    go true = refl
    go false = refl

-- what is joined of the elements kept
joined_keep : {A B : Type 0} (g : A → List B) (p : A → Bool) (l : List A) → joined g (keep p l) ≡ joined (λ x. pick (p x) (g x) []) l
unfolding keep joined
joined_keep g p [] = refl
joined_keep g p (x ∷ l) = go (p x) (joined_keep g p l)
  where
    go : (b : Bool) → joined g (keep p l) ≡ joined (λ x. pick (p x) (g x) []) l
        → joined g (pick b (x ∷ keep p l) (keep p l)) ≡ pick b (g x) [] ++ joined (λ x. pick (p x) (g x) []) l
    go true e = ap (λ z. g x ++ z) e
    go false e = e

-- the categories below one stand in rules order
module _ (r : Rules) where
  steps_kept : (n : ℕ) (q : Bytes → Bool) (cs : List Bytes) → cs ≡ keep q (category_names r) → (p : Bytes → Bool) × (steps_down n r cs ≡ keep p (category_names r))
  unfolding steps_down step_down category_names
  steps_kept zero q cs e = (q, e)
  steps_kept (suc n) q cs e = steps_kept n _ (step_down r cs)
      (map_keep (λ (c : Category). c.name) (λ e. mem e cs || any (λ (d : Category). mem d.name cs && mem e d.over) r.categories) r.categories)

  pub down_in_order : (c : Bytes) → c ∈ category_names r → down_from r c ≡ keep (λ e. mem e (down_from r c)) (category_names r)
  unfolding down_from category_names steps_down step_down
  down_in_order c m = go r.categories refl
    where
      down : List Bytes
      down = down_from r c

      by : (p : Bytes → Bool) → down ≡ keep p (category_names r) → down ≡ keep (λ e. mem e down) (category_names r)
      by p e = e ∙ keep_same p (λ e. mem e down) (category_names r) (λ x k. same_test (p x) (mem x down)
          (λ t. mem_i x down (subst (λ z. x ∈ z) (sym e) (keep_i p (category_names r) x k t)))
          (λ t. (keep_e p (category_names r) x (subst (λ z. x ∈ z) e (mem_e x down t))).1))

      go : (cs : List Category) → r.categories ≡ cs → down ≡ keep (λ e. mem e down) (category_names r)
      go [] e = elim (subst (λ (z : List Category). c ∈ map (λ (x : Category). x.name) z) e m) [ ]
      go (x ∷ cs) e =
          let s = steps_kept (length cs) _ (step_down r (c ∷ []))
          (map_keep (λ (d : Category). d.name) (λ e. mem e (c ∷ [])
          || any (λ (d : Category). mem d.name (c ∷ []) && mem e d.over) r.categories) r.categories) in
          by s.0 (ap (λ (z : List Category). steps_down (length z) r (c ∷ [])) e ∙ s.1)

module _ (text : Bytes) (words : List ℕ) (c : RulesCounts) (f : Fits text words c) where
  -- of the policies, those of category m are its one policy, if it has one
  module _ (m : ℕ) (l : m < c.categories) where
    abbrev pub is_of : Policy → Bool
    is_of p = same p.category (named text words c m)

    pub policy_of_law : (i : ℕ) → i < c.policies → is_of (policy_of text words i) ≡ eqb (policy_category words i) m
    unfolding policy_of
    policy_of_law i h = either (equal_or_not (policy_category words i) m)
        (λ e. equal_same _ _ (ap (named text words c) e) ∙ sym (eq-eqb _ _ e))
        (λ e. is_false _ (λ t. e.1 (f.named.differ _ m (f.policies i h).counted l (same_equal _ _ (is_true _ t)))) ∙ sym (ne_eqb _ _ e.1))

    none_kept : (n : ℕ) → n ≤ c.policies → ((i : ℕ) → i < n → policy_category words i ≡ m → ⊥) → keep is_of (listed (policy_of text words) n) ≡ []
    unfolding keep listed
    none_kept zero h never = refl
    none_kept (suc n) h never =
        keep_end is_of (listed (policy_of text words) n) (policy_of text words n)
        ∙ rw (none_kept n (omega arith) (λ i k. never i (omega arith)), policy_of_law n (omega arith), ne_eqb _ _ (never n (omega arith)))

    one_kept : (n i : ℕ) → n ≤ c.policies → i < n → policy_category words i ≡ m → keep is_of (listed (policy_of text words) n) ≡ policy_of text words i ∷ []
    unfolding keep listed
    one_kept zero i h k e = absurd (omega arith)
    one_kept (suc n) i h k e = keep_end is_of (listed (policy_of text words) n) (policy_of text words n) ∙ either (equal_or_not i n)
        (λ q. let q' : policy_category words n ≡ m = ap (policy_category words) (sym q) ∙ e in
        rw (
          none_kept n (omega arith) (λ j b d. let z = f.one_each j n (omega arith) (omega arith) (d ∙ sym q') in omega arith),
          policy_of_law n
              (omega arith),
          eq-eqb _ _ q',
          q,
        ))
        (λ q. let never : (policy_category words n ≡ m → ⊥) = λ d. q.1 (f.one_each i n (omega arith) (omega arith) (e ∙ sym d)) in
        rw (one_kept n i (omega arith) (omega arith) e, policy_of_law n (omega arith), ne_eqb _ _ never))

    pub policies_of_law : keep is_of (listed (policy_of text words) c.policies) ≡ policies_of text words c m
    unfolding policies_of policy_place
    policies_of_law = go (any is_m all_of) refl
      where
        is_m : ℕ → Bool
        is_m w = eqb w m

        all_of : List ℕ
        all_of = listed (policy_category words) c.policies

        go : (b : Bool) → any is_m all_of ≡ b
            → keep is_of (listed (policy_of text words) c.policies)
            ≡ pick (ltb (place_where is_m all_of) c.policies) (policy_of text words (place_where is_m all_of) ∷ []) []
        go true e =
            let n = length_listed (policy_category words) c.policies in
            let i = place_inside is_m all_of e in
            let l : place_where is_m all_of < c.policies = omega arith in
            let q = ap is_m (sym (get_or_listed (policy_category words) c.policies (place_where is_m all_of) 0 l)) ∙ place_passes is_m all_of 0 i in
            one_kept c.policies (place_where is_m all_of) (omega arith) l (eqb→eq _ m (subst T (sym q) tt)) ∙ rw (lt-ltb _ _ l)
        go false e =
            let n = place_none is_m all_of e ∙ length_listed (policy_category words) c.policies in
            none_kept c.policies (omega arith) (λ i h d. let s = scan_found is_m (policy_category words) c.policies i h (eq-eqb _ m d) in
            let z : ◌≡◌ {A = ℕ} 0 1 = cc in omega arith)
            ∙ rw (le-ltb (place_where is_m all_of) c.policies (omega arith))

  -- the enforced policies of category k, in the order of their categories
  module _ (k : ℕ) (l : k < c.categories) where
    joined_below : (n : ℕ) → n ≤ c.categories
        → joined (λ e. pick (mem e (down_from (rules_at text words c) (named text words c k)))
        (keep (λ p. same p.category e) (listed (policy_of text words) c.policies)) []) (listed (name_of text words names) n)
        ≡ enforced_below text words c k n
    unfolding listed joined enforced_below
    joined_below zero h = refl
    joined_below (suc n) h =
        joined_end _ (listed (name_of text words names) n) (name_of text words names n)
        ∙ rw (joined_below n (omega arith), ← lower_is_down text words c f k n l (omega arith), policies_of_law n (omega arith))

    pub enforced_in_order : enforced (rules_at text words c) (named text words c k) ≡ enforced_below text words c k c.categories
    unfolding enforced names_at rules_at
    enforced_in_order =
        let g : Bytes → List Policy = λ d. keep (λ p. same p.category d) (rules_at text words c).policies in
        ap (joined g) (down_in_order (rules_at text words c) (named text words c k) (declared text words c k l))
        ∙ joined_keep g (λ e. mem e (down_from (rules_at text words c) (named text words c k))) (category_names (rules_at text words c))
        ∙ ap (joined (λ e. pick (mem e (down_from (rules_at text words c) (named text words c k))) (g e) [])) (category_names_law text words c)
        ∙ joined_below c.categories (omega arith)

    -- the actors of category k
    actors_below : (n : ℕ) → n ≤ c.categories
        → joined (λ x. pick (same x.name (named text words c k)) x.actors []) (listed (category_of text words) n)
        ≡ pick (ltb k n) (actors_at text words k) []
    unfolding listed joined category_of
    actors_below zero h = rw (le-ltb k 0 (omega arith))
    actors_below (suc n) h = joined_end (λ (x : Category). pick (same x.name (named text words c k)) x.actors []) (listed (category_of text words) n)
        (category_of text words n) ∙ rw (actors_below n (omega arith)) (either (equal_or_not n k)
        (λ e. rw (e, le-ltb k k (omega arith), lt-ltb k (suc k) (omega arith), equal_same (named text words c k) (named text words c k) refl))
        (λ e. rw (is_false (same (named text words c n) (named text words c k))
        (λ t. e.1 (f.named.differ n k (omega arith) l
        (same_equal (named text words c n) (named text words c k) (is_true (same (named text words c n) (named text words c k)) t)))))
        (either (below_or_not k n)
        (λ s. rw (lt-ltb k n s, lt-ltb k (suc n) (omega arith)) (append-nil (actors_at text words k)))
        (λ s. rw (le-ltb k n s, le-ltb k (suc n) (omega arith))))))

    pub actors_of_law : actors_of (rules_at text words c) (named text words c k) ≡ actors_at text words k
    unfolding actors_of rules_at
    actors_of_law = actors_below c.categories (omega arith) ∙ rw (lt-ltb k c.categories l)
