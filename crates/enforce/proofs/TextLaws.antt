-- The texts that are woven, one category after another, are the model's: the query, then the enforced policies. Assumes nothing.
use Prim.Native.Nat.{ℕ, zero, suc, ◌+◌, ◌≤◌, ◌<◌}
use mathlib.Core.Path.{◌≡◌, refl, sym, ap, ap₂, subst, ◌∙◌}
use mathlib.Core.List.{List, [], ◌∷◌, ◌++◌, map, append_assoc, append-nil}
use mathlib.Core.Bool.{Bool, true, false}
use native.Mathlib.Numerals.{add-one}
use native.Mathlib.Omega.{arith}
use lib.ListN.{length, length-append}
use lib.Dec.{T, ltb, eqb, eqb→eq}
use borrow.Author.Tests.{lt-ltb, le-ltb}
use Rattle.logic.specs.Tests.{either, equal_or_not}
use Rattle.bits.specs.Word.{bit}
use Rattle.model.specs.Bytes.{Bytes}
use Rattle.model.specs.Choice.{pick, just}
use Rattle.model.specs.QueryText.{QueryText}
use Rattle.model.specs.Grammar.{query_text}
use Rattle.model.specs.Rules.{Policy, actors_of, enforced}
use Rattle.model.specs.Request.{Request}
use Rattle.model.specs.Weave.{Asked, asked_query, asked_policies}
use Rattle.model.proofs.Places.{length_map, map_append}
use Rattle.book_tables.specs.Listed.{listed}
use Rattle.book_tables.specs.View.{name_of}
use Rattle.book_tables.proofs.ListedLaws.{map_end, length_listed, get_or_listed, place_passes}
use Rattle.rules_tables.specs.declared.RulesCounts.{RulesCounts}
use Rattle.rules_tables.specs.Layout.{names}
use Rattle.rules_tables.specs.View.{actors_at, lower_set, tree_or, tree_of, policy_category, policy_text, policy_of, rules_at}
use Rattle.rules_tables.specs.Fits.{Fits}
use Rattle.rules_tables.specs.Enforced.{policy_place, policies_of, enforced_below}
use Rattle.rules_tables.proofs.Downs.{enforced_in_order, actors_of_law}
use Rattle.enforce.specs.Texts.{query_asked, policy_asked, texts_below}

-- the tree of a text that is a query
pub tree_is : (t : Bytes) (q : QueryText) → query_text t ≡ just q → tree_of t ≡ q
unfolding tree_of tree_or
tree_is t q e = ap tree_or e

module _ (query rules : Bytes) (words : List ℕ) (c : RulesCounts) (category : ℕ) where
  -- category m adds no text: it is not enforced, or it has no policy
  pub not_enforced : (m : ℕ) → bit (lower_set words category) m ≡ false
      → texts_below query rules words c category m ≡ texts_below query rules words c category (m + 1)
  unfolding texts_below enforced_below
  not_enforced m e = rw (add-one m, e, append-nil)

  pub without_policy : (m : ℕ) → bit (lower_set words category) m ≡ true → c.policies ≤ policy_place words c m
      → texts_below query rules words c category m ≡ texts_below query rules words c category (m + 1)
  unfolding texts_below enforced_below policies_of
  without_policy m e h = rw (add-one m, e, le-ltb (policy_place words c m) c.policies h, append-nil)

  -- category m adds its policy
  pub with_policy_law : (m : ℕ) → bit (lower_set words category) m ≡ true → policy_place words c m < c.policies
      → texts_below query rules words c category (m + 1)
      ≡ texts_below query rules words c category m ++ (policy_asked (rules_at rules words c) (policy_of rules words (policy_place words c m)) ∷ [])
  unfolding texts_below enforced_below policies_of
  with_policy_law m e h =
      rw (add-one m, e, lt-ltb (policy_place words c m) c.policies h)
      (ap (λ z. query_asked query rules words category ∷ z)
      (map_end (policy_asked (rules_at rules words c)) (enforced_below rules words c category m) (policy_of rules words (policy_place words c m))))

  -- the texts of the first categories stand in front of all
  enforced_rest : (n m : ℕ) → m ≤ n → (rest : List Policy) × (enforced_below rules words c category n ≡ enforced_below rules words c category m ++ rest)
  unfolding enforced_below
  enforced_rest zero m h = let e : 0 ≡ m = omega arith in
      ([], ap (enforced_below rules words c category) e ∙ sym (append-nil (enforced_below rules words c category m)))
  enforced_rest (suc n) m h = either (equal_or_not m (suc n))
      (λ e. ([], ap (enforced_below rules words c category) (sym e) ∙ sym (append-nil (enforced_below rules words c category m))))
      (λ d. let l : m ≤ n = omega arith in
      let r = enforced_rest n m l in
      let own = pick (bit (lower_set words category) n) (policies_of rules words c n) [] in
      (r.0 ++ own, ap (λ z. z ++ own) r.1 ∙ append_assoc (enforced_below rules words c category m) r.0 own))

  pub texts_rest : (m : ℕ) → m ≤ c.categories
      → (rest : List Asked) × (texts_below query rules words c category c.categories ≡ texts_below query rules words c category m ++ rest)
  unfolding texts_below
  texts_rest m h =
      let r = enforced_rest c.categories m h in
      let f = policy_asked (rules_at rules words c) in
      (map f r.0, ap (λ z. query_asked query rules words category ∷ z) (ap (map f) r.1 ∙ map_append f (enforced_below rules words c category m) r.0))

  -- there is always one text, and at most one more for each category
  pub some_text : (m : ℕ) → length (texts_below query rules words c category m) ≡ 0 → ⊥
  unfolding texts_below
  some_text m e = omega arith

  pub first_text : 1 ≡ length (texts_below query rules words c category 0)
  unfolding texts_below enforced_below
  first_text = refl

  enforced_few : (m : ℕ) → length (enforced_below rules words c category m) ≤ m
  unfolding enforced_below
  enforced_few zero = omega arith
  enforced_few (suc m) =
      let own = pick (bit (lower_set words category) m) (policies_of rules words c m) [] in
      omega (arith, length-append (enforced_below rules words c category m) own, enforced_few m, at_most_one (bit (lower_set words category) m))
    where
      one_policy : (t : Bool) (p : Policy) → length (pick t (p ∷ []) []) ≤ 1
      one_policy true p = omega arith
      one_policy false p = omega arith

      at_most_one : (t : Bool) → length (pick t (policies_of rules words c m) []) ≤ 1
      at_most_one true = unfold policies_of in one_policy (ltb (policy_place words c m) c.policies) (policy_of rules words (policy_place words c m))
      at_most_one false = omega arith

  pub few_texts : (m : ℕ) → length (texts_below query rules words c category m) ≤ m + 1
  unfolding texts_below
  few_texts m = omega (arith, enforced_few m, length_map (policy_asked (rules_at rules words c)) (enforced_below rules words c category m))

-- the policy of category m is of that category
pub policy_category_law : (words : List ℕ) (c : RulesCounts) (m : ℕ) → policy_place words c m < c.policies → policy_category words (policy_place words c m) ≡ m
unfolding policy_place
policy_category_law words c m h =
    let all_of = listed (policy_category words) c.policies in
    let is_m : ℕ → Bool = λ w. eqb w m in
    let n = length_listed (policy_category words) c.policies in
    let q = ap is_m (sym (get_or_listed (policy_category words) c.policies (policy_place words c m) 0 h)) ∙ place_passes is_m all_of 0 (omega arith) in
    eqb→eq (policy_category words (policy_place words c m)) m (subst T (sym q) tt)

module _ (query rules : Bytes) (words : List ℕ) (c : RulesCounts) (fits : Fits rules words c) where
  -- a policy comes with the actors of its own category
  pub policy_text_law : (m : ℕ) → m < c.categories → policy_place words c m < c.policies
      → policy_asked (rules_at rules words c) (policy_of rules words (policy_place words c m))
      ≡ record { text = tree_of (policy_text rules words (policy_place words c m)); actors = actors_at rules words m }
  unfolding policy_of
  policy_text_law m l h =
      let actors : actors_of (rules_at rules words c) (name_of rules words names (policy_category words (policy_place words c m))) ≡ actors_at rules words m =
      ap (λ z. actors_of (rules_at rules words c) (name_of rules words names z)) (policy_category_law words c m h) ∙ actors_of_law rules words c fits m l in
      ap (λ z. let a : Asked = record { text = tree_of (policy_text rules words (policy_place words c m)); actors = z } in a) actors

  module _ (category : ℕ) (counted : category < c.categories) (x : Request) (its : x.category ≡ name_of rules words names category) where
    pub policies_are : asked_policies (rules_at rules words c) x
        ≡ map (policy_asked (rules_at rules words c)) (enforced_below rules words c category c.categories)
    unfolding asked_policies
    policies_are = ap (map (policy_asked (rules_at rules words c)))
        (ap (enforced (rules_at rules words c)) its ∙ enforced_in_order rules words c fits category counted)

    -- the texts of all categories are the model's
    pub texts_are : (tree : QueryText) → query_text query ≡ just tree
        → asked_query (rules_at rules words c) x tree ∷ asked_policies (rules_at rules words c) x ≡ texts_below query rules words c category c.categories
    unfolding asked_query texts_below
    texts_are tree e =
        let actors : actors_of (rules_at rules words c) x.category ≡ actors_at rules words category = ap (actors_of (rules_at rules words c)) its
        ∙ actors_of_law rules words c fits category counted in
        ap₂ (λ t z. let a : Asked = record { text = t; actors = z } in a ∷ asked_policies (rules_at rules words c) x) (sym (tree_is query tree e)) actors
        ∙ ap (λ z. query_asked query rules words category ∷ z) policies_are
