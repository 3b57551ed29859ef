-- Whether a category has a policy, and whether some category over nothing has none.
use Prim.Native.Nat.{ℕ, zero, suc, ◌+◌, ◌<◌}
use mathlib.Core.Path.{◌≡◌, refl, sym, ap, ◌∙◌}
use mathlib.Core.List.{List, [], ◌∷◌, ◌++◌}
use mathlib.Core.Bool.{Bool, true, false, not, ◌&&◌}
use native.Mathlib.Omega.{arith}
use lib.ListN.{length}
use lib.Dec.{eqb, leb, ltb}
use borrow.Author.Tests.{lt-ltb, le-ltb, le-leb, lt-leb, ne_eqb}
use Rattle.logic.specs.Tests.{either, below_or_not}
use Rattle.model.specs.Bytes.{Bytes, same}
use Rattle.model.specs.Choice.{pick}
use Rattle.model.specs.Lists.{is_nil, any, place_where}
use Rattle.model.specs.Refusal.{accepted, refusal}
use Rattle.model.specs.Rules.{Category, Policy}
use Rattle.model.specs.ReadRules.{has_policy, covered}
use Rattle.book_tables.specs.Listed.{listed}
use Rattle.book_tables.specs.View.{word_at, name_of, names_at}
use Rattle.book_tables.proofs.ListedLaws.{any_end, length_listed, place_inside, place_none}
use Rattle.rules_tables.specs.declared.RulesCounts.{RulesCounts}
use Rattle.rules_tables.specs.Layout.{names, over_count_at, over_from}
use Rattle.rules_tables.specs.View.{over_at, category_of, policy_category, policy_of, rules_at}
use Rattle.rules_tables.specs.Fits.{Fits}
use Rattle.rules_tables.specs.Enforced.{policy_place, has_one, uncovered, uncovered_in}
use Rattle.rules_tables.proofs.Downs.{policy_of_law}

-- at least as many is not fewer
pub at_least : (a b : ℕ) → leb a b ≡ not (ltb b a)
at_least a b = either (below_or_not b a) (λ l. rw (lt-ltb b a l, lt-leb a b l)) (λ l. rw (le-ltb b a l, le-leb a b l))

-- tests of two lists that agree place by place
pub any_alike : {A B : Type 0} (p : A → Bool) (q : B → Bool) (f : ℕ → A) (g : ℕ → B) (n : ℕ) → ((i : ℕ) → i < n → p (f i) ≡ q (g i))
    → any p (listed f n) ≡ any q (listed g n)
unfolding listed any
any_alike p q f g zero h = refl
any_alike p q f g (suc n) h = rw (any_end p (listed f n) (f n), any_end q (listed g n) (g n), any_alike p q f g n (λ i l. h i (omega arith)), h n (omega arith))

-- a test passes somewhere exactly if its place is inside
pub any_place : {A : Type 0} (p : A → Bool) (xs : List A) → any p xs ≡ ltb (place_where p xs) (length xs)
any_place p xs = go (any p xs) refl
  where
    go : (b : Bool) → any p xs ≡ b → b ≡ ltb (place_where p xs) (length xs)
    go true e = sym (lt-ltb _ _ (place_inside p xs e))
    go false e = sym (le-ltb (place_where p xs) (length xs) (omega (arith, place_none p xs e)))

module _ (text : Bytes) (words : List ℕ) (c : RulesCounts) (f : Fits text words c) where
  pub has_policy_law : (m : ℕ) → m < c.categories → has_policy (rules_at text words c) (name_of text words names m) ≡ has_one words c m
  unfolding has_policy rules_at policy_place
  has_policy_law m l =
      any_alike (λ (p : Policy). same p.category (name_of text words names m)) (λ w. eqb w m) (policy_of text words) (policy_category words) c.policies
      (policy_of_law text words c f m l)
      ∙ any_place (λ w. eqb w m) (listed (policy_category words) c.policies)
      ∙ ap (ltb _) (length_listed (policy_category words) c.policies)

  is_nil_law : (k : ℕ) → is_nil (over_at text words k) ≡ eqb (word_at words (over_count_at k)) 0
  unfolding over_at names_at listed is_nil
  is_nil_law k = go (word_at words (over_count_at k))
    where
      behind : {A : Type 0} (xs : List A) (x : A) → is_nil (xs ++ (x ∷ [])) ≡ false
      behind [] x = refl
      behind (y ∷ xs) x = refl

      go : (n : ℕ) → is_nil (listed (name_of text words (over_from k)) n) ≡ eqb n 0
      go zero = refl
      go (suc n) = behind (listed (name_of text words (over_from k)) n) (name_of text words (over_from k) n) ∙ sym (ne_eqb (suc n) 0 (λ e. omega arith))

  -- 10 is given exactly if some category over nothing has no policy
  pub covered_by : covered (rules_at text words c) ≡ pick (uncovered_in words c) (refusal 10 2 0) (accepted (rules_at text words c))
  unfolding covered uncovered_in rules_at category_of
  covered_by = ap (λ (b : Bool). pick b (refusal 10 2 0) (accepted (rules_at text words c))) tests
    where
      tests : any (λ (x : Category). is_nil x.over && not (has_policy (rules_at text words c) x.name)) (rules_at text words c).categories
          ≡ any (uncovered words c) (listed (λ k. k) c.categories)
      tests = any_alike (λ (x : Category). is_nil x.over && not (has_policy (rules_at text words c) x.name)) (uncovered words c) (category_of text words)
          (λ k. k) c.categories
          (λ k l. rw (is_nil_law k, has_policy_law k l))
