-- One category or one policy more: words that agree on all before it, and hold it behind, hold the rules with it.
use Prim.Native.Nat.{ℕ, ◌+◌, ◌/◌, ◌%◌, ◌<◌}
use mathlib.Core.Path.{◌≡◌, sym, ap, ◌∙◌}
use mathlib.Core.List.{List}
use mathlib.Core.Bool.{false}
use native.Mathlib.Omega.{arith}
use Rattle.logic.specs.Tests.{either, equal_or_not}
use Rattle.model.specs.Bytes.{Bytes, same}
use Rattle.model.specs.Names.{mem}
use Rattle.model.specs.Rules.{Policy, Rules, category_names}
use Rattle.model.specs.ReadRules.{category, policy, has_policy, add_rule}
use Rattle.book_tables.specs.View.{word_at, name_of, names_at}
use Rattle.book_tables.specs.Fits.{Inside}
use Rattle.book_tables.proofs.ListedLaws.{listed_more, scan_found}
use Rattle.book_tables.proofs.NameLaws.{names_fit_more, equal_same}
use Rattle.rules_tables.specs.declared.RulesCounts.{RulesCounts}
use Rattle.rules_tables.specs.Layout.{names}
use Rattle.rules_tables.specs.View.{actors_at, over_at, category_of, policy_category, policy_text, tree_of, policy_of, rules_at}
use Rattle.rules_tables.specs.Fits.{CategoryFits, PolicyFits, Fits, Holds}
use Rattle.rules_tables.specs.Agree.{Agree}
use Rattle.rules_tables.specs.Stores.{more_categories, more_policies}
use Rattle.rules_tables.proofs.AgreeLaws.{rules_kept, fits_kept}
use Rattle.rules_tables.proofs.Lowers.{category_names_law}
use Rattle.rules_tables.proofs.Fewer.{fewer}

module _ (text : Bytes) (words words' : List ℕ) (c : RulesCounts) (r : Rules) (holds : Holds text words c r) (a : Agree c words words') where
  kept_fits : Fits text words' c
  kept_fits = fits_kept text words words' c a holds.fits

  kept_rules : rules_at text words' c ≡ r
  kept_rules = rules_kept text words words' c a holds.fits ∙ holds.is

  kept_names : names_at text words' names c.categories ≡ category_names r
  kept_names = sym (category_names_law text words' c) ∙ ap category_names kept_rules

  -- a category behind those counted
  module _ (room : c.categories < 16)
      (inside : Inside text (word_at words' (names + c.categories) / 32) (word_at words' (names + c.categories) % 32))
      (new : mem (name_of text words' names c.categories) (category_names r) ≡ false)
      (fits : CategoryFits text words' c.categories) where
    pub category_added : Holds text words' (more_categories c)
        (add_rule r (category (name_of text words' names c.categories) (actors_at text words' c.categories) (over_at text words' c.categories)))
    unfolding rules_at add_rule category_of
    category_added = record {
      fits = record {
        room = kept_fits.room;
        few = omega arith;
        few_policies = let l = kept_fits.few_policies in omega arith;
        named = names_fit_more text words' names c.categories kept_fits.named inside (rw kept_names new);
        each = λ k l. either (equal_or_not k c.categories) (λ e. rw e fits) (λ e. kept_fits.each k (omega arith));
        policies = λ i l. let p = kept_fits.policies i l in record { counted = omega (arith, p.counted); inside = p.inside; is_query = p.is_query };
        one_each = kept_fits.one_each;
      };
      is = rw (listed_more (category_of text words') c.categories)
          (ap (λ (x : Rules). add_rule x (category (name_of text words' names c.categories) (actors_at text words' c.categories)
          (over_at text words' c.categories))) kept_rules);
    }

  -- a policy behind those counted, of category m
  module _ (m size : ℕ)
      (number : policy_category words' c.policies ≡ m)
      (fits : PolicyFits text words' c.categories c.policies)
      (new : has_policy r (name_of text words' names m) ≡ false) where
    not_before : (i : ℕ) → i < c.policies → policy_category words' i ≡ m → ⊥
    unfolding has_policy rules_at policy_of
    not_before i l e =
        let t = scan_found (λ (p : Policy). same p.category (name_of text words' names m)) (policy_of text words') c.policies i l
        (equal_same _ _ (ap (name_of text words' names) e)) in
        let s = ap (λ (x : Rules). has_policy x (name_of text words' names m)) kept_rules ∙ new in
        let z : ◌≡◌ {A = ℕ} 0 1 = cc in omega arith

    once : (i j : ℕ) → i < c.policies + 1 → j < c.policies + 1 → policy_category words' i ≡ policy_category words' j → i ≡ j
    once i j l h e = either (equal_or_not i c.policies)
        (λ p. either (equal_or_not j c.policies) (λ q. p ∙ sym q)
        (λ q. absurd (not_before j (omega arith) (sym e ∙ ap (policy_category words') p ∙ number))))
        (λ p. either (equal_or_not j c.policies)
        (λ q. absurd (not_before i (omega arith) (e ∙ ap (policy_category words') q ∙ number)))
        (λ q. kept_fits.one_each i j (omega arith) (omega arith) e))

    counted : (i : ℕ) → i < c.policies + 1 → PolicyFits text words' c.categories i
    counted i l = either (equal_or_not i c.policies) (λ e. rw e fits) (λ e. kept_fits.policies i (omega arith))

    pub policy_added : Holds text words' (more_policies c) (add_rule r (policy (name_of text words' names m) size (tree_of (policy_text text words' c.policies))))
    unfolding rules_at add_rule policy_of
    policy_added = record {
      fits = record {
        room = kept_fits.room;
        few = kept_fits.few;
        few_policies = fewer c.categories (c.policies + 1) (policy_category words') (λ i l. (counted i l).counted) once;
        named = kept_fits.named;
        each = kept_fits.each;
        policies = counted;
        one_each = once;
      };
      is = rw (listed_more (policy_of text words') c.policies, number)
          (ap (λ (x : Rules). add_rule x (policy (name_of text words' names m) size (tree_of (policy_text text words' c.policies)))) kept_rules);
    }
