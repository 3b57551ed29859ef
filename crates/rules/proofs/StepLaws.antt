-- What a line gives, by the number of its fault.
use Prim.Native.Nat.{ℕ}
use mathlib.Core.Path.{◌≡◌, refl, sym, ap, ◌∙◌}
use mathlib.Core.Logic.{◌≢◌}
use mathlib.Core.List.{[], ◌∷◌}
use mathlib.Core.Bool.{Bool, true, false, not, ◌||◌}
use native.Mathlib.Omega.{arith}
use lib.ListN.{length}
use lib.Dec.{ltb}
use Rattle.std.specs.Prelude.{Option, None, Some}
use Rattle.model.specs.Bytes.{Bytes}
use Rattle.model.specs.Choice.{Maybe, nothing, just, and_then}
use Rattle.model.specs.Lines.{fault, known, fault_or, form_step}
use Rattle.model.specs.Book.{Book}
use Rattle.model.specs.Names.{mem}
use Rattle.model.specs.Refusal.{lowest, ◌if◌}
use Rattle.model.specs.QueryText.{QueryText}
use Rattle.model.specs.Grammar.{query_text}
use Rattle.model.specs.ReadQuery.{has_undeclared, has_twice, has_mistyped, too_many, has_from_itself}
use Rattle.model.specs.Rules.{Rules, category_names}
use Rattle.model.specs.ReadRules.{RulesLine, policy, has_policy, rules_fault, add_rule}
use Rattle.query_faults.specs.TextFault.{number_or}
use Rattle.rules.specs.Faults.{fault_of}
use Rattle.rules.specs.Policies.{line_number, policy_on}
use Rattle.rules.specs.Steps.{step_of}

-- a table of a policy's faults whose number is 0 has none
none : (u v w x y : Bool) → number_or (lowest ((4 if u) ∷ (5 if v) ∷ (6 if w) ∷ (7 if x) ∷ (8 if y) ∷ [])) ≡ 0
    → lowest ((4 if u) ∷ (5 if v) ∷ (6 if w) ∷ (7 if x) ∷ (8 if y) ∷ []) ≡ nothing
unfolding lowest number_or
none true v w x y e = absurd (omega arith)
none false true w x y e = absurd (omega arith)
none false false true x y e = absurd (omega arith)
none false false false true y e = absurd (omega arith)
none false false false false true e = absurd (omega arith)
none false false false false false e = refl

module _ (b : Book) (r : Rules) where
  pub step_fault : (l : RulesLine) (o : Option ℕ) (n : ℕ) → rules_fault b r l ≡ fault_of o → o ≡ Some n → step_of b r (just l) ≡ fault n
  unfolding step_of form_step fault_or fault_of
  step_fault l o n e h = rw (e, h)

  pub step_clear : (l : RulesLine) (o : Option ℕ) → rules_fault b r l ≡ fault_of o → o ≡ None → rules_fault b r l ≡ nothing
  unfolding fault_of
  step_clear l o e h = e ∙ rw h

  pub step_known : (l : RulesLine) → rules_fault b r l ≡ nothing → step_of b r (just l) ≡ known (add_rule r l)
  unfolding step_of form_step fault_or
  step_known l e = rw e

  -- a line by its number
  pub number_fault : (o : Maybe RulesLine) (n : ℕ) → n ≡ line_number b r o → n ≢ 0 → step_of b r o ≡ fault n
  unfolding step_of form_step line_number number_or fault_or
  number_fault nothing n e h = ap fault (sym e)
  number_fault (just l) n e h = go (rules_fault b r l) e
    where
      go : (m : Maybe ℕ) → n ≡ number_or m → fault_or m (add_rule r l) ≡ fault n
      go nothing e = absurd (h e)
      go (just k) e = ap fault (sym e)

  -- a policy's line of number 0 has no fault
  pub policy_known : (n : Bytes) (size : ℕ) (tree : QueryText) → line_number b r (just (policy n size tree)) ≡ 0
      → step_of b r (just (policy n size tree)) ≡ known (add_rule r (policy n size tree))
  unfolding line_number rules_fault
  policy_known n size tree e =
      step_known (policy n size tree)
      (none (not (mem n (category_names r)) || has_undeclared b tree) (has_policy r n || has_twice tree) (has_mistyped b tree) (ltb 2048 size || too_many tree)
      (has_from_itself tree) e)

  -- a policy's line by its text
  pub text_known : (n t : Bytes) (after : Rules) → line_number b r (policy_on n t) ≡ 0
      → ((tree : QueryText) → query_text t ≡ just tree → after ≡ add_rule r (policy n (length t) tree)) → step_of b r (policy_on n t) ≡ known after
  unfolding and_then line_number
  text_known n t after e h = go (query_text t) refl e
    where
      go : (o : Maybe QueryText) → query_text t ≡ o → line_number b r (and_then o (λ (tree : QueryText). just (policy n (length t) tree))) ≡ 0
          → step_of b r (and_then o (λ (tree : QueryText). just (policy n (length t) tree))) ≡ known after
      go nothing q e = absurd (omega arith)
      go (just tree) q e = policy_known n (length t) tree e ∙ ap known (sym (h tree q))
