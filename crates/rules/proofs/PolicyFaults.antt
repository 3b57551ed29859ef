-- The lowest fault of a policy's line is the lower one of its text's and its own.
use Prim.Native.Nat.{ℕ, ◌<◌}
use mathlib.Core.Path.{◌≡◌, refl, sym, ap, ◌∙◌}
use mathlib.Core.List.{List, [], ◌∷◌}
use mathlib.Core.Bool.{Bool, true, false, not, ◌||◌}
use lib.ListN.{length}
use lib.Dec.{leb, ltb}
use native.Mathlib.Omega.{arith}
use borrow.Author.Tests.{le-leb, lt-leb}
use Rattle.logic.specs.Tests.{either, below_or_not}
use Rattle.model.specs.Bytes.{Bytes}
use Rattle.model.specs.Choice.{Maybe, nothing, just, and_then}
use Rattle.model.specs.Names.{mem, place}
use Rattle.model.specs.Refusal.{lowest, ◌if◌}
use Rattle.model.specs.Book.{Book}
use Rattle.model.specs.QueryText.{QueryText}
use Rattle.model.specs.Grammar.{query_text}
use Rattle.model.specs.Answers.{name_at}
use Rattle.model.specs.declared.Part.{Part}
use Rattle.text.specs.Parts.{HasPart}
use Rattle.model.specs.ReadQuery.{has_undeclared, has_twice, has_mistyped, too_many, has_from_itself, query_fault}
use Rattle.model.specs.Rules.{Rules, category_names}
use Rattle.model.specs.ReadRules.{policy, has_policy, rules_fault}
use Rattle.text.proofs.PlaceLaws.{part_size}
use Rattle.book_tables.specs.View.{name_of, names_at}
use Rattle.book_tables.proofs.NameLaws.{place_named, place_mem, place_out}
use Rattle.rules_tables.specs.declared.RulesCounts.{RulesCounts}
use Rattle.rules_tables.specs.Layout.{names}
use Rattle.rules_tables.specs.View.{rules_at}
use Rattle.rules_tables.specs.Fits.{Fits}
use Rattle.rules_tables.specs.Enforced.{has_one}
use Rattle.rules_tables.proofs.Lowers.{category_names_law}
use Rattle.rules_tables.proofs.PolicyLaws.{has_policy_law}
use Rattle.query_faults.specs.TextFault.{number_or, tree_fault, text_fault}
use Rattle.rules.specs.Policies.{line_number, policy_on, combined}

combine : (u4 u5 u6 u7 u8 t4 t5 t7 : Bool)
    → number_or (lowest ((4 if (t4 || u4)) ∷ (5 if (t5 || u5)) ∷ (6 if u6) ∷ (7 if (t7 || u7)) ∷ (8 if u8) ∷ []))
    ≡ combined t4 t5 t7 (number_or (lowest ((4 if u4) ∷ (5 if u5) ∷ (6 if u6) ∷ (7 if u7) ∷ (8 if u8) ∷ [])))
unfolding lowest number_or combined
combine true u5 u6 u7 u8 true t5 t7 = refl
combine true u5 u6 u7 u8 false t5 t7 = refl
combine false true u6 u7 u8 true t5 t7 = refl
combine false true u6 u7 u8 false true t7 = refl
combine false true u6 u7 u8 false false t7 = refl
combine false false true u7 u8 true t5 t7 = refl
combine false false true u7 u8 false true t7 = refl
combine false false true u7 u8 false false t7 = refl
combine false false false true u8 true t5 t7 = refl
combine false false false true u8 false true t7 = refl
combine false false false true u8 false false true = refl
combine false false false true u8 false false false = refl
combine false false false false true true t5 t7 = refl
combine false false false false true false true t7 = refl
combine false false false false true false false true = refl
combine false false false false true false false false = refl
combine false false false false false true t5 t7 = refl
combine false false false false false false true t7 = refl
combine false false false false false false false true = refl
combine false false false false false false false false = refl

-- the line's number, by the three tests of its own and the fault of its text
pub policy_number : (b : Book) (r : Rules) (n t : Bytes)
    → line_number b r (policy_on n t) ≡ combined (not (mem n (category_names r))) (has_policy r n) (ltb 2048 (length t)) (text_fault b t)
unfolding text_fault tree_fault line_number and_then rules_fault query_fault combined
policy_number b r n t = go (query_text t)
  where
    go : (o : Maybe QueryText) → line_number b r (and_then o (λ (tree : QueryText). just (policy n (length t) tree)))
        ≡ combined (not (mem n (category_names r))) (has_policy r n) (ltb 2048 (length t)) (tree_fault b o)
    go nothing = three (not (mem n (category_names r))) (has_policy r n) (ltb 2048 (length t))
      where
        three : (a b c : Bool) → 3 ≡ combined a b c 3
        three a b c = refl
    go (just q) = combine (has_undeclared b q) (has_twice q) (has_mistyped b q) (too_many q) (has_from_itself q) (not (mem n (category_names r))) (has_policy r n)
        (ltb 2048 (length t))

-- its own tests by the number that was found for its category
module _ (text : Bytes) (words : List ℕ) (c : RulesCounts) (f : Fits text words c) (n : Bytes) where
  -- nothing else counts where the category is not declared
  unknown_alone : (x y long : Bool) (fault : ℕ) → combined true x long fault ≡ combined true y long fault
  unfolding combined
  unknown_alone x y long fault = refl

  pub policy_by_number : (m : ℕ) → m ≡ place n (names_at text words names c.categories) → (long : Bool) (fault : ℕ)
      → combined (leb c.categories m) (has_one words c m) long fault
      ≡ combined (not (mem n (category_names (rules_at text words c)))) (has_policy (rules_at text words c) n) long fault
  policy_by_number m e long fault = rw (category_names_law text words c) (either (below_or_not m c.categories)
      (λ l. let l' : place n (names_at text words names c.categories) < c.categories = omega arith in
      let d : name_of text words names m ≡ n = ap (name_of text words names) e ∙ place_named text words names c.categories n l' in
      rw (lt-leb c.categories m l, place_mem text words names c.categories n l')
      (ap (λ (b : Bool). combined false b long fault) (sym (has_policy_law text words c f m l) ∙ ap (has_policy (rules_at text words c)) d)))
      (λ l. rw (le-leb c.categories m l, place_out text words names c.categories n (omega arith))
      (unknown_alone (has_one words c m) (has_policy (rules_at text words c) n) long fault)))

-- the answer by what was found
pub policy_answer : (text : Bytes) (words : List ℕ) (c : RulesCounts) → Fits text words c → (s : Bytes) (cat t : Part) (m : ℕ) (x : Bool) (r fault : ℕ)
    → HasPart s t → m ≡ place (name_at s cat) (names_at text words names c.categories) → x ≡ has_one words c m
    → r ≡ combined (leb c.categories m) x (ltb 2048 t.length) fault
    → (b : Book) → fault ≡ text_fault b (name_at s t) → r ≡ line_number b (rules_at text words c) (policy_on (name_at s cat) (name_at s t))
unfolding name_at
policy_answer text words c f s cat t m x r fault h em ex er b ef =
    let size : length (name_at s t) ≡ t.length = part_size s t.start t.length h in
    er
    ∙ ap (λ (y : Bool). combined (leb c.categories m) y (ltb 2048 t.length) fault) ex
    ∙ policy_by_number text words c f (name_at s cat) m em (ltb 2048 t.length) fault
    ∙ ap (λ (k : ℕ). combined (not (mem (name_at s cat) (category_names (rules_at text words c)))) (has_policy (rules_at text words c) (name_at s cat))
    (ltb 2048 k) fault) (sym size)
    ∙ ap (combined (not (mem (name_at s cat) (category_names (rules_at text words c)))) (has_policy (rules_at text words c) (name_at s cat))
    (ltb 2048 (length (name_at s t)))) ef
    ∙ sym (policy_number b (rules_at text words c) (name_at s cat) (name_at s t))
