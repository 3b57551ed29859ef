-- The enforced policies by places: the policy of a category, and those of the categories in a lower set, in their order.
use Rattle.std.specs.Prelude.{ℕ, zero, suc, ◌+◌, List, [], ◌∷◌, ◌++◌, Bool, not, ◌&&◌, eqb, ltb}
use Rattle.bits.specs.Word.{bit}
use Rattle.model.specs.Bytes.{Bytes}
use Rattle.model.specs.Choice.{pick}
use Rattle.model.specs.Lists.{any, place_where}
use Rattle.model.specs.Rules.{Policy}
use Rattle.book_tables.specs.Listed.{listed}
use Rattle.rules_tables.specs.declared.RulesCounts.{RulesCounts}
use Rattle.book_tables.specs.View.{word_at}
use Rattle.rules_tables.specs.Layout.{over_count_at}
use Rattle.rules_tables.specs.View.{lower_set, policy_category, policy_of}

-- the number of the policy of category m, or how many there are where it has none
unfoldable pub policy_place : List ℕ → RulesCounts → ℕ → ℕ
policy_place words c m = place_where (λ w. eqb w m) (listed (policy_category words) c.policies)

-- the policy of category m, if it has one
unfoldable pub policies_of : Bytes → List ℕ → RulesCounts → ℕ → List Policy
policies_of text words c m = pick (ltb (policy_place words c m) c.policies) (policy_of text words (policy_place words c m) ∷ []) []

-- the policies of the categories below m that are in the lower set of category k
unfoldable pub enforced_below : Bytes → List ℕ → RulesCounts → ℕ → ℕ → List Policy
enforced_below text words c k zero = []
enforced_below text words c k (suc m) = enforced_below text words c k m ++ pick (bit (lower_set words k) m) (policies_of text words c m) []

-- category k has a policy
abbrev pub has_one : List ℕ → RulesCounts → ℕ → Bool
has_one words c k = ltb (policy_place words c k) c.policies

-- category k is over nothing and has no policy
abbrev pub uncovered : List ℕ → RulesCounts → ℕ → Bool
uncovered words c k = eqb (word_at words (over_count_at k)) 0 && not (has_one words c k)

-- some category is
unfoldable pub uncovered_in : List ℕ → RulesCounts → Bool
uncovered_in words c = any (uncovered words c) (listed (λ k. k) c.categories)
