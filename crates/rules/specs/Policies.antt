-- The faults of a policy's line: those of its text as a query, and its own.
use Rattle.std.specs.Prelude.{ℕ, ◌≤◌, ◌≡◌, List, Bool, length, eqb}
use Rattle.model.specs.Bytes.{Bytes}
use Rattle.model.specs.Choice.{pick, Maybe, nothing, just, and_then}
use Rattle.model.specs.Book.{Book}
use Rattle.model.specs.QueryText.{QueryText}
use Rattle.model.specs.Grammar.{query_text}
use Rattle.model.specs.Rules.{Rules}
use Rattle.model.specs.ReadRules.{RulesLine, policy, rules_fault, add_rule}
use Rattle.model.specs.Answers.{name_at}
use Rattle.model.specs.declared.Part.{Part}
use Rattle.text.specs.Parts.{HasPart}
use Rattle.rules_tables.specs.declared.RulesCounts.{RulesCounts}
use Rattle.rules_tables.specs.View.{rules_at}
use Rattle.rules_tables.specs.Fits.{Fits}
use Rattle.item_forms.specs.Places.{WordPlaces}
use Rattle.query_faults.specs.TextFault.{number_or}
use Rattle.rules.specs.Stored.{LineAt}

-- the fault of a line after the lines before: 3 if it has no form
unfoldable pub line_number : Book → Rules → Maybe RulesLine → ℕ
line_number b r nothing = 3
line_number b r (just l) = number_or (rules_fault b r l)

-- a policy's line with this name and this text
abbrev pub policy_on : Bytes → Bytes → Maybe RulesLine
policy_on n t = and_then (query_text t) (λ (tree : QueryText). just (policy n (length t) tree))

-- the lowest fault of a policy's line: its category is not declared, has a policy already, its text is too long, and the fault of its text
unfoldable pub combined : Bool → Bool → Bool → ℕ → ℕ
combined unknown second long f =
    pick (eqb f 3) 3 (pick unknown 4 (pick (eqb f 4) 4 (pick second 5 (pick (eqb f 5) 5 (pick (eqb f 6) 6 (pick long 7 f))))))

-- a policy's line without a fault, for some book
pub record PolicyClear (text : Bytes) (words : List ℕ) (c : RulesCounts) (s : Bytes) (base : ℕ) (cat t : Part) : Type 0 where
  pub fits : Fits text words c
  pub short : length text ≤ 16384
  pub line : LineAt text base s
  pub places : WordPlaces s 0 cat
  pub inside : HasPart s t
  pub book : Book
  pub clear : line_number book (rules_at text words c) (policy_on (name_at s cat) (name_at s t)) ≡ 0

-- the words then hold the rules with it
pub record PolicyAdded (text : Bytes) (words words' : List ℕ) (c : RulesCounts) (s : Bytes) (cat t : Part) (r : RulesCounts) : Type 0 where
  pub fits : Fits text words' r
  pub is : (tree : QueryText) → query_text (name_at s t) ≡ just tree
      → rules_at text words' r ≡ add_rule (rules_at text words c) (policy (name_at s cat) (length (name_at s t)) tree)
