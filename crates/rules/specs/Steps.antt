-- One line more: its lowest fault, or the rules with it; and what the words then hold.
use Rattle.std.specs.Prelude.{ℕ, ◌≤◌, ◌≡◌, List, length, Result, Ok, Err}
use Rattle.model.specs.Bytes.{Bytes}
use Rattle.model.specs.Choice.{Maybe, just}
use Rattle.model.specs.Lines.{Step, fault, known, fault_or, form_step}
use Rattle.model.specs.Book.{Book}
use Rattle.model.specs.Rules.{Rules}
use Rattle.model.specs.ReadRules.{RulesLine, category, rules_fault, add_rule}
use Rattle.model.specs.Answers.{name_at}
use Rattle.model.specs.declared.Part.{Part}
use Rattle.text.specs.Parts.{HasPart}
use Rattle.rules_tables.specs.declared.RulesCounts.{RulesCounts}
use Rattle.rules_tables.specs.View.{rules_at}
use Rattle.rules_tables.specs.Fits.{Fits}
use Rattle.item_forms.specs.Places.{WordPlaces}
use Rattle.name_lists.specs.Names.{NamesRead, names_behind}
use Rattle.query_faults.specs.TextFault.{text_fault}
use Rattle.rules.specs.Stored.{LineAt}
use Rattle.rules.specs.Policies.{policy_on}

-- what a line, as it was read, gives after the rules before
unfoldable pub step_of : Book → Rules → Maybe RulesLine → Step Rules
step_of b r line = form_step line (λ x. fault_or (rules_fault b r x) (add_rule r x))

-- what the words hold after a line: nothing is said after a fault, else the rules with the line
abbrev pub Stepped : Bytes → List ℕ → Result RulesCounts ℕ → Step Rules → Type 0
Stepped text words (Err n) s = s ≡ fault n
Stepped text words (Ok c) s = (s ≡ known (rules_at text words c)) × Fits text words c

-- a category's line with its lists
pub record CategoryGiven (text : Bytes) (words : List ℕ) (c : RulesCounts) (s : Bytes) (base : ℕ) (cat : Part) (a o : ℕ) : Type 0 where
  pub fits : Fits text words c
  pub short : length text ≤ 16384
  pub line : LineAt text base s
  pub places : WordPlaces s 0 cat
  pub actors : NamesRead
  pub over : NamesRead
  pub actors_are : names_behind s a ≡ just actors
  pub over_are : names_behind s o ≡ just over

-- what it gives, in every book
abbrev pub CategoryStepped : Bytes → List ℕ → List ℕ → RulesCounts → Bytes → Part → ℕ → ℕ → Result RulesCounts ℕ → Type 0
CategoryStepped text words words' c s cat a o r =
    (b : Book) (x y : NamesRead) → names_behind s a ≡ just x → names_behind s o ≡ just y
    → Stepped text words' r (step_of b (rules_at text words c) (just (category (name_at s cat) x.names y.names)))

-- a policy's line with the fault of its text as a query, in some book
pub record PolicyGiven (text : Bytes) (words : List ℕ) (c : RulesCounts) (s : Bytes) (base : ℕ) (cat t : Part) (number : ℕ) : Type 0 where
  pub fits : Fits text words c
  pub short : length text ≤ 16384
  pub line : LineAt text base s
  pub places : WordPlaces s 0 cat
  pub inside : HasPart s t
  pub book : Book
  pub is : number ≡ text_fault book (name_at s t)

-- what it gives, in every book in which its text has this fault
abbrev pub PolicyStepped : Bytes → List ℕ → List ℕ → RulesCounts → Bytes → Part → Part → ℕ → Result RulesCounts ℕ → Type 0
PolicyStepped text words words' c s cat t number r =
    (b : Book) → number ≡ text_fault b (name_at s t) → Stepped text words' r (step_of b (rules_at text words c) (policy_on (name_at s cat) (name_at s t)))
