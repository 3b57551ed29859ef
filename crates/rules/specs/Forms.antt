-- What the form of a line says: the line that the model reads, by places.
use Rattle.std.specs.Prelude.{ℕ, ◌≡◌, List, Bool, true, length, Option, None, Some}
use Rattle.model.specs.Bytes.{Bytes}
use Rattle.model.specs.Choice.{Maybe, nothing, just, and_then}
use Rattle.model.specs.Items.{Item}
use Rattle.model.specs.Forms.{first}
use Rattle.model.specs.Grammar.{query_text}
use Rattle.model.specs.ReadRules.{RulesLine, category, policy, names_after}
use Rattle.model.specs.Answers.{name_at}
use Rattle.model.specs.declared.Part.{Part}
use Rattle.text.specs.Parts.{HasPart}
use Rattle.item_forms.specs.Ends.{line_at}
use Rattle.item_forms.specs.Places.{WordPlaces}
use Rattle.name_lists.specs.Names.{NamesRead, names_behind}
use Rattle.rules.specs.declared.RulesForm.{RulesForm}
use Rattle.rules.specs.declared.RulesForm.TheVariants.{Category, Policy}

-- what the model makes of the form from the place i on, where a list of names with this head follows
abbrev pub after_list : Bytes → Bytes → Bool → ℕ → (List Bytes → List Item → Maybe RulesLine) → Maybe RulesLine
after_list head s free i k = line_at free i s (λ is. first (names_after head) is k)

-- a list of names: its names stand from the place a on, and the form goes on at the place e
pub record ListRead (head s : Bytes) (i a e : ℕ) : Type 0 where
  pub read : NamesRead
  pub is : names_behind s a ≡ just read
  pub line : (free : Bool) (k : List Bytes → List Item → Maybe RulesLine) → after_list head s free i k ≡ line_at true e s (k read.names)

-- such a list, or that there is none
abbrev pub NamesList : Bytes → Bytes → ℕ → Option (ℕ × ℕ) → Type 0
NamesList head s i (Some (a, e)) = ListRead head s i a e
NamesList head s i None = (free : Bool) (k : List Bytes → List Item → Maybe RulesLine) → after_list head s free i k ≡ nothing

-- a category's line: its name, its actors' names from a on, the names of those it is over from o on
pub record CategoryRead (s : Bytes) (line : Maybe RulesLine) (cat : Part) (a o : ℕ) : Type 0 where
  pub places : WordPlaces s 0 cat
  pub actors : NamesRead
  pub over : NamesRead
  pub actors_are : names_behind s a ≡ just actors
  pub over_are : names_behind s o ≡ just over
  pub is : line ≡ just (category (name_at s cat) actors.names over.names)

-- a policy's line: its category's name, its text
pub record PolicyRead (s : Bytes) (line : Maybe RulesLine) (cat t : Part) : Type 0 where
  pub places : WordPlaces s 0 cat
  pub inside : HasPart s t
  pub is : line ≡ and_then (query_text (name_at s t)) (λ tree. just (policy (name_at s cat) (length (name_at s t)) tree))

-- what a form says of the line that the model reads
abbrev pub FormRead : Bytes → Maybe RulesLine → Option RulesForm → Type 0
FormRead s line (Some (Category cat a o)) = CategoryRead s line cat a o
FormRead s line (Some (Policy cat t)) = PolicyRead s line cat t
FormRead s line None = line ≡ nothing
