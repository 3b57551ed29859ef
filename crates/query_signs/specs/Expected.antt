-- What is expected next: a mark, a name, a relation or a value, and the signs behind it.
use Rattle.std.specs.Prelude.{ℕ, ◌<◌, ◌≡◌, List, [], ◌∷◌, ◌++◌, Bool, true, false, T, eqb, length, Option, Some, None}
use Rattle.model.specs.Bytes.{Bytes, bytes_of, same}
use Rattle.model.specs.Choice.{pick, Maybe, nothing, just}
use Rattle.model.specs.Values.{Value}
use Rattle.model.specs.Signs.{Sign, mark, sign_name, sign_value, next, expect}
use Rattle.model.specs.QueryText.{Relation}
use Rattle.model.specs.Grammar.{sign_relation}
use Rattle.model.specs.Answers.{name_at, relation_of, value_of}
use Rattle.model.specs.Places.{Bracket, none, bracket_of, Standing, value as value_at, variable_at}
use Rattle.model.specs.PlainData.{ValueWithin}
use Rattle.model.specs.declared.Part.{Part}
use Rattle.model.specs.declared.Relation.{Relation as RelationData}
use Rattle.model.specs.declared.Relation.TheVariants.{Equal, Differs, Less, AtMost, Greater, AtLeast}
use Rattle.model.specs.declared.Value.{Value as ValueData}
use Rattle.model.specs.declared.Value.TheVariants.{Number, Text, Truth}
use Rattle.text.specs.Parts.{HasPart}
use Rattle.query_signs.specs.declared.Sign.{Sign as SignData}
use Rattle.query_signs.specs.declared.Sign.TheVariants as sign
use Rattle.query_signs.specs.Marks.{mark_bytes}
use Rattle.query_signs.specs.Reads.{signs_from, standings_from}

-- what was read, and the signs behind it
pub record Then (A : Type 0) : Type 0 where
  pub got : A
  pub rest : List Sign

-- the code of a mark; 0 for any other sign
unfoldable pub code_of : SignData → ℕ
code_of (sign.Word p) = 0
code_of (sign.Whole n) = 0
code_of (sign.Text p) = 0
code_of (sign.Mark c) = c

-- the signs behind a mark
unfoldable pub behind_mark : Bool → Bytes → Option ℕ → Maybe (List Sign)
behind_mark chain s None = nothing
behind_mark chain s (Some q) = just (signs_from chain false s q)

abbrev pub MarkBehind : ℕ → Option ℕ → Type 0
MarkBehind from None = T true
MarkBehind from (Some q) = from < q

-- a mark stands before what stands behind it
abbrev pub MarkStands : Bracket → Bool → Bool → Bytes → ℕ → ℕ → Option ℕ → Type 0
MarkStands o chain close s from code None = T true
MarkStands o chain close s from code (Some q) = standings_from o chain close s from ≡ standings_from (bracket_of (mark (mark_bytes code))) chain false s q

-- r is where the expected mark ends
pub record MarkNext (chain close : Bool) (s : Bytes) (from code : ℕ) (r : Option ℕ) : Type 0 where
  pub reads : expect (mark_bytes code) (signs_from chain close s from) just ≡ behind_mark chain s r
  pub moves : MarkBehind from r
  pub stands : (o : Bracket) → MarkStands o chain close s from code r

-- a name and the signs behind it
unfoldable pub behind_name : Bool → Bytes → Option (Part × ℕ) → Maybe (Then Bytes)
behind_name chain s None = nothing
behind_name chain s (Some (p, q)) = just (record { got = name_at s p; rest = signs_from chain true s q })

abbrev pub NameBehind : ℕ → Option (Part × ℕ) → Type 0
NameBehind from None = T true
NameBehind from (Some (p, q)) = from < q

-- a name lies inside the text
abbrev pub NameInside : Bytes → Option (Part × ℕ) → Type 0
NameInside s None = T true
NameInside s (Some (p, q)) = HasPart s p

-- a name stands before what stands behind it
abbrev pub NameStands : Bracket → Bool → Bool → Bytes → ℕ → Option (Part × ℕ) → Type 0
NameStands o chain close s from None = T true
NameStands o chain close s from (Some (p, q)) = standings_from o chain close s from ≡ variable_at o p ++ standings_from none chain true s q

-- r is the name that stands next
pub record NameNext (chain close : Bool) (s : Bytes) (from : ℕ) (r : Option (Part × ℕ)) : Type 0 where
  pub reads : next sign_name (signs_from chain close s from) (λ v ts. just (record { got = v; rest = ts })) ≡ behind_name chain s r
  pub moves : NameBehind from r
  pub inside : NameInside s r
  pub stands : (o : Bracket) → NameStands o chain close s from r

-- the relation that a code is, and the place behind it
unfoldable pub relation_or : ℕ → ℕ → Option (RelationData × ℕ)
relation_or c q =
    pick (eqb c 61) (Some (Equal, q))
    (pick (eqb c 15422) (Some (Differs, q))
    (pick (eqb c 60) (Some (Less, q))
    (pick (eqb c 15421) (Some (AtMost, q))
    (pick (eqb c 62) (Some (Greater, q))
    (pick (eqb c 15933) (Some (AtLeast, q)) None)))))

-- a relation and the signs behind it, behind a chain
unfoldable pub behind_relation : Bytes → Option (RelationData × ℕ) → Maybe (Then Relation)
behind_relation s None = nothing
behind_relation s (Some (r, q)) = just (record { got = relation_of r; rest = signs_from false false s q })

abbrev pub RelationBehind : ℕ → Option (RelationData × ℕ) → Type 0
RelationBehind from None = T true
RelationBehind from (Some (r, q)) = from < q

-- a relation stands before what stands behind it
abbrev pub RelationStands : Bracket → Bool → Bytes → ℕ → Option (RelationData × ℕ) → Type 0
RelationStands o close s from None = T true
RelationStands o close s from (Some (r, q)) = standings_from o false close s from ≡ standings_from none false false s q

-- r is the relation that stands next
pub record RelationNext (close : Bool) (s : Bytes) (from : ℕ) (r : Option (RelationData × ℕ)) : Type 0 where
  pub reads : next sign_relation (signs_from false close s from) (λ x ts. just (record { got = x; rest = ts })) ≡ behind_relation s r
  pub moves : RelationBehind from r
  pub stands : (o : Bracket) → RelationStands o close s from r

-- true or false, and the place behind it
unfoldable pub truth_or : Bytes → Part → ℕ → Option (ValueData × ℕ × Bool)
truth_or s p q =
    pick (same (name_at s p) (bytes_of "true")) (Some (Truth true, q, true))
    (pick (same (name_at s p) (bytes_of "false")) (Some (Truth false, q, true)) None)

-- a value and the signs behind it, behind a chain
unfoldable pub behind_value : Bytes → Option (ValueData × ℕ × Bool) → Maybe (Then Value)
behind_value s None = nothing
behind_value s (Some (v, q, close)) = just (record { got = value_of s v; rest = signs_from false close s q })

abbrev pub ValueBehind : ℕ → Option (ValueData × ℕ × Bool) → Type 0
ValueBehind from None = T true
ValueBehind from (Some (v, q, close)) = from < q

-- a text value lies inside the text
abbrev pub ValueInside : Bytes → Option (ValueData × ℕ × Bool) → Type 0
ValueInside s None = T true
ValueInside s (Some (v, q, close)) = ValueWithin (length s) v

-- a text value, for a value that is one
unfoldable pub value_standing : ValueData → List Standing
value_standing (Number n) = []
value_standing (Text start length) = value_at (record { start = start; length = length }) ∷ []
value_standing (Truth t) = []

-- a value stands before what stands behind it
abbrev pub ValueStands : Bool → Bytes → ℕ → Option (ValueData × ℕ × Bool) → Type 0
ValueStands close s from None = T true
ValueStands close s from (Some (v, q, c)) = standings_from none false close s from ≡ value_standing v ++ standings_from none false c s q

-- r is the value that stands next
pub record ValueNext (close : Bool) (s : Bytes) (from : ℕ) (r : Option (ValueData × ℕ × Bool)) : Type 0 where
  pub reads : next sign_value (signs_from false close s from) (λ v ts. just (record { got = v; rest = ts })) ≡ behind_value s r
  pub moves : ValueBehind from r
  pub inside : ValueInside s r
  pub stands : ValueStands close s from r
