-- Words of rows: a word past the last row is 0, another is that word of its row; and a condition's row from its value's.
use Prim.Native.Nat.{ℕ, ◌+◌, ◌/◌, ◌%◌, ◌≤◌, ◌<◌}
use mathlib.Core.Path.{◌≡◌, refl, sym, ap, ◌∙◌}
use mathlib.Core.Bool.{Bool, true, false}
use mathlib.Core.List.{List, [], ◌∷◌}
use lib.ListN.{get_or}
use borrow.Author.Tests.{le-leb, lt-leb}
use Rattle.model.specs.declared.Value.{Value}
use Rattle.model.specs.declared.Value.TheVariants.{Number, Text, Truth}
use Rattle.model.specs.declared.Requirement.{Requirement}
use denote.Enum.Declared.{tag_of}
use Rattle.model.specs.contracts.Relation.{the_type}
use Rattle.model.specs.declared.Relation.{Relation}
use Rattle.model.specs.declared.Relation.TheVariants.{Equal, Differs, Less, AtMost, Greater, AtLeast}
use Rattle.std.specs.Int.{from_bool}
use Rattle.answer_words.specs.Words.{row_word, relation_word, value_row, requirement_row}

module _ (width count : ℕ) (row : ℕ → List ℕ) (k : ℕ) where
  pub past_rows : count ≤ k / width → 0 ≡ row_word width count row k
  unfolding row_word
  past_rows h = rw (le-leb count (k / width) h)

  pub in_row : (xs : List ℕ) → k / width < count → xs ≡ row (k / width) → get_or xs (k % width) 0 ≡ row_word width count row k
  unfolding row_word
  in_row xs h e = ap (λ (l : List ℕ). get_or l (k % width) 0) e ∙ sym (rw (lt-leb count (k / width) h))

-- the row of a truth value
pub row_of_truth : (v : Value) (t : Bool) (n : ℕ) → v ≡ Truth t → n ≡ from_bool t → 3 ∷ n ∷ 0 ∷ [] ≡ value_row v
unfolding value_row
row_of_truth v true n e f = rw (e, f)
row_of_truth v false n e f = rw (e, f)

-- a value's row has three words
three_words : (v : Value) → get_or (value_row v) 0 0 ∷ get_or (value_row v) 1 0 ∷ get_or (value_row v) 2 0 ∷ [] ≡ value_row v
unfolding value_row
three_words (Number n) = refl
three_words (Text s n) = refl
three_words (Truth t) = refl

-- a relation's word is one more than its place among the relations
pub relation_told : (r : Relation) → 1 + tag_of the_type r ≡ relation_word r
unfolding relation_word
relation_told Equal = refl
relation_told Differs = refl
relation_told Less = refl
relation_told AtMost = refl
relation_told Greater = refl
relation_told AtLeast = refl

-- a requirement's row from the relation's number and the value's row
pub row_of_requirement : (kind owner : ℕ) (x : Requirement) (n : ℕ) (w : List ℕ) → n ≡ relation_word x.relation → w ≡ value_row x.value
    → kind ∷ owner ∷ x.attribute ∷ n ∷ get_or w 0 0 ∷ get_or w 1 0 ∷ get_or w 2 0 ∷ [] ≡ requirement_row kind owner x
unfolding requirement_row
row_of_requirement kind owner x n w e f =
    ap (λ (m : ℕ). kind ∷ owner ∷ x.attribute ∷ m ∷ get_or w 0 0 ∷ get_or w 1 0 ∷ get_or w 2 0 ∷ []) e
    ∙ ap (λ (l : List ℕ). kind ∷ owner ∷ x.attribute ∷ relation_word x.relation ∷ get_or l 0 0 ∷ get_or l 1 0 ∷ get_or l 2 0 ∷ []) f
    ∙ ap (λ (l : List ℕ). kind ∷ owner ∷ x.attribute ∷ relation_word x.relation ∷ l) (three_words x.value)
