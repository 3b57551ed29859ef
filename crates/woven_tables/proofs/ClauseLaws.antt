-- Laws of the clause table: the words of a relation, a value and a clause say it. Assumes nothing.
use Prim.Native.Nat.{ℕ, ◌+◌, ◌*◌, ◌/◌, ◌%◌, ◌<◌}
use mathlib.Core.Path.{◌≡◌, refl, sym, ap, subst, ◌∙◌}
use mathlib.Core.List.{List, []}
use mathlib.Core.Bool.{Bool, true, false}
use native.Mathlib.Omega.{arith}
use lib.ListN.{get_or, drop}
use Rattle.std.specs.Int.{from_bool}
use Rattle.model.specs.Bytes.{Bytes}
use Rattle.model.specs.Values.{int, str, bool}
use lib.Dec.{eqb}
use Rattle.model.specs.Choice.{pick}
use Rattle.model.specs.Answers.{relation_of, value_of, clause_in}
use Rattle.model.specs.Book.{Book, attr_names}
use Rattle.model.specs.Pattern.{excluded, vertex_has, edge_has}
use Rattle.model.specs.declared.Relation.{Relation}
use Rattle.model.specs.declared.Requirement.{Requirement}
use Rattle.model.specs.declared.Condition.{Condition}
use Rattle.model.specs.declared.Condition.TheVariants.{Excluded, OfVertex, OfEdge}
use Rattle.model.specs.declared.Value.{Value}
use denote.Enum.Declared.{tag_of}
use Rattle.model.specs.contracts.Relation.{the_type}
use Rattle.model.specs.declared.Relation.TheVariants.{Equal, Differs, Less, AtMost, Greater, AtLeast}
use Rattle.model.specs.declared.Value.TheVariants.{Number, Text, Truth}
use Rattle.model.specs.PlainData.{ValueWithin, ConditionWithin}
use Rattle.woven_tables.specs.Tables.{text_of, relation_at, value_at, clause_at}
use Rattle.woven_tables.specs.declared.clauses.ClauseValue.{ClauseValue}
use Rattle.woven_tables.specs.declared.clauses.ClauseWords.{ClauseWords}
use Rattle.woven_tables.specs.ClauseSteps.{ValueSaid, RequirementSaid, renumbered_clause, ClauseSaid}
use Rattle.woven_tables.proofs.NameLaws.{part_of_rest}

-- a relation's number, its place among the relations, tells it
pub relation_numbered : (x : Relation) → (tag_of the_type x < 6) × (relation_at (tag_of the_type x) ≡ relation_of x)
unfolding relation_at relation_of
relation_numbered Equal = (omega arith, refl)
relation_numbered Differs = (omega arith, refl)
relation_numbered Less = (omega arith, refl)
relation_numbered AtMost = (omega arith, refl)
relation_numbered Greater = (omega arith, refl)
relation_numbered AtLeast = (omega arith, refl)

-- the words of a value, by its kind
module _ (base : ℕ) (value : Value) where
  pub number_said : (n : ℕ) → value ≡ Number n → ValueSaid base value (record { kind = 0; high = n / 4294967296; low = n % 4294967296 })
  unfolding value_at value_of
  number_said n e =
      let h : n / 4294967296 * 4294967296 + n % 4294967296 ≡ n = omega arith in
      record { kind = omega arith; said = λ text. ap int h ∙ ap (value_of (drop base text)) (sym e); inside = λ n w z. omega arith }

  pub text_said : (start size : ℕ) → value ≡ Text start size → ValueSaid base value (record { kind = 1; high = base + start; low = size })
  unfolding value_at value_of
  text_said start size e = record {
    kind = omega arith;
    said = λ text. ap str (sym (part_of_rest text base start size))
        ∙ ap (value_of (drop base text)) (sym e);
    inside = λ n w z. let f = subst (ValueWithin n) e w in omega arith;
  }

  pub truth_said : (t : Bool) (n : ℕ) → value ≡ Truth t → n ≡ from_bool t → ValueSaid base value (record { kind = 2; high = 0; low = n })
  unfolding value_at value_of
  truth_said t n e f = record {
    kind = omega arith;
    said = λ text. ap bool (bool_word t n f) ∙ ap (value_of (drop base text)) (sym e);
    inside = λ n w z. omega arith;
  }
    where
      bool_word : (t : Bool) (n : ℕ) → n ≡ from_bool t → eqb n 1 ≡ t
      bool_word true n f = rw f
      bool_word false n f = rw f

-- the attribute and the owner in a clause's first word
attribute_digit : (top a low what : ℕ) → a < 32 → low < 128 → what ≡ top * 4096 + a * 128 + low → what / 128 % 32 ≡ a
attribute_digit top a low what h g e = omega arith

owner_digit : (k owner low what : ℕ) → owner < 64 → low < 4096 → what ≡ k * 262144 + owner * 4096 + low → what / 4096 % 64 ≡ owner
owner_digit k owner low what h g e = omega arith

-- the words of a requirement
pub requirement_said : (k base kind owner : ℕ) (x : Requirement) (v : ClauseValue) (n what : ℕ) → k < 32 → kind < 4 → owner < 64 → x.attribute < 32
    → n < 6 → relation_at n ≡ relation_of x.relation → ValueSaid base x.value v
    → what ≡ k * 262144 + owner * 4096 + x.attribute * 128 + n * 16 + v.kind * 4 + kind
    → RequirementSaid k base kind owner x (record { what = what; high = v.high; low = v.low })
requirement_said k base kind owner x v n what few_texts few-kinds few-owners few-attributes few-relations relation value e =
    let a = x.attribute in
    let d = v.kind in
    let small : d < 3 = value.kind in
    let e : what ≡ k * 262144 + owner * 4096 + a * 128 + n * 16 + d * 4 + kind = e in
    let its_value : what / 4 % 4 ≡ d = omega arith in
    let its_relation : what / 16 % 8 ≡ n = omega arith in
    record {
      its_kind = omega arith;
      value = λ text. ap (λ z. value_at text z v.high v.low) its_value ∙ value.said text;
      relation = ap relation_at its_relation ∙ relation;
      attribute = attribute_digit (k * 64 + owner) a (n * 16 + d * 4 + kind) what few-attributes (omega arith) (omega arith);
      its_owner = owner_digit k owner (a * 128 + n * 16 + d * 4 + kind) what few-owners (omega arith) (omega arith);
      text_number = omega arith;
      inside = λ n w z. value.inside n w (sym its_value ∙ z);
    }

-- the words of a condition, by its kind
module _ (k base : ℕ) (numbers : List ℕ) (before : ℕ) (condition : Condition) where
  pub exclusion_said : (u v : ℕ) → condition ≡ Excluded u v
      → ClauseSaid k base numbers before condition (record { what = 0; high = get_or numbers u 0; low = get_or numbers v 0 })
  unfolding clause_at clause_in renumbered_clause
  exclusion_said u v e = record {
    is = λ b q r. ap (λ c. renumbered_clause numbers before (clause_in b (drop base (text_of q r k)) c)) (sym e);
    inside = λ q r n h w z. omega arith;
  }

  -- a requirement's parts, put together
  clause_parts : (b : Book) (q r : Bytes) (out : ClauseWords) (kind owner : ℕ) (x : Requirement) → RequirementSaid k base kind owner x out
      → clause_at b q r out.what out.high out.low
      ≡ pick (eqb kind 0) (excluded out.high out.low)
      (pick (eqb kind 1) (vertex_has owner (get_or (attr_names b.vattrs) x.attribute []) (relation_of x.relation)
      (value_of (drop base (text_of q r k)) x.value))
      (edge_has owner (get_or (attr_names b.eattrs) x.attribute []) (relation_of x.relation) (value_of (drop base (text_of q r k)) x.value)))
  unfolding clause_at
  clause_parts b q r out kind owner x said =
      let value : value_at (text_of q r (out.what / 262144)) (out.what / 4 % 4) out.high out.low ≡ value_of (drop base (text_of q r k)) x.value =
      ap (λ n. value_at (text_of q r n) (out.what / 4 % 4) out.high out.low) said.text_number ∙ said.value (text_of q r k) in
      λ i. pick (eqb (said.its_kind i) 0) (excluded out.high out.low)
      (pick (eqb (said.its_kind i) 1) (vertex_has (said.its_owner i) (get_or (attr_names b.vattrs) (said.attribute i) []) (said.relation i) (value i))
      (edge_has (said.its_owner i) (get_or (attr_names b.eattrs) (said.attribute i) []) (said.relation i) (value i)))

  pub of_vertex_said : (v : ℕ) (x : Requirement) (out : ClauseWords) → condition ≡ OfVertex v x → RequirementSaid k base 1 (get_or numbers v 0) x out
      → ClauseSaid k base numbers before condition out
  unfolding clause_in renumbered_clause
  of_vertex_said v x out e said = record {
    is = λ b q r. clause_parts b q r out 1 (get_or numbers v 0) x said
        ∙ ap (λ c. renumbered_clause numbers before (clause_in b (drop base (text_of q r k)) c)) (sym e);
    inside = λ q r n h w z. rw said.text_number (omega (arith, said.inside n (subst (ConditionWithin n) e w) z));
  }

  pub of_edge_said : (j : ℕ) (x : Requirement) (out : ClauseWords) → condition ≡ OfEdge j x → RequirementSaid k base 2 (before + j) x out
      → ClauseSaid k base numbers before condition out
  unfolding clause_in renumbered_clause
  of_edge_said j x out e said = record {
    is = λ b q r. clause_parts b q r out 2 (before + j) x said
        ∙ ap (λ c. renumbered_clause numbers before (clause_in b (drop base (text_of q r k)) c)) (sym e);
    inside = λ q r n h w z. rw said.text_number (omega (arith, said.inside n (subst (ConditionWithin n) e w) z));
  }
