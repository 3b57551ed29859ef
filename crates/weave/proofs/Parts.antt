-- The text that a name stands in; a pattern whose names end within a part of it reads the same in that part and in all that follows. Assumes nothing.
use Prim.Native.Nat.{ℕ, zero, suc, ◌+◌, ◌≤◌}
use mathlib.Core.Path.{◌≡◌, refl, ap}
use mathlib.Core.List.{[], ◌∷◌}
use native.Mathlib.Omega.{arith}
use lib.ListN.{get_or, take, drop}
use lib.Seq.{take-take}
use Rattle.model.specs.Bytes.{Bytes}
use Rattle.model.specs.Book.{Book, attr_names}
use Rattle.model.specs.Values.{str}
use Rattle.model.specs.Pattern.{vertex_has, edge_has}
use Rattle.model.specs.Answers.{part_of, name_at, relation_of, value_of, edge_in, clause_in, pattern_in}
use Rattle.model.specs.declared.Value.{Value}
use Rattle.model.specs.declared.Value.TheVariants.{Number, Text, Truth}
use Rattle.model.specs.declared.Part.{Part}
use Rattle.model.specs.declared.Edge.{Edge}
use Rattle.model.specs.declared.Condition.{Condition}
use Rattle.model.specs.declared.Condition.TheVariants.{Excluded, OfVertex, OfEdge}
use Rattle.model.specs.declared.Clause.{Clause}
use Rattle.model.specs.declared.Pattern.{Pattern as PatternData}
use Rattle.model.specs.PlainData.{no_part, no_edge, no_clause, ValueWithin, ConditionWithin, PartsWithin}
use Rattle.weave.proofs.OneMore.{map_each}
use Rattle.weave.proofs.OneText.{each_take}
use mathlib.Core.Logic.{◌≢◌}
use borrow.Author.Tests.{eq-eqb, ne_eqb}
use Rattle.woven_tables.specs.Tables.{text_of}

-- the text that a name or value stands in: the query, or the rules for a policy
pub text_query : (query rules : Bytes) (k : ℕ) → k ≡ 0 → text_of query rules k ≡ query
unfolding text_of
text_query query rules k e = rw (eq-eqb k 0 e)

pub text_rules : (query rules : Bytes) (k : ℕ) → k ≢ 0 → text_of query rules k ≡ rules
unfolding text_of
text_rules query rules k e = rw (ne_eqb k 0 e)

part_of_front : (s : Bytes) (i n size : ℕ) → i + n ≤ size → take n (drop i (take size s)) ≡ take n (drop i s)
part_of_front s zero n size h = take-take n size s (omega arith)
part_of_front s (suc i) n zero h = absurd (omega arith)
part_of_front [] (suc i) n (suc size) h = refl
part_of_front (x ∷ s) (suc i) n (suc size) h = part_of_front s i n size (omega arith)

module _ (text : Bytes) (size : ℕ) where
  name_in_front : (n : Part) → n.start + n.length ≤ size → name_at (take size text) n ≡ name_at text n
  unfolding name_at part_of
  name_in_front n h = part_of_front text n.start n.length size h

  value_in_front : (v : Value) → ValueWithin size v → value_of (take size text) v ≡ value_of text v
  unfolding value_of part_of
  value_in_front (Number n) h = refl
  value_in_front (Text s l) h = ap str (part_of_front text s l size h)
  value_in_front (Truth t) h = refl

  clause_in_front : (b : Book) (x : Condition) → ConditionWithin size x → clause_in b (take size text) x ≡ clause_in b text x
  unfolding clause_in
  clause_in_front b (Excluded u v) h = refl
  clause_in_front b (OfVertex v x) h = ap (vertex_has v (get_or (attr_names b.vattrs) x.attribute []) (relation_of x.relation))
      (value_in_front x.value h)
  clause_in_front b (OfEdge e x) h = ap (edge_has e (get_or (attr_names b.eattrs) x.attribute []) (relation_of x.relation)) (value_in_front x.value h)

  pub pattern_in_front : (b : Book) (p : PatternData) → PartsWithin size p → pattern_in b (take size text) p ≡ pattern_in b text p
  unfolding pattern_in edge_in
  pattern_in_front b p within =
      let vertices = map_each (λ (n : Part). n.start + n.length ≤ size) (name_at (take size text)) (name_at text)
      (take p.counts.vertices p.vertices)
      (each_take (λ (n : Part). n.start + n.length ≤ size) no_part p.vertices p.counts.vertices within.vertices) name_in_front in
      let edges = map_each (λ (e : Edge). e.name.start + e.name.length ≤ size) (edge_in b (take size text)) (edge_in b text)
      (take p.counts.edges p.edges) (each_take (λ (e : Edge). e.name.start + e.name.length ≤ size) no_edge p.edges p.counts.edges
      within.edges)
      (λ e h. λ i. record { name = name_in_front e.name h i; label = get_or b.labels e.label []; from = e.from; to = e.to }) in
      let clauses = map_each (λ (x : Clause). ConditionWithin size x.condition) (λ (x : Clause). clause_in b (take size text) x.condition)
      (λ (x : Clause). clause_in b text x.condition) (take p.counts.clauses p.clauses)
      (each_take (λ (x : Clause). ConditionWithin size x.condition) no_clause p.clauses p.counts.clauses within.clauses)
      (λ x h. clause_in_front b x.condition h) in
      λ i. record { vertices = vertices i; edges = edges i; clauses = clauses i; returns = take p.counts.returns p.returns }
