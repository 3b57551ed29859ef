-- Where an attribute is absent, no condition of a text and no clause of a pattern on it holds: of a vertex or of an edge, whatever the relation and the value.
use Prim.Native.Nat.{ℕ}
use mathlib.Core.Path.{◌≡◌, refl, sym, subst}
use mathlib.Core.Logic.{⊎_elim, ◌↔◌, ◌≢◌}
use mathlib.Core.List.{List, [], ◌∷◌}
use mathlib.Core.Bool.{false}
use lib.Dec.{T}
use Rattle.model.specs.Bytes.{Bytes, same}
use Rattle.model.specs.Choice.{nothing}
use Rattle.model.specs.Names.{mem}
use Rattle.model.specs.Values.{Value, Entry}
use Rattle.model.specs.Book.{Book}
use Rattle.model.specs.QueryText.{Relation, demand}
use Rattle.model.specs.Pattern.{vertex_has, edge_has}
use Rattle.model.specs.Graph.{Each, node_entries, rel_entries, value_in, meets}
use Rattle.model.specs.Models.{Mapping, entries_of, ConditionHolds, condition_holds}
use Rattle.model.specs.Satisfies.{NumberedMapping, ClauseHolds, clause_holds}
use Rattle.model.proofs.Decides.{same→eq, same_refl}
use Rattle.model.proofs.Members.{◌∈◌, test, is_true, is_false, mem_i, mem_e}
use Rattle.model.proofs.Outcomes.{no_just}

-- an attribute is absent: no entry is of its name
abbrev pub Absent : List Entry → Bytes → Type 0
Absent es a = Each (λ e. e.attr ≢ a) es

-- it has no value exactly if it is absent
pub absent_no_value : (es : List Entry) (a : Bytes) → Absent es a ↔ (value_in es a ≡ nothing)
unfolding value_in
absent_no_value [] a = (λ u. refl, λ d. tt)
absent_no_value (e ∷ es) a = ⊎_elim
    (λ t. (λ u. absurd (u.0 (same→eq e.attr a t)), λ d. no_just _ (sym (rw (is_true (same e.attr a) t) at d))))
    (λ t. (
      λ u. rw (is_false (same e.attr a) t) ((absent_no_value es a).0 u.1),
      λ d. (λ p. t (subst (λ z. T (same e.attr z)) p (same_refl e.attr)), (absent_no_value es a).1 (rw (is_false (same e.attr a) t) at d)),
    ))
    (test (same e.attr a))

-- what has no value meets no requirement
pub no_value_meets_nothing : (r : Relation) (x : Value) → T (meets nothing r x) → ⊥
unfolding meets
no_value_meets_nothing r x t = t

-- an absent attribute meets no requirement, "differs from" included
pub absent_meets_nothing : (es : List Entry) (a : Bytes) → Absent es a → (r : Relation) (x : Value) → T (meets (value_in es a) r x) → ⊥
absent_meets_nothing es a h r x t = no_value_meets_nothing r x (subst (λ z. T (meets z r x)) ((absent_no_value es a).0 h) t)

module _ (b : Book) (a : Bytes) (r : Relation) (x : Value) where
  -- a condition of a text on a vertex variable, es being the edge variables of the text
  pub absent_vertex_condition : (m : Mapping) (es : List Bytes) (v : Bytes) → (v ∈ es → ⊥) → Absent (node_entries b (m.node v)) a
      → (ConditionHolds b m es (demand v a r x) → ⊥) × (condition_holds b m es (demand v a r x) ≡ false)
  unfolding entries_of condition_holds
  absent_vertex_condition m es v k h = rw (is_false (mem v es) (λ t. k (mem_e v es t))) (none, is_false _ none)
    where
      none : T (meets (value_in (node_entries b (m.node v)) a) r x) → ⊥
      none = absent_meets_nothing (node_entries b (m.node v)) a h r x

  -- a condition of a text on an edge variable
  pub absent_edge_condition : (m : Mapping) (es : List Bytes) (e : Bytes) → e ∈ es → Absent (rel_entries b (m.rel e)) a
      → (ConditionHolds b m es (demand e a r x) → ⊥) × (condition_holds b m es (demand e a r x) ≡ false)
  unfolding entries_of condition_holds
  absent_edge_condition m es e k h = rw (is_true (mem e es) (mem_i e es k)) (none, is_false _ none)
    where
      none : T (meets (value_in (rel_entries b (m.rel e)) a) r x) → ⊥
      none = absent_meets_nothing (rel_entries b (m.rel e)) a h r x

  -- a clause of a pattern on a vertex
  pub absent_vertex_clause : (m : NumberedMapping) (v : ℕ) → Absent (node_entries b (m.node v)) a
      → (ClauseHolds b m (vertex_has v a r x) → ⊥) × (clause_holds b m (vertex_has v a r x) ≡ false)
  unfolding clause_holds
  absent_vertex_clause m v h = let none = absent_meets_nothing (node_entries b (m.node v)) a h r x in (none, is_false _ none)

  -- a clause of a pattern on an edge
  pub absent_edge_clause : (m : NumberedMapping) (e : ℕ) → Absent (rel_entries b (m.rel e)) a
      → (ClauseHolds b m (edge_has e a r x) → ⊥) × (clause_holds b m (edge_has e a r x) ≡ false)
  unfolding clause_holds
  absent_edge_clause m e h = let none = absent_meets_nothing (rel_entries b (m.rel e)) a h r x in (none, is_false _ none)
