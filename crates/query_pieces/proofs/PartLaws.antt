-- What the readers of signs give, put to use in a row of reads.
use Prim.Native.Nat.{ℕ, ◌<◌}
use mathlib.Core.Path.{◌≡◌, refl, ap, ◌∙◌, subst}
use mathlib.Core.List.{List, [], ◌∷◌, ◌++◌}
use mathlib.Core.Bool.{Bool, true, false}
use Rattle.std.specs.Prelude.{Option, Some, None, Result, Ok, Err}
use Rattle.model.specs.Bytes.{Bytes, bytes_of}
use Rattle.model.specs.Choice.{pick, Maybe, nothing, just, and_then}
use Rattle.model.specs.Values.{Value}
use Rattle.model.specs.Signs.{Sign, mark, is_mark, sign_name, sign_value, next, expect}
use Rattle.model.specs.QueryText.{Relation, Condition}
use Rattle.model.specs.Grammar.{sign_relation}
use Rattle.model.specs.Answers.{name_at, relation_of, value_of}
use Rattle.model.specs.Places.{Bracket, none, bracket_of, Standing, vertex, variable_at}
use Rattle.model.specs.declared.Part.{Part}
use Rattle.model.specs.declared.Relation.{Relation as RelationData}
use Rattle.model.specs.declared.Value.{Value as ValueData}
use Rattle.query_signs.specs.Marks.{mark_bytes}
use Rattle.query_signs.specs.Reads.{signs_from, standings_from}
use Rattle.query_signs.specs.Expected.{behind_mark, MarkBehind, MarkStands, MarkNext, behind_name, NameBehind, NameStands, NameNext, behind_relation}
use Rattle.query_signs.specs.Expected.{RelationBehind, RelationStands, RelationNext, behind_value, ValueBehind, ValueStands, ValueNext, value_standing}
use Rattle.query_signs.proofs.ExpectLaws.{expect_then, next_then}
use Rattle.query_pieces.specs.Walk.{Walk, stopped}
use native.Mathlib.Omega.{arith}
use Rattle.query_pieces.specs.declared.Place.{Place}
use Rattle.query_pieces.specs.declared.Step.{Step}
use Rattle.query_pieces.specs.Steps.{other_then, value_then, rest_then, vertex_then, on_vertex, VertexBehind, VertexStands, VertexNext, StepBehind, StepStands}
use Rattle.query_pieces.specs.Steps.{walk_at, step_of, StepIs, StepAt}

module _ (chain close : Bool) (s : Bytes) (from code : ℕ) (r : Option ℕ) (h : MarkNext chain close s from code r) where
  pub mark_read : (q : ℕ) → r ≡ Some q → (f : List Sign → Maybe Walk)
      → expect (mark_bytes code) (signs_from chain close s from) f ≡ f (signs_from chain false s q)
  unfolding behind_mark and_then
  mark_read q e f = expect_then (mark_bytes code) (signs_from chain close s from) f ∙ rw (h.reads, e)

  pub mark_unread : r ≡ None → (f : List Sign → Maybe Walk) → expect (mark_bytes code) (signs_from chain close s from) f ≡ nothing
  unfolding behind_mark and_then
  mark_unread e f = expect_then (mark_bytes code) (signs_from chain close s from) f ∙ rw (h.reads, e)

  pub mark_moves : (q : ℕ) → r ≡ Some q → from < q
  mark_moves q e = subst (MarkBehind from) e h.moves

  pub mark_stands : (q : ℕ) → r ≡ Some q → (o : Bracket)
      → standings_from o chain close s from ≡ standings_from (bracket_of (mark (mark_bytes code))) chain false s q
  mark_stands q e o = subst (MarkStands o chain close s from code) e (h.stands o)

module _ (chain close : Bool) (s : Bytes) (from : ℕ) (r : Option (Part × ℕ)) (h : NameNext chain close s from r) where
  pub name_read : (p : Part) (q : ℕ) → r ≡ Some (p, q) → (f : Bytes → List Sign → Maybe Walk)
      → next sign_name (signs_from chain close s from) f ≡ f (name_at s p) (signs_from chain true s q)
  unfolding behind_name and_then
  name_read p q e f = next_then sign_name (signs_from chain close s from) f ∙ rw (h.reads, e)

  pub name_unread : r ≡ None → (f : Bytes → List Sign → Maybe Walk) → next sign_name (signs_from chain close s from) f ≡ nothing
  unfolding behind_name and_then
  name_unread e f = next_then sign_name (signs_from chain close s from) f ∙ rw (h.reads, e)

  pub name_moves : (p : Part) (q : ℕ) → r ≡ Some (p, q) → from < q
  name_moves p q e = subst (NameBehind from) e h.moves

  pub name_stands : (p : Part) (q : ℕ) → r ≡ Some (p, q) → (o : Bracket)
      → standings_from o chain close s from ≡ variable_at o p ++ standings_from none chain true s q
  name_stands p q e o = subst (NameStands o chain close s from) e (h.stands o)

module _ (close : Bool) (s : Bytes) (from : ℕ) (r : Option (RelationData × ℕ)) (h : RelationNext close s from r) where
  pub relation_read : (d : RelationData) (q : ℕ) → r ≡ Some (d, q) → (f : Relation → List Sign → Maybe Walk)
      → next sign_relation (signs_from false close s from) f ≡ f (relation_of d) (signs_from false false s q)
  unfolding behind_relation and_then
  relation_read d q e f = next_then sign_relation (signs_from false close s from) f ∙ rw (h.reads, e)

  pub relation_unread : r ≡ None → (f : Relation → List Sign → Maybe Walk) → next sign_relation (signs_from false close s from) f ≡ nothing
  unfolding behind_relation and_then
  relation_unread e f = next_then sign_relation (signs_from false close s from) f ∙ rw (h.reads, e)

  pub relation_moves : (d : RelationData) (q : ℕ) → r ≡ Some (d, q) → from < q
  relation_moves d q e = subst (RelationBehind from) e h.moves

  pub relation_stands : (d : RelationData) (q : ℕ) → r ≡ Some (d, q) → (o : Bracket)
      → standings_from o false close s from ≡ standings_from none false false s q
  relation_stands d q e o = subst (RelationStands o close s from) e (h.stands o)

module _ (close : Bool) (s : Bytes) (from : ℕ) (r : Option (ValueData × ℕ × Bool)) (h : ValueNext close s from r) where
  pub value_read : (v : ValueData) (q : ℕ) (c : Bool) → r ≡ Some (v, q, c) → (f : Value → List Sign → Maybe Walk)
      → next sign_value (signs_from false close s from) f ≡ f (value_of s v) (signs_from false c s q)
  unfolding behind_value and_then
  value_read v q c e f = next_then sign_value (signs_from false close s from) f ∙ rw (h.reads, e)

  pub value_unread : r ≡ None → (f : Value → List Sign → Maybe Walk) → next sign_value (signs_from false close s from) f ≡ nothing
  unfolding behind_value and_then
  value_unread e f = next_then sign_value (signs_from false close s from) f ∙ rw (h.reads, e)

  pub value_moves : (v : ValueData) (q : ℕ) (c : Bool) → r ≡ Some (v, q, c) → from < q
  value_moves v q c e = subst (ValueBehind from) e h.moves

  pub value_stands : (v : ValueData) (q : ℕ) (c : Bool) → r ≡ Some (v, q, c)
      → standings_from none false close s from ≡ value_standing v ++ standings_from none false c s q
  value_stands v q c e = subst (ValueStands close s from) e h.stands

-- a condition by the sign behind its variable
differs_read : (x : Bytes) (ts rest : List Sign) (f : Condition → List Sign → Maybe Walk) → expect (bytes_of "<>") ts just ≡ just rest
    → rest_then x ts f ≡ other_then x rest f
unfolding expect rest_then next and_then
differs_read x [] rest f e = absurd_maybe e
  where
    absurd_maybe : nothing ≡ just rest → rest_then x [] f ≡ other_then x rest f
    absurd_maybe e = cc
differs_read x (t ∷ ts) rest f e = go (is_mark (bytes_of "<>") t) e
  where
    go : (b : Bool) → pick b (just ts) nothing ≡ just rest
        → pick b (other_then x ts f) (pick (is_mark (bytes_of ".") t) (value_then x ts f) nothing) ≡ other_then x rest f
    go true e = let z : ts ≡ rest = cc in rw z
    go false e = cc

differs_unread : (x : Bytes) (ts : List Sign) (f : Condition → List Sign → Maybe Walk) → expect (bytes_of "<>") ts just ≡ nothing
    → rest_then x ts f ≡ expect (bytes_of ".") ts (λ ts. value_then x ts f)
unfolding expect rest_then next and_then
differs_unread x [] f e = refl
differs_unread x (t ∷ ts) f e = go (is_mark (bytes_of "<>") t) e
  where
    go : (b : Bool) → pick b (just ts) nothing ≡ nothing
        → pick b (other_then x ts f) (pick (is_mark (bytes_of ".") t) (value_then x ts f) nothing) ≡ pick (is_mark (bytes_of ".") t) (value_then x ts f) nothing
    go true e = cc
    go false e = refl

module _ (s : Bytes) (from : ℕ) (r : Option ℕ) (h : MarkNext false true s from 15422 r) (x : Bytes) (f : Condition → List Sign → Maybe Walk) where
  pub rest_differs : (q : ℕ) → r ≡ Some q → rest_then x (signs_from false true s from) f ≡ other_then x (signs_from false false s q) f
  unfolding behind_mark mark_bytes
  rest_differs q e = differs_read x (signs_from false true s from) (signs_from false false s q) f (h.reads ∙ ap (behind_mark false s) e)

  pub rest_asks : r ≡ None → rest_then x (signs_from false true s from) f ≡ expect (bytes_of ".") (signs_from false true s from) (λ ts. value_then x ts f)
  unfolding behind_mark mark_bytes
  rest_asks e = differs_unread x (signs_from false true s from) f (h.reads ∙ ap (behind_mark false s) e)

module _ (close : Bool) (s : Bytes) (from : ℕ) (r : Option (Part × ℕ)) (h : VertexNext close s from r) where
  pub vertex_read : (p : Part) (q : ℕ) → r ≡ Some (p, q) → (f : Bytes → List Sign → Maybe Walk)
      → vertex_then (signs_from true close s from) f ≡ f (name_at s p) (signs_from true false s q)
  unfolding on_vertex
  vertex_read p q e f = h.reads f ∙ ap (λ x. on_vertex s x f) e

  pub vertex_unread : r ≡ None → (f : Bytes → List Sign → Maybe Walk) → vertex_then (signs_from true close s from) f ≡ nothing
  unfolding on_vertex
  vertex_unread e f = h.reads f ∙ ap (λ x. on_vertex s x f) e

  pub vertex_moves : (p : Part) (q : ℕ) → r ≡ Some (p, q) → from < q
  vertex_moves p q e = subst (VertexBehind from) e h.moves

  pub vertex_stands : (p : Part) (q : ℕ) → r ≡ Some (p, q) → (o : Bracket) → standings_from o true close s from ≡ vertex p ∷ standings_from none true false s q
  vertex_stands p q e o = subst (VertexStands o close s from) e (h.stands o)

-- no vertex, and no step
pub vertex_missed : {close : Bool} {s : Bytes} {from : ℕ} → ((f : Bytes → List Sign → Maybe Walk) → vertex_then (signs_from true close s from) f ≡ nothing)
    → VertexNext close s from None
unfolding on_vertex
vertex_missed e = record { reads = e; moves = tt; inside = tt; stands = λ o. tt }

pub step_stopped : {w : Walk} {l : List Standing} {s : Bytes} {from : ℕ} → w ≡ stopped false → StepIs w l s from (Err false)
unfolding step_of
step_stopped e = record { reads = e; moves = tt; inside = tt; stands = tt; ends = refl }

pub place_stopped : {s : Bytes} {p : Place} {b : Bool} → walk_at s p ≡ stopped b → StepAt s p (Err b)
unfolding step_of
place_stopped e = record { reads = e; moves = tt; inside = tt; stands = tt }

-- what is behind a place is behind each place before it
pub step_farther : (a b : ℕ) (r : Result Step Bool) → a < b → StepBehind b r → StepBehind a r
step_farther a b (Err w) l h = tt
step_farther a b (Ok x) l h = omega arith

-- what stands before a step stands before it where it is written otherwise
pub step_stands : {l m : List Standing} (s : Bytes) (r : Result Step Bool) → l ≡ m → StepStands m s r → StepStands l s r
step_stands s (Err w) e h = tt
step_stands s (Ok x) e h = e ∙ h
