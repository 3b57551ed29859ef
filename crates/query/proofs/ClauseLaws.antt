-- Conditions by numbers: what they name is there, and each is the model's clause.
use Prim.Native.Nat.{ℕ, ◌+◌, ◌<◌, ◌≤◌}
use mathlib.Core.Path.{◌≡◌, refl, sym, ap, ap₂, subst, ◌∙◌}
use mathlib.Core.List.{List, [], ◌∷◌, ◌++◌, map, append-nil, append_assoc}
use mathlib.Core.Bool.{Bool, true, false, ◌&&◌}
use native.Mathlib.Numerals.{add-one}
use native.Mathlib.Omega.{arith}
use lib.ListN.{length, take, get_or, set, length-set}
use lib.Seq.{take-suc-set}
use lib.Dec.{T}
use Rattle.std.specs.Prelude.{Result, Ok, Err}
use Rattle.model.specs.Bytes.{Bytes}
use Rattle.model.specs.Choice.{pick}
use Rattle.model.specs.Lists.{joined}
use Rattle.model.specs.Names.{mem, place}
use Rattle.model.specs.Book.{Book, attr_names}
use Rattle.model.specs.QueryText.{Condition, differ, demand}
use Rattle.model.specs.Pattern.{Clause, vertex_has, edge_has, clause_of}
use Rattle.model.specs.Answers.{name_at, relation_of, value_of, clause_in}
use Rattle.model.specs.Places.{value_part, value_parts}
use Rattle.model.specs.PlainData.{no_clause}
use Rattle.model.specs.WholeAnswers.{first_part, relation_data, value_data, behind_value, clause_data, behind_clause, clauses_data}
use Rattle.model.specs.declared.Part.{Part}
use Rattle.model.specs.declared.Relation.{Relation as RelationData}
use Rattle.model.specs.declared.Relation.TheVariants.{Equal, Differs, Less, AtMost, Greater, AtLeast}
use Rattle.model.specs.declared.Value.{Value as ValueData}
use Rattle.model.specs.declared.Value.TheVariants.{Number, Text, Truth}
use Rattle.model.specs.declared.Condition.{Condition as ConditionData}
use Rattle.model.specs.declared.Condition.TheVariants.{Excluded, OfVertex, OfEdge}
use Rattle.model.specs.declared.Clause.{Clause as ClauseData}
use Rattle.model.proofs.Members.{mem_e}
use Rattle.model.proofs.Places.{at_place, length_map, map_append, joined_end}
use Rattle.book_tables.specs.declared.BookCounts.{BookCounts}
use Rattle.book_tables.specs.Layout.{vattr_names, eattr_names}
use Rattle.book_tables.specs.View.{book_at}
use Rattle.book_tables.proofs.NameLaws.{length_names, attr_names_law}
use Rattle.query_pieces.specs.declared.Demand.{Demand}
use Rattle.query_pieces.specs.declared.Place.{Place}
use Rattle.query_pieces.specs.declared.Step.{Step}
use Rattle.query_pieces.specs.Named.{edges_in, condition_in, conditions_in}
use Rattle.query_pieces.specs.Steps.{piece_of, piece_standing, walk_at, StepAt}
use Rattle.query_signs.specs.Expected.{value_standing}
use Rattle.query_survey.specs.Names.{found_at, text_start, text_pieces}
use Rattle.query_survey.proofs.ScanLaws.{step_list, step_none}
use Rattle.query_writer.specs.Writable.{Limits, ConditionFits}
use Rattle.query.specs.Clauses.{Clauses}
use Rattle.query.specs.Clauses.{requirement_in, demand_in, no_clauses}
use Rattle.query.proofs.ArrayLaws.{Blank, room_for, length_taken, taken_more, each_more, blank_more}
use Rattle.query.proofs.StandingLaws.{PartsSoFar, parts_start, parts_on, parts_all}
use Rattle.query.proofs.VertexLaws.{vertex_names_in}

-- a condition names what is there: two vertices; or a vertex or an edge with an attribute that is declared for it
unfoldable pub known : Book → List Bytes → List Bytes → Condition → Bool
known b vs es (differ v u) = mem v vs && mem u vs
known b vs es (demand x a r v) = pick (mem x vs) (mem a (attr_names b.vattrs)) (mem x es && mem a (attr_names b.eattrs))

-- the edge variables of a text, and the clauses that its conditions are
abbrev pub text_edges : Bytes → List Bytes
text_edges s = edges_in (text_pieces s)

abbrev pub text_clauses : Bytes → List Clause
text_clauses s = map (clause_of (vertex_names_in s) (text_edges s)) (conditions_in (text_pieces s))

-- the condition that a requirement of a text is
abbrev pub demand_of : Bytes → Demand → Condition
demand_of s d = demand (name_at s d.subject) (name_at s d.attribute) (relation_of d.relation) (value_of s d.value)

-- how many there are of what a text's conditions name by number
abbrev pub text_limits : BookCounts → Bytes → Limits
text_limits c s = record { vertices = length (vertex_names_in s); edges = length (text_edges s); labels = c.labels; vattrs = c.vattrs; eattrs = c.eattrs }

-- the part of a condition's text value
unfoldable pub condition_parts : ConditionData → List Part
condition_parts (Excluded u v) = []
condition_parts (OfVertex v x) = joined value_part (value_standing x.value)
condition_parts (OfEdge e x) = joined value_part (value_standing x.value)

-- r is what a clause is as data, its text value at the first of some parts
abbrev pub ToldAs : Book → Clause → ConditionData → Type 0
ToldAs b c r = (ps : List Part) → (clause_data b (condition_parts r ++ ps) c ≡ r) × (behind_clause (condition_parts r ++ ps) c ≡ ps)

-- so each of a list
unfoldable pub AllTold : Book → List Clause → List ClauseData → Type 0
AllTold b [] [] = Unit {0}
AllTold b [] (r ∷ rs) = ⊥
AllTold b (c ∷ cs) [] = ⊥
AllTold b (c ∷ cs) (r ∷ rs) = ToldAs b c r.condition × AllTold b cs rs

-- r is a clause by numbers, its text value at these parts
pub record ConditionRead (b : Book) (m : Limits) (s : Bytes) (c : Clause) (ps : List Part) (r : ConditionData) : Type 0 where
  pub is : clause_in b s r ≡ c
  pub fits : ConditionFits m r
  pub told : ToldAs b c r
  pub parts : condition_parts r ≡ ps

-- the clauses found so far, and the parts of their text values
abbrev pub clauses_of : Book → Bytes → Clauses → List Clause
clauses_of b s r = map (λ c. clause_in b s c.condition) (take r.count r.items)

abbrev pub value_parts_of : Clauses → List Part
value_parts_of r = joined (λ c. condition_parts c.condition) (take r.count r.items)

-- r are these clauses, by numbers
pub record ClausesRead (b : Book) (m : Limits) (s : Bytes) (cs : List Clause) (r : Clauses) : Type 0 where
  pub few : r.count ≤ 32
  pub sized : length r.items ≡ 32
  pub is : clauses_of b s r ≡ cs
  pub each : (i : ℕ) → i < r.count → ConditionFits m (get_or r.items i no_clause).condition
  pub told : AllTold b cs (take r.count r.items)
  pub blank : Blank 32 no_clause r.count r.items

-- r are the clauses with more behind them, their text values at more parts
pub record MoreClauses (b : Book) (m : Limits) (s : Bytes) (old : Clauses) (more : List Clause) (ps : List Part) (r : Clauses) : Type 0 where
  pub read : ClausesRead b m s (clauses_of b s old ++ more) r
  pub parts : value_parts_of r ≡ value_parts_of old ++ ps

-- r are the clauses of a text; of a whole one, each text value stands at its place
pub record TextClausesRead (b : Book) (m : Limits) (s : Bytes) (r : Clauses) : Type 0 where
  pub read : ClausesRead b m s (text_clauses s) r
  pub parts : (walk_at s text_start).whole ≡ true → value_parts_of r ≡ value_parts s

-- both of two tests
pub both_left : (x y : Bool) → (x && y) ≡ true → x ≡ true
both_left true y h = refl
both_left false y h = h

pub both_right : (x y : Bool) → (x && y) ≡ true → y ≡ true
both_right true y h = h
both_right false y h = cc

-- a name of a list stands at its place
place_of : (w : Bytes) (ws : List Bytes) → mem w ws ≡ true → (place w ws < length ws) × (get_or ws (place w ws) [] ≡ w)
place_of w ws h = at_place ws w (mem_e w ws (subst T (sym h) tt))

-- as many attributes as are counted
module _ (text : Bytes) (words : List ℕ) (c : BookCounts) where
  pub count_vattrs : length (attr_names (book_at text words c).vattrs) ≡ c.vattrs
  unfolding book_at
  count_vattrs = ap length (attr_names_law text words vattr_names c.vattrs) ∙ length_names text words vattr_names c.vattrs

  pub count_eattrs : length (attr_names (book_at text words c).eattrs) ≡ c.eattrs
  unfolding book_at
  count_eattrs = ap length (attr_names_law text words eattr_names c.eattrs) ∙ length_names text words eattr_names c.eattrs

-- a relation and a value as data
relation_told : (d : RelationData) → relation_data (relation_of d) ≡ d
unfolding relation_data relation_of
relation_told Equal = refl
relation_told Differs = refl
relation_told Less = refl
relation_told AtMost = refl
relation_told Greater = refl
relation_told AtLeast = refl

value_told : (s : Bytes) (v : ValueData) (ps : List Part) → value_data (joined value_part (value_standing v) ++ ps) (value_of s v) ≡ v
unfolding value_data value_of value_standing value_part joined first_part
value_told s (Number n) ps = refl
value_told s (Text start length) ps = refl
value_told s (Truth t) ps = refl

value_passed : (s : Bytes) (v : ValueData) (ps : List Part) → behind_value (joined value_part (value_standing v) ++ ps) (value_of s v) ≡ ps
unfolding behind_value value_of value_standing value_part joined
value_passed s (Number n) ps = refl
value_passed s (Text start length) ps = refl
value_passed s (Truth t) ps = refl

-- one clause told behind others
all_told_more : (b : Book) (cs : List Clause) (rs : List ClauseData) (c : Clause) (r : ClauseData) → AllTold b cs rs → ToldAs b c r.condition
    → AllTold b (cs ++ (c ∷ [])) (rs ++ (r ∷ []))
unfolding AllTold
all_told_more b [] [] c r h k = (k, tt)
all_told_more b [] (x ∷ rs) c r h k = absurd h
all_told_more b (x ∷ cs) [] c r h k = absurd h
all_told_more b (x ∷ cs) (y ∷ rs) c r h k = (h.0, all_told_more b cs rs c r h.1 k)

-- clauses that are told are the model's clauses as data, their text values at the same parts
pub clauses_data_law : (b : Book) (cs : List Clause) (rs : List ClauseData) → AllTold b cs rs
    → clauses_data b (joined (λ c. condition_parts c.condition) rs) cs ≡ rs
unfolding AllTold clauses_data joined
clauses_data_law b [] [] h = refl
clauses_data_law b [] (r ∷ rs) h = absurd h
clauses_data_law b (c ∷ cs) [] h = absurd h
clauses_data_law b (c ∷ cs) (r ∷ rs) h =
    let later = joined (λ c. condition_parts c.condition) rs in
    let told = h.0 later in
    ap₂ (λ (x : ConditionData) (xs : List ClauseData). record { condition = x } ∷ xs) told.0
    (ap (λ ps. clauses_data b ps cs) told.1 ∙ clauses_data_law b cs rs h.1)

-- a condition of what is there, by its numbers
module _ (b : Book) (m : Limits) (s : Bytes) (vs es : List Bytes) (vertices : length vs ≡ m.vertices) where
  pub excluded_read : (v u : Bytes) → known b vs es (differ v u) ≡ true
      → ConditionRead b m s (clause_of vs es (differ v u)) [] (Excluded (place v vs) (place u vs))
  unfolding known clause_in clause_of clause_data behind_clause condition_parts
  excluded_read v u h =
      let p = place_of v vs (both_left (mem v vs) (mem u vs) h) in
      let q = place_of u vs (both_right (mem v vs) (mem u vs) h) in
      record { is = refl; fits = (omega (arith, p.0), omega (arith, q.0)); told = λ ps. (refl, refl); parts = refl }

  module _ (d : Demand) where
    abbrev x : Bytes
    x = name_at s d.subject

    abbrev a : Bytes
    a = name_at s d.attribute

    abbrev ps : List Part
    ps = joined value_part (value_standing d.value)

    -- a requirement whose attribute is one of these names
    required : (names : List Bytes) (qs : List Part)
        → record { attribute = place a names; relation = relation_data (relation_of d.relation); value = value_data (ps ++ qs) (value_of s d.value) }
        ≡ requirement_in names s d
    required names qs = λ i. record { attribute = place a names; relation = relation_told d.relation i; value = value_told s d.value qs i }

    pub demand_read : known b vs es (demand_of s d) ≡ true → length es ≡ m.edges → length (attr_names b.vattrs) ≡ m.vattrs
        → length (attr_names b.eattrs) ≡ m.eattrs
        → ConditionRead b m s (clause_of vs es (demand_of s d)) ps (demand_in b s vs es d)
    unfolding known clause_of demand_in clause_in clause_data behind_clause condition_parts
    demand_read h edges vattrs eattrs = go (mem x vs) refl h
      where
        clause : Bool → Clause
        clause t = pick t (vertex_has (place x vs) a (relation_of d.relation) (value_of s d.value))
            (edge_has (place x es) a (relation_of d.relation) (value_of s d.value))

        made : Bool → ConditionData
        made t = pick t (OfVertex (place x vs) (requirement_in (attr_names b.vattrs) s d)) (OfEdge (place x es) (requirement_in (attr_names b.eattrs) s d))

        go : (t : Bool) → mem x vs ≡ t → pick t (mem a (attr_names b.vattrs)) (mem x es && mem a (attr_names b.eattrs)) ≡ true
            → ConditionRead b m s (clause t) ps (made t)
        go true e h =
            let v = place_of x vs e in
            let n = place_of a (attr_names b.vattrs) h in
            record {
              is = ap (λ w. vertex_has (place x vs) w (relation_of d.relation) (value_of s d.value)) n.1;
              fits = (omega (arith, v.0), omega (arith, n.0));
              told = λ qs. (ap (OfVertex (place x vs)) (required (attr_names b.vattrs) qs), value_passed s d.value qs);
              parts = refl;
            }
        go false e h =
            let v = place_of x es (both_left (mem x es) (mem a (attr_names b.eattrs)) h) in
            let n = place_of a (attr_names b.eattrs) (both_right (mem x es) (mem a (attr_names b.eattrs)) h) in
            record {
              is = ap (λ w. edge_has (place x es) w (relation_of d.relation) (value_of s d.value)) n.1;
              fits = (omega (arith, v.0), omega (arith, n.0));
              told = λ qs. (ap (OfEdge (place x es)) (required (attr_names b.eattrs) qs), value_passed s d.value qs);
              parts = refl;
            }

-- the same clause by numbers is the same condition as data
pub same_demand : (b : Book) (s : Bytes) (vs es ds fs : List Bytes) (d : Demand) → clause_of ds fs (demand_of s d) ≡ clause_of vs es (demand_of s d)
    → demand_in b s ds fs d ≡ demand_in b s vs es d
unfolding clause_of demand_in
same_demand b s vs es ds fs d = go (mem x ds) (mem x vs)
  where
    x : Bytes
    x = name_at s d.subject

    clause : Bool → ℕ → ℕ → Clause
    clause t i j = pick t (vertex_has i (name_at s d.attribute) (relation_of d.relation) (value_of s d.value))
        (edge_has j (name_at s d.attribute) (relation_of d.relation) (value_of s d.value))

    made : Bool → ℕ → ℕ → ConditionData
    made t i j = pick t (OfVertex i (requirement_in (attr_names b.vattrs) s d)) (OfEdge j (requirement_in (attr_names b.eattrs) s d))

    go : (t u : Bool) → clause t (place x ds) (place x fs) ≡ clause u (place x vs) (place x es)
        → made t (place x ds) (place x fs) ≡ made u (place x vs) (place x es)
    go true true e = cc
    go true false e = cc
    go false true e = cc
    go false false e = cc

pub same_exclusion : (vs es ds fs : List Bytes) (v u : Bytes) → clause_of ds fs (differ v u) ≡ clause_of vs es (differ v u)
    → Excluded (place v ds) (place u ds) ≡ Excluded (place v vs) (place u vs)
unfolding clause_of
same_exclusion vs es ds fs v u e = cc

-- no clause more, or one
module _ (b : Book) (m : Limits) (s : Bytes) (old : Clauses) (h : ClausesRead b m s (clauses_of b s old) old) where
  pub clauses_same : MoreClauses b m s old [] [] old
  clauses_same = record { read = rw (append-nil (clauses_of b s old)) h; parts = sym (append-nil (value_parts_of old)) }

  pub clause_more : {x : Clause} {ps : List Part} {k z : ConditionData} → old.count < 32 → k ≡ z → ConditionRead b m s x ps z
      → MoreClauses b m s old (x ∷ []) ps (record { items = set old.items old.count (record { condition = k }); count = old.count + 1 })
  clause_more {x} {ps} {k} {z} room e h-z = let q = subst (ConditionRead b m s x ps) (sym e) h-z in record {
    read = record {
      few = omega arith;
      sized = length-set old.items old.count new ∙ h.sized;
      is = taken_more say old.items old.count new inside ∙ ap (λ z. clauses_of b s old ++ (z ∷ [])) q.is;
      each = each_more (λ (c : ClauseData). ConditionFits m c.condition) no_clause old.items old.count new inside h.each q.fits;
      told = rw (add-one, take-suc-set old.items old.count new inside)
          (all_told_more b (clauses_of b s old) (take old.count old.items) x new h.told q.told);
      blank = blank_more 32 no_clause old.items old.count new room h.blank;
    };
    parts = rw (add-one, take-suc-set old.items old.count new inside)
        (joined_end (λ (c : ClauseData). condition_parts c.condition) (take old.count old.items) new ∙ ap (λ l. value_parts_of old ++ l) q.parts);
  }
    where
      new : ClauseData
      new = record { condition = k }

      say : ClauseData → Clause
      say c = clause_in b s c.condition

      inside : old.count < length old.items
      inside = omega (arith, h.sized)

-- the clauses found from the text's start to a place, and those of the pieces behind it
pub record ClausesSoFar (b : Book) (m : Limits) (s : Bytes) (vs es : List Bytes) (from : Place) (r : Clauses) : Type 0 where
  pub read : ClausesRead b m s (clauses_of b s r) r
  pub rest : clauses_of b s r ++ map (clause_of vs es) (conditions_in (found_at s from)) ≡ map (clause_of vs es) (conditions_in (text_pieces s))
  pub parts : PartsSoFar value_part s from (value_parts_of r)

module _ (b : Book) (m : Limits) (s : Bytes) (vs es : List Bytes) (from : Place) (r : Clauses) where
  pub clauses_start : from ≡ text_start → r ≡ no_clauses → ClausesSoFar b m s vs es from r
  unfolding AllTold joined
  clauses_start e z = subst (λ (q : Clauses). ClausesSoFar b m s vs es from q) (sym z) (record {
    read = record {
      few = omega arith;
      sized = refl;
      is = refl;
      each = λ i l. absurd (omega arith);
      told = tt;
      blank = refl;
    };
    rest = ap (λ (p : Place). map (clause_of vs es) (conditions_in (found_at s p))) e;
    parts = parts_start value_part s from e;
  })

  module _ (h : ClausesSoFar b m s vs es from r) (p : Result Step Bool) (step : StepAt s from p) where
    pub clauses_all : (t : Bool) → p ≡ Err t → ClausesRead b m s (map (clause_of vs es) (conditions_in (text_pieces s))) r
    unfolding joined
    clauses_all t e = subst (λ z. ClausesRead b m s z r)
        (sym (append-nil (clauses_of b s r)) ∙ ap (λ l. clauses_of b s r ++ map (clause_of vs es) (conditions_in l)) (sym (step_none s from p step t e))
        ∙ h.rest) h.read

    pub value_parts_all : (t : Bool) → p ≡ Err t → (walk_at s text_start).whole ≡ true → value_parts_of r ≡ value_parts s
    unfolding value_parts
    value_parts_all t e k = parts_all value_part s from (value_parts_of r) h.parts p step t e k

    module _ (x : Step) (e : p ≡ Ok x) where
      abbrev here : List Condition
      here = condition_in (piece_of s x.piece)

      abbrev later : List Condition
      later = conditions_in (found_at s x.next)

      ahead : (clauses_of b s r ++ map (clause_of vs es) here) ++ map (clause_of vs es) later ≡ map (clause_of vs es) (conditions_in (text_pieces s))
      unfolding joined
      ahead =
          append_assoc (clauses_of b s r) (map (clause_of vs es) here) (map (clause_of vs es) later)
          ∙ ap (λ z. clauses_of b s r ++ z) (sym (ap (λ l. map (clause_of vs es) (conditions_in l)) (step_list s from p step x e)
          ∙ map_append (clause_of vs es) here later)) ∙ h.rest

      pub clauses_room : length (conditions_in (text_pieces s)) ≤ 32 → r.count + length here ≤ 32
      clauses_room l = omega (
        arith,
        room_for (clauses_of b s r) (map (clause_of vs es) here) (map (clause_of vs es) later) ahead,
        length_taken (λ (c : ClauseData). clause_in b s c.condition) r.items r.count (omega (arith, h.read.few, h.read.sized)),
        length_map (clause_of vs es) here,
        length_map (clause_of vs es) (conditions_in (text_pieces s)),
      )

      pub clauses_on : (more : Clauses) → MoreClauses b m s r (map (clause_of vs es) here) (joined value_part (piece_standing x.piece)) more
          → ClausesSoFar b m s vs es x.next more
      clauses_on more k = record {
        read = subst (λ z. ClausesRead b m s z more) (sym k.read.is) k.read;
        rest = ap (λ z. z ++ map (clause_of vs es) later) k.read.is ∙ ahead;
        parts = parts_on value_part s from (value_parts_of r) h.parts p step x e (value_parts_of more) k.parts;
      }
