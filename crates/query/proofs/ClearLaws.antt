-- What a text without a fault says of its pieces: the grammar is kept, what it names is there, and it is within the limits.
use Prim.Native.Nat.{ℕ, zero, suc, ◌+◌, ◌-◌, ◌≤◌, ◌<◌}
use mathlib.Core.Path.{◌≡◌, refl, sym, ap, ap₂, subst, ◌∙◌}
use mathlib.Core.Logic.{◌⊎◌, inl, inr, ⊎_elim}
use mathlib.Core.List.Memᴰ.{cases_cons}
use mathlib.Core.List.{List, [], ◌∷◌, ◌++◌, append_assoc, map}
use mathlib.Core.Bool.{Bool, true, false, not, ◌&&◌, ◌||◌}
use native.Mathlib.Omega.{arith}
use lib.ListN.{length}
use lib.Dec.{T, ltb, leb, eqb, leb→le}
use borrow.Author.Tests.{ltb-false, not-false}
use Rattle.logic.specs.Tests.{and_left}
use Rattle.model.specs.Bytes.{Bytes}
use Rattle.model.specs.Choice.{pick, Maybe, nothing, just, and_then}
use Rattle.model.specs.Lists.{any, all, keep, joined, firsts_by}
use Rattle.model.specs.Names.{mem, place, twice, firsts}
use Rattle.model.specs.Words.{Got, is_text}
use Rattle.model.specs.Values.{Value, int, str, bool}
use Rattle.model.specs.Pattern.{Clause, excluded, vertex_has, edge_has, clause_of}
use Rattle.model.specs.Signs.{Sign, signs_of}
use Rattle.model.specs.Lines.{is_allowed}
use Rattle.model.specs.Book.{Book, attr_names}
use Rattle.model.specs.QueryText.{Condition, differ, demand, QueryText}
use Rattle.model.specs.Grammar.{Piece, start, goes, comes, asks, returns, Spot, at_start, spot_after, piece_at, tail_of, query_text}
use Rattle.model.specs.Graph.{Each}
use Rattle.model.specs.Query.{vertex_names, edge_names, edges_of, conditions_of}
use Rattle.model.specs.ReadQuery.{unknown, is_differ, has_twice, too_many}
use Rattle.model.proofs.FirstNames.{firsts_append}
use Rattle.model.proofs.Members.{◌∈◌, is_true, any_i, mem_e, map_e, joined_e, each_e, firsts_e}
use Rattle.model.proofs.WrittenConditions.{IsName, WritableValue, WritableCondition}
use Rattle.model.proofs.WritableSigns.{IfThere, signs_writable}
use Rattle.model.proofs.WritablePieces.{WritablePiece, pieces_writable}
use Rattle.query_pieces.specs.Walk.{stopped, ahead, or_stopped, ends_well, walk, Ordered}
use Rattle.query_pieces.specs.Named.{vertex_in, edge_in, return_in, condition_in, vertices_in, edges_in, returns_in, conditions_in, links_from}
use Rattle.query_pieces.specs.Faults.{some_where, undeclared_at, twice_at, mistyped_at, from_itself_at}
use Rattle.query_pieces.specs.Steps.{walk_at, spot_of, chain_at}
use Rattle.query_pieces.proofs.Walks.{pieces_are_walked}
use Rattle.query_pieces.proofs.Trees.{tree_names, returns_same}
use Rattle.model.proofs.Places.{joined_append, joined_end}
use Rattle.query_pieces.proofs.Tests.{vertex_names_law, edge_names_law, twice_found, mem_firsts}
use Rattle.query_survey.specs.Names.{text_start, text_pieces}
use Rattle.query_survey.specs.Counting.{past_limits}
use Rattle.query_faults.specs.Tests.{piece_fault}
use Rattle.query_faults.specs.TextFault.{text_fault}
use Rattle.query_faults.proofs.CountLaws.{limits_same}
use Rattle.query_faults.proofs.FaultLaws.{query_of, text_ordered, text_read, number_is}
use Rattle.query.proofs.VertexLaws.{vertex_names_in, Begins, begun_place, begun_mem, firsts_begun}
use Rattle.query.proofs.ClauseLaws.{known, text_edges, both_left, both_right}

-- a text has no fault against a book
pub record Clear (b : Book) (s : Bytes) : Type 0 where
  pub whole : (walk_at s text_start).whole ≡ true
  pub declared : some_where (undeclared_at b (text_pieces s)) [] (text_pieces s) ≡ false
  pub once : some_where (twice_at (text_pieces s)) [] (text_pieces s) ≡ false
  pub limited : past_limits (text_pieces s) ≡ false

no_number : (w u t m l x : Bool) → ◌≡◌ {A = ℕ} (pick w (pick u 4 (pick t 5 (pick m 6 (pick l 7 (pick x 8 0))))) 3) 0
    → (w ≡ true) × (u ≡ false) × (t ≡ false) × (l ≡ false)
no_number false u t m l x h = absurd (omega arith)
no_number true true t m l x h = absurd (omega arith)
no_number true false true m l x h = absurd (omega arith)
no_number true false false true l x h = absurd (omega arith)
no_number true false false false true x h = absurd (omega arith)
no_number true false false false false x h = (refl, refl, refl, refl)

pub clear_pieces : (b : Book) (s : Bytes) → text_fault b s ≡ 0 → Clear b s
unfolding piece_fault
clear_pieces b s e = let r = no_number (walk_at s text_start).whole (some_where (undeclared_at b (text_pieces s)) [] (text_pieces s))
    (some_where (twice_at (text_pieces s)) [] (text_pieces s)) (some_where (mistyped_at b) [] (text_pieces s)) (past_limits (text_pieces s))
    (some_where from_itself_at [] (text_pieces s)) (number_is b s ∙ e) in record { whole = r.0; declared = r.1; once = r.2; limited = r.3 }

-- a text without a fault is the query of its pieces
pub clear_tree : (b : Book) (s : Bytes) → Clear b s → (tree : QueryText) → query_text s ≡ just tree → tree ≡ query_of s
clear_tree b s h tree e = same (sym e ∙ text_read s ∙ ap (λ t. pick t (just (query_of s)) nothing) h.whole)
  where
    same : just tree ≡ just (query_of s) → tree ≡ query_of s
    same z = cc

-- no test holds and fails
true_not_false : (t : Bool) → t ≡ true → t ≡ false → ⊥
true_not_false t h k = let z : ◌≡◌ {A = ℕ} 0 1 = cc in omega arith

-- none of several tests holds
none_of : (t u v w x : Bool) → (t || u || v || w || x) ≡ false → (t ≡ false) × (u ≡ false) × (v ≡ false) × (w ≡ false) × (x ≡ false)
none_of true u v w x h = absurd (true_not_false true refl h)
none_of false true v w x h = absurd (true_not_false true refl h)
none_of false false true w x h = absurd (true_not_false true refl h)
none_of false false false true x h = absurd (true_not_false true refl h)
none_of false false false false x h = (refl, refl, refl, refl, h)

not_second : (t u v : Bool) → (t || u || v) ≡ false → u ≡ false
not_second true u v h = absurd (true_not_false true refl h)
not_second false true v h = h
not_second false false v h = refl

-- a text's limits
pub record Few (ps : List Piece) : Type 0 where
  pub vertices : length (firsts [] (vertices_in ps)) ≤ 8
  pub links : length (links_from [] ps) ≤ 16
  pub conditions : length (conditions_in ps) ≤ 32
  pub returns : length (returns_in ps) ≤ 4

keep_both : (q : Condition → Bool) (cs : List Condition) → length cs ≡ length (keep q cs) + length (keep (λ c. not (q c)) cs)
unfolding keep
keep_both q [] = refl
keep_both q (c ∷ cs) = go (q c) (keep_both q cs)
  where
    go : (t : Bool) → length cs ≡ length (keep q cs) + length (keep (λ c. not (q c)) cs)
        → suc (length cs) ≡ length (pick t (c ∷ keep q cs) (keep q cs)) + length (pick (not t) (c ∷ keep (λ c. not (q c)) cs) (keep (λ c. not (q c)) cs))
    go true h = omega arith
    go false h = omega arith

pub few_pieces : (ps : List Piece) → Ordered at_start ps → past_limits ps ≡ false → Few ps
unfolding too_many
few_pieces ps h e =
    let q = (tail_of ps).later in
    let n = none_of (ltb 8 (length (vertex_names q))) (ltb 16 (length (edges_of q))) (ltb 16 (length (keep is_differ (conditions_of q))))
    (ltb 16 (length (keep (λ c. not (is_differ c)) (conditions_of q)))) (ltb 4 (length q.returns)) (limits_same ps h ∙ e) in
    record {
      vertices = subst (λ l. length l ≤ 8) (vertex_names_law ps h) (ltb-false 8 (length (vertex_names q)) n.0);
      links = subst (λ l. length l ≤ 16) (tree_names ps h).edges_same (ltb-false 16 (length (edges_of q)) n.1);
      conditions = subst (λ l. length l ≤ 32) (tree_names ps h).conditions_same
          (omega (
            arith,
            keep_both is_differ (conditions_of q),
            ltb-false 16 (length (keep is_differ (conditions_of q))) n.2,
            ltb-false 16
                (length (keep (λ c. not (is_differ c)) (conditions_of q))) n.3,
          ));
      returns = subst (λ l. length l ≤ 4) (returns_same ps) (ltb-false 4 (length q.returns) n.4);
    }

-- an edge variable is no vertex
pub edge_no_vertex : (ps : List Piece) → Ordered at_start ps → some_where (twice_at ps) [] ps ≡ false → (w : Bytes) → mem w (edges_in ps) ≡ true
    → mem w (firsts [] (vertices_in ps)) ≡ false
unfolding has_twice
edge_no_vertex ps h e w m = go (mem w (firsts [] (vertices_in ps))) refl
  where
    q : QueryText
    q = (tail_of ps).later

    none : any (λ e. mem e (firsts [] (vertices_in ps))) (edges_in ps) ≡ false
    none = rw (edge_names_law ps h, vertex_names_law ps h) at
        (not_second (twice (edge_names q)) (any (λ e. mem e (vertex_names q)) (edge_names q)) (twice q.returns) (twice_found ps h ∙ e))

    go : (t : Bool) → mem w (firsts [] (vertices_in ps)) ≡ t → t ≡ false
    go true k = absurd (true_not_false (any (λ e. mem e (firsts [] (vertices_in ps))) (edges_in ps))
        (is_true (any (λ e. mem e (firsts [] (vertices_in ps))) (edges_in ps))
        (any_i (λ e. mem e (firsts [] (vertices_in ps))) (edges_in ps) w (mem_e w (edges_in ps) (subst T (sym m) tt)) (subst T (sym k) tt))) none)
    go false k = refl

-- what a condition names stands among ds and fs, the names found before it, and is numbered there as among all
pub record Scoped (b : Book) (vs es ds fs : List Bytes) (c : Condition) : Type 0 where
  pub named : known b vs es c ≡ true
  pub same : clause_of ds fs c ≡ clause_of vs es c

either_true : (x y : Bool) → (x || y) ≡ true → (x ≡ true) ⊎ (y ≡ true)
either_true true y h = inl refl
either_true false y h = inr h

module _ (b : Book) (vs es ds fs : List Bytes) (vertices : Begins ds vs) (edges : Begins fs es) (apart : (w : Bytes) → mem w es ≡ true → mem w vs ≡ false) where
  no_vertex_law : (w : Bytes) → mem w vs ≡ false → mem w ds ≡ false
  no_vertex_law w h = go (mem w ds) refl
    where
      go : (t : Bool) → mem w ds ≡ t → t ≡ false
      go true k = absurd (true_not_false (mem w vs) (begun_mem ds vs vertices w k) h)
      go false k = refl

  scoped_one : (c : Condition) → unknown b c ds fs ≡ false → Scoped b vs es ds fs c
  unfolding unknown known clause_of
  scoped_one (differ v u) h =
      let k = not-false _ h in
      let p = both_left (mem v ds) (mem u ds) k in
      let q = both_right (mem v ds) (mem u ds) k in
      record {
        named = rw (begun_mem ds vs vertices v p, begun_mem ds vs vertices u q);
        same = sym
            (ap₂ excluded (begun_place ds vs vertices v p) (begun_place ds vs vertices u q));
      }
  scoped_one (demand x a r v) h = ⊎_elim
      (λ k. let p = both_left (mem x ds) (mem a (attr_names b.vattrs)) k in
      let m = begun_mem ds vs vertices x p in
      record { named = rw m (both_right (mem x ds) (mem a (attr_names b.vattrs)) k); same = rw (p, m, begun_place ds vs vertices x p) })
      (λ k. let p = both_left (mem x fs) (mem a (attr_names b.eattrs)) k in
      let m = begun_mem fs es edges x p in
      let n = apart x m in
      record { named = rw (n, m) (both_right (mem x fs) (mem a (attr_names b.eattrs)) k); same = rw (no_vertex_law x n, n, begun_place fs es edges x p) })
      (either_true (mem x ds && mem a (attr_names b.vattrs)) (mem x fs && mem a (attr_names b.eattrs)) (not-false _ h))

-- the conditions of pieces, behind the names ds and fs
unfoldable pub ScopedFrom : Book → List Bytes → List Bytes → List Bytes → List Bytes → List Piece → Type 0
ScopedFrom b vs es ds fs [] = Unit {0}
ScopedFrom b vs es ds fs (p ∷ ps) = Each (Scoped b vs es ds fs) (condition_in p) × ScopedFrom b vs es (firsts ds (vertex_in p)) (fs ++ edge_in p) ps

not_here : (t x : Bool) → pick t true x ≡ false → (t ≡ false) × (x ≡ false)
not_here true x h = (h, cc)
not_here false x h = (refl, h)

module _ (b : Book) (text : List Piece) (apart : (w : Bytes) → mem w (edges_in text) ≡ true → mem w (firsts [] (vertices_in text)) ≡ false) where
  abbrev vs : List Bytes
  vs = firsts [] (vertices_in text)

  abbrev es : List Bytes
  es = edges_in text

  module _ (done ps : List Piece) (e : done ++ ps ≡ text) where
    before_vertex : Begins (firsts [] (vertices_in done)) vs
    before_vertex = subst (Begins (firsts [] (vertices_in done)))
        (sym (firsts_append [] (vertices_in done) (vertices_in ps)) ∙ ap (firsts []) (sym (joined_append vertex_in done ps))
        ∙ ap (λ l. firsts [] (vertices_in l)) e)
        (firsts_begun (firsts [] (vertices_in done)) (vertices_in ps))

    before_edge : Begins (edges_in done) es
    before_edge = (edges_in ps, ap edges_in (sym e) ∙ joined_append edge_in done ps)

    unknown_once : (c : Condition) → unknown b c (firsts [] (vertices_in done)) (edges_in done) ≡ unknown b c (vertices_in done) (edges_in done)
    unfolding unknown
    unknown_once (differ v u) = rw (mem_firsts v (vertices_in done), mem_firsts u (vertices_in done))
    unknown_once (demand x a r v) = rw (mem_firsts x (vertices_in done))

    scoped_here : (p : Piece) (rest : List Piece) → undeclared_at b text done p rest ≡ false
        → Each (Scoped b vs es (firsts [] (vertices_in done)) (edges_in done)) (condition_in p)
    unfolding undeclared_at condition_in
    scoped_here (start v) rest h = tt
    scoped_here (goes x l v) rest h = tt
    scoped_here (comes x l v) rest h = tt
    scoped_here (asks c) rest h = (scoped_one b vs es (firsts [] (vertices_in done)) (edges_in done) before_vertex before_edge apart c (unknown_once c ∙ h), tt)
    scoped_here (returns v) rest h = tt

  scoped_behind : (done ps : List Piece) → done ++ ps ≡ text → some_where (undeclared_at b text) done ps ≡ false
      → ScopedFrom b vs es (firsts [] (vertices_in done)) (edges_in done) ps
  unfolding some_where ScopedFrom
  scoped_behind done [] e h = tt
  scoped_behind done (p ∷ ps) e h =
      let n = not_here (undeclared_at b text done p ps) (some_where (undeclared_at b text) (done ++ (p ∷ [])) ps) h in
      let later = scoped_behind (done ++ (p ∷ [])) ps (append_assoc done (p ∷ []) ps ∙ e) n.1 in (
        scoped_here done (p ∷ ps) e p ps n.0,
        rw (joined_end vertex_in done p, firsts_append [] (vertices_in done) (vertex_in p), joined_end edge_in done p)
            at later,
      )

pub clear_scoped : (b : Book) (s : Bytes) → Clear b s → ScopedFrom b (vertex_names_in s) (text_edges s) [] [] (text_pieces s)
unfolding joined firsts_by
clear_scoped b s h = scoped_behind b (text_pieces s) (edge_no_vertex (text_pieces s) (text_ordered s) h.once) [] (text_pieces s) refl h.declared

-- a whole text returns something
more_returns : (g : Piece) (ps : List Piece) → (ends_well (spot_after g) ≡ true) ⊎ (0 < length (returns_in ps)) → 0 < length (returns_in (g ∷ ps))
unfolding joined return_in spot_after ends_well
more_returns (start v) ps z = ⊎_elim (λ e. absurd (true_not_false false e refl)) (λ l. l) z
more_returns (goes x l v) ps z = ⊎_elim (λ e. absurd (true_not_false false e refl)) (λ l. l) z
more_returns (comes x l v) ps z = ⊎_elim (λ e. absurd (true_not_false false e refl)) (λ l. l) z
more_returns (asks c) ps z = ⊎_elim (λ e. absurd (true_not_false false e refl)) (λ l. l) z
more_returns (returns v) ps z = omega arith

some_behind : (p : Spot) (k : ℕ) (ts : List Sign) → (walk p k ts).whole ≡ true → (ends_well p ≡ true) ⊎ (0 < length (returns_in (walk p k ts).found))
unfolding walk stopped or_stopped and_then ahead
some_behind p k [] h = inl h
some_behind p (suc k) (t ∷ ts) h = some_behind p k ts h
some_behind p zero (t ∷ ts) h = go (piece_at p t ts) (λ g. some_behind (spot_after g.got) (g.size - 1) ts) h
  where
    go : (m : Maybe (Got Piece)) → ((g : Got Piece) → (walk (spot_after g.got) (g.size - 1) ts).whole ≡ true
        → (ends_well (spot_after g.got) ≡ true) ⊎ (0 < length (returns_in (walk (spot_after g.got) (g.size - 1) ts).found)))
        → (or_stopped (and_then m (λ g. just (ahead g.got (walk (spot_after g.got) (g.size - 1) ts))))).whole ≡ true
        → (ends_well p ≡ true) ⊎ (0 < length (returns_in
        (or_stopped (and_then m (λ g. just (ahead g.got (walk (spot_after g.got) (g.size - 1) ts))))).found))
    go nothing k h = absurd (true_not_false false h refl)
    go (just g) k h = inr (more_returns g.got (walk (spot_after g.got) (g.size - 1) ts).found (k g h))

pub some_return : (b : Book) (s : Bytes) → Clear b s → 0 < length (returns_in (text_pieces s))
unfolding walk_at spot_of ends_well
some_return b s h = ⊎_elim (λ e. absurd (true_not_false false e refl)) (λ l. l) (some_behind at_start 0 _ h.whole)

-- values have at most 40 bytes
abbrev pub ShortValue : Value → Type 0
ShortValue (int n) = Unit {0}
ShortValue (str t) = length t ≤ 40
ShortValue (bool t) = Unit {0}

abbrev pub ShortClause : Clause → Type 0
ShortClause (excluded u v) = Unit {0}
ShortClause (vertex_has v a r x) = ShortValue x
ShortClause (edge_has e a r x) = ShortValue x

value_short : (v : Value) → WritableValue v → ShortValue v
unfolding is_text
value_short (int n) h = tt
value_short (str t) h = leb→le (length t) 40 (and_left (leb (length t) 40) (not (any (λ b. eqb b 34 || eqb b 10) t)) h.0)
value_short (bool t) h = tt

condition_short : (vs es : List Bytes) (c : Condition) → WritableCondition c → ShortClause (clause_of vs es c)
unfolding clause_of
condition_short vs es (differ v u) h = tt
condition_short vs es (demand x a r v) h = go (mem x vs)
  where
    go : (t : Bool) → ShortClause (pick t (vertex_has (place x vs) a r v) (edge_has (place x es) a r v))
    go true = value_short v h.2
    go false = value_short v h.2

-- names have 1 to 24 bytes
pub record Short (w : Bytes) : Type 0 where
  pub some : 0 < length w
  pub few : length w ≤ 24

name_short : (w : Bytes) → IsName w → Short w
name_short [] h = absurd h.0
name_short (x ∷ w) h = record { some = omega arith; few = omega (arith, h.0.2) }

one_in : (v w : Bytes) → IsName v → w ∈ (v ∷ []) → IsName w
one_in v w h m = ⊎_elim (λ e. subst IsName (sym e) h) (λ z. elim z [ ]) (cases_cons m)

module _ (b : Book) (s : Bytes) (clear : Clear b s) (allowed : T (all is_allowed s)) where
  writable : Each WritablePiece (text_pieces s)
  unfolding walk_at spot_of chain_at signs_of
  writable = subst (λ t. IfThere (Each WritablePiece) (pick t (just (text_pieces s)) nothing)) clear.whole
      (subst (IfThere (Each WritablePiece)) (pieces_are_walked at_start 0 (signs_of s))
      (pieces_writable at_start 0 (signs_of s) (signs_writable false false 0 s allowed)))

  vertex_in_law : (p : Piece) → WritablePiece p → (w : Bytes) → w ∈ vertex_in p → IsName w
  unfolding vertex_in
  vertex_in_law (start v) h w m = one_in v w h m
  vertex_in_law (goes e l v) h w m = one_in v w h.2 m
  vertex_in_law (comes e l v) h w m = one_in v w h.2 m
  vertex_in_law (asks c) h w m = elim m [ ]
  vertex_in_law (returns v) h w m = elim m [ ]

  edge_in_law : (p : Piece) → WritablePiece p → (w : Bytes) → w ∈ edge_in p → IsName w
  unfolding edge_in
  edge_in_law (start v) h w m = elim m [ ]
  edge_in_law (goes e l v) h w m = one_in e w h.0 m
  edge_in_law (comes e l v) h w m = one_in e w h.0 m
  edge_in_law (asks c) h w m = elim m [ ]
  edge_in_law (returns v) h w m = elim m [ ]

  pub vertex_short : (w : Bytes) → w ∈ vertex_names_in s → Short w
  vertex_short w m = ⊎_elim (λ z. elim z [ ])
      (λ k. let r = joined_e vertex_in (text_pieces s) w k in
      name_short w (vertex_in_law r.0 (each_e WritablePiece (text_pieces s) writable r.0 r.1) w r.2)) (firsts_e [] (vertices_in (text_pieces s)) w m)

  pub edge_short : (w : Bytes) → w ∈ edges_in (text_pieces s) → Short w
  edge_short w m = let r = joined_e edge_in (text_pieces s) w m in
      name_short w (edge_in_law r.0 (each_e WritablePiece (text_pieces s) writable r.0 r.1) w r.2)

  condition_in_law : (p : Piece) → WritablePiece p → (c : Condition) → c ∈ condition_in p → WritableCondition c
  unfolding condition_in
  condition_in_law (start v) h c m = elim m [ ]
  condition_in_law (goes e l v) h c m = elim m [ ]
  condition_in_law (comes e l v) h c m = elim m [ ]
  condition_in_law (asks k) h c m = ⊎_elim (λ e. subst WritableCondition (sym e) h) (λ z. elim z [ ]) (cases_cons m)
  condition_in_law (returns v) h c m = elim m [ ]

  pub clause_short : (vs es : List Bytes) (k : Clause) → k ∈ map (clause_of vs es) (conditions_in (text_pieces s)) → ShortClause k
  clause_short vs es k m =
      let r = map_e (clause_of vs es) (conditions_in (text_pieces s)) k m in
      let q = joined_e condition_in (text_pieces s) r.0 r.1 in
      subst ShortClause (sym r.2) (condition_short vs es r.0
      (condition_in_law q.0 (each_e WritablePiece (text_pieces s) writable q.0 q.1) r.0 q.2))
