-- Laws of the one walk over a text's pieces: what is found so far is what the pieces name, numbered as among the names of the whole text.
use Prim.Native.Nat.{ℕ, ◌+◌, ◌<◌, ◌≤◌}
use mathlib.Core.Path.{◌≡◌, refl, sym, ap, subst, ◌∙◌}
use mathlib.Core.List.{List, [], ◌∷◌, ◌++◌, map}
use mathlib.Core.Bool.{Bool, true, false}
use native.Mathlib.Omega.{arith}
use lib.ListN.{length, set}
use Rattle.std.specs.Prelude.{Result, Ok, Err}
use Rattle.model.specs.Choice.{pick}
use Rattle.model.specs.Bytes.{Bytes}
use Rattle.model.specs.Lists.{joined, firsts_by}
use Rattle.model.specs.Names.{place, add_new, firsts}
use Rattle.model.specs.Book.{Book}
use Rattle.model.specs.Graph.{Each}
use Rattle.model.specs.Grammar.{Piece, spot_after}
use Rattle.model.specs.Pattern.{clause_of}
use Rattle.model.specs.Answers.{name_at}
use Rattle.model.specs.Places.{vertex_part, edge_part, value_part}
use Rattle.model.specs.declared.Part.{Part}
use Rattle.model.specs.declared.Value.{Value}
use Rattle.model.specs.declared.Value.TheVariants.{Number, Text, Truth}
use Rattle.model.specs.declared.Edge.{Edge}
use Rattle.model.specs.declared.Condition.{Condition}
use Rattle.model.specs.declared.Condition.TheVariants.{Excluded}
use Rattle.query_signs.specs.Expected.{value_standing}
use Rattle.query_signs.specs.Reads.{signs_from}
use Rattle.book_tables.specs.View.{book_at}
use Rattle.book_tables.specs.declared.BookCounts.{BookCounts}
use Rattle.query_pieces.specs.Walk.{Ordered}
use Rattle.query_pieces.specs.Named.{vertex_in, edge_in, return_in, condition_in, vertices_in}
use Rattle.query_pieces.specs.Steps.{piece_of, piece_standing, walk_at, spot_of, chain_at, PieceInside, StepInside, StepAt}
use Rattle.query_pieces.specs.declared.Place.{Place}
use Rattle.query_pieces.specs.declared.Link.{Link}
use Rattle.query_pieces.specs.declared.Demand.{Demand}
use Rattle.query_pieces.specs.declared.Piece.{Piece as PieceData}
use Rattle.query_pieces.specs.declared.Piece.TheVariants as piece
use Rattle.query_pieces.specs.declared.Step.{Step}
use Rattle.query_pieces.proofs.Walks.{walk_ordered}
use Rattle.query_survey.specs.Names.{text_start, found_at, text_pieces}
use Rattle.query_survey.proofs.ScanLaws.{step_list}
use Rattle.query_faults.proofs.FaultLaws.{text_ordered}
use Rattle.query_faults.proofs.SurveyLaws.{none_behind}
use Rattle.query_writer.specs.Writable.{Limits}
use Rattle.query.specs.Vertices.{Vertices}
use Rattle.query.specs.Edges.{Edges}
use Rattle.query.specs.Clauses.{Clauses}
use Rattle.query.specs.Returns.{Returns}
use Rattle.query.specs.Vertices.{names_of, no_vertices, Placed}
use Rattle.query.specs.Edges.{edge_names_of, no_edges, edge_made}
use Rattle.query.specs.Returns.{no_returns}
use Rattle.query.specs.Clauses.{demand_in, no_clauses}
use Rattle.query.specs.PatternRead.{PatternAsked, PatternRead, pattern_made}
use Rattle.query.proofs.VertexLaws.{vertex_names_in, MoreVertices, number_later, number_room, vertices_same, vertex_placed, VerticesSoFar}
use Rattle.query.proofs.VertexLaws.{vertices_start, vertices_ahead, vertices_room, vertices_on, vertices_end}
use Rattle.query.proofs.EdgeLaws.{number_after, edges_between, MoreEdges, edges_same, link_more, EdgesSoFar, edges_start, edges_room, edges_on}
use Rattle.query.proofs.EdgeLaws.{edges_all, edge_parts_all, edges_inside, edges_are}
use Rattle.query.proofs.ReturnLaws.{numbers_of, MoreReturns, returns_same, return_more, ReturnsSoFar, returns_start, returns_room, returns_on}
use Rattle.query.proofs.ReturnLaws.{returns_all, returns_are}
use Rattle.query.proofs.ClauseLaws.{text_edges, text_limits, MoreClauses, count_vattrs, count_eattrs, excluded_read, demand_read, same_exclusion}
use Rattle.query.proofs.ClauseLaws.{same_demand, clauses_same, clause_more, ClausesSoFar, clauses_start, clauses_room, clauses_on, clauses_all}
use Rattle.query.proofs.ClauseLaws.{value_parts_all}
use Rattle.query.proofs.ClearLaws.{Clear, clear_pieces, Scoped, ScopedFrom, clear_scoped, Few, few_pieces}
use Rattle.query.proofs.PatternLaws.{pattern_read}

-- what is found from the text's start to a place
pub record PatternSoFar (book : Bytes) (words : List ℕ) (c : BookCounts) (s : Bytes) (from : Place) (last : ℕ) (v : Vertices) (e : Edges) (k : Clauses)
    (r : Returns) : Type 0 where
  pub asked : PatternAsked book words c s
  pub vertices : VerticesSoFar s from v
  pub edges : EdgesSoFar (book_at book words c) s (vertex_names_in s) from last e
  pub clauses : ClausesSoFar (book_at book words c) (text_limits c s) s (vertex_names_in s) (text_edges s) from k
  pub returns : ReturnsSoFar s (vertex_names_in s) from r
  pub scoped : ScopedFrom (book_at book words c) (vertex_names_in s) (text_edges s) (names_of s v) (edge_names_of s e) (found_at s from)

-- the piece that is read lies inside the text
pub here_inside : {s : Bytes} {from : Place} {p : Result Step Bool} → StepAt s from p → {x : Step} → p ≡ Ok x → {q : PieceData} → x.piece ≡ q
    → PieceInside s q
here_inside {s} step f g = subst (PieceInside s) g (subst (StepInside s) f step.inside)

-- a value holds no variable
no_variable : (v : Value) → (joined vertex_part (value_standing v) ≡ []) × (joined edge_part (value_standing v) ≡ [])
unfolding value_standing vertex_part edge_part joined
no_variable (Number n) = (refl, refl)
no_variable (Text start length) = (refl, refl)
no_variable (Truth t) = (refl, refl)

-- the edge variable of a piece stands at its part
edge_named_law : (s : Bytes) (p : PieceData) → map (name_at s) (joined edge_part (piece_standing p)) ≡ edge_in (piece_of s p)
unfolding edge_in piece_of piece_standing edge_part joined
edge_named_law s (piece.Start v) = refl
edge_named_law s (piece.Linked true l) = refl
edge_named_law s (piece.Linked false l) = refl
edge_named_law s (piece.Differ v u) = refl
edge_named_law s (piece.Asks d) = ap (map (name_at s)) (no_variable d.value).1
edge_named_law s (piece.Returns v) = refl

pub pattern_start : {book : Bytes} {words : List ℕ} {c : BookCounts} {s : Bytes} → PatternAsked book words c s → {from : Place} → from ≡ text_start
    → {v : Vertices} → v ≡ no_vertices
    → {e : Edges} → e ≡ no_edges → {k : Clauses} → k ≡ no_clauses → {r : Returns} → r ≡ no_returns → PatternSoFar book words c s from 0 v e k r
pattern_start {book} {words} {c} {s} asked {from} f {v} vn {e} en {k} kn {r} rn = let b = book_at book words c in record {
  asked = asked;
  vertices = vertices_start s from v f vn;
  edges = edges_start b s (vertex_names_in s) from 0 e f en;
  clauses = clauses_start b (text_limits c s) s (vertex_names_in s) (text_edges s) from k f kn;
  returns = returns_start s (vertex_names_in s) from r f rn;
  scoped = rw (f, vn, en) (clear_scoped b s (clear_pieces b s asked.clear));
}

module _ {book : Bytes} {words : List ℕ} {c : BookCounts} {s : Bytes} {from : Place} {last : ℕ} {v : Vertices} {e : Edges} {k : Clauses} {r : Returns}
    (so : PatternSoFar book words c s from last v e k r) {p : Result Step Bool} (step : StepAt s from p) where
  abbrev b : Book
  b = book_at book words c

  abbrev vs : List Bytes
  vs = vertex_names_in s

  abbrev es : List Bytes
  es = text_edges s

  abbrev m : Limits
  m = text_limits c s

  clear : Clear b s
  clear = clear_pieces b s so.asked.clear

  few : Few (text_pieces s)
  few = few_pieces (text_pieces s) (text_ordered s) clear.limited

  pub pattern_end : {w : Bool} → p ≡ Err w → PatternRead b c s (pattern_made v e k r)
  pattern_end {w} f =
      let found = vertices_end s from v so.vertices p step w f in
      pattern_read book words c s so.asked v found e k r
      (edges_are book words c s v found.found clear.declared e so.edges.stored (edges_all b s vs from last e so.edges p step w f)
      (edge_parts_all b s vs from last e so.edges p step w f) (edges_inside so.edges))
      (record { read = clauses_all b m s vs es from k so.clauses p step w f; parts = value_parts_all b m s vs es from k so.clauses p step w f })
      (returns_are b s v found.found clear.declared r so.returns.listed (returns_all s vs from r so.returns p step w f))

  -- the names found so far, and what stays as it is
  abbrev ws : List Bytes
  ws = names_of s v

  abbrev fs : List Bytes
  fs = edge_names_of s e

  vertices_kept : MoreVertices s v [] ws v
  vertices_kept = vertices_same s v so.vertices.stored

  edges_kept : MoreEdges s e [] [] e
  edges_kept = edges_same s e so.edges.stored

  clauses_kept : MoreClauses b m s k [] [] k
  clauses_kept = clauses_same b m s k so.clauses.read

  returns_kept : MoreReturns r [] r
  returns_kept = returns_same r so.returns.listed

  -- a piece further: it is q, and the walk goes on at the next place
  module _ {q : PieceData} {next : Place} (f : p ≡ Ok (record { piece = q; next = next })) where
    abbrev x : Step
    x = record { piece = q; next = next }

    abbrev here : Piece
    here = piece_of s q

    scopes : Each (Scoped b vs es ws fs) (condition_in here) × ScopedFrom b vs es (firsts ws (vertex_in here)) (fs ++ edge_in here) (found_at s next)
    unfolding ScopedFrom
    scopes = rw (step_list s from p step x f) at so.scoped

    pattern_on : {own : ℕ} {u : Vertices} {d : Edges} {l : Clauses} {t : Returns} → own ≡ number_after vs last (vertex_in here)
        → MoreVertices s v (joined vertex_part (piece_standing q)) (firsts ws (vertex_in here)) u
        → MoreEdges s e (edges_between b last own here) (joined edge_part (piece_standing q)) d
        → MoreClauses b m s k (map (clause_of vs es) (condition_in here)) (joined value_part (piece_standing q)) l → MoreReturns r (numbers_of vs (return_in here)) t
        → PatternSoFar book words c s next own u d l t
    pattern_on {own} {u} {d} {l} {t} n mv me mk mr = record {
      asked = so.asked;
      vertices = vertices_on s from v so.vertices p step x f u mv;
      edges = edges_on b s vs from last e so.edges p step x f own n d me;
      clauses = clauses_on b m s vs es from k so.clauses p step x f l mk;
      returns = returns_on s vs from r so.returns p step x f t mr;
      scoped = rw (mv.found.named, me.names, edge_named_law s q) scopes.1;
    }

    -- room for the edge, the condition, the returned vertex of the piece
    edge_room : e.count + length (edges_between b last (number_after vs last (vertex_in here)) here) ≤ 16
    edge_room = edges_room b s vs from last e so.edges p step x f (number_after vs last (vertex_in here)) refl few.links

    clause_room : k.count + length (condition_in here) ≤ 32
    clause_room = clauses_room b m s vs es from k so.clauses p step x f few.conditions

    return_room : r.count + length (return_in here) ≤ 4
    return_room = returns_room s vs from r so.returns p step x f few.returns

    -- the piece has a vertex, of this number among those so far
    module _ (name : Part) (h : vertex_in here ≡ name_at s name ∷ []) {own : ℕ} (n : own ≡ place (name_at s name) ws) where
      added_few : length (add_new ws (name_at s name)) ≤ 8
      unfolding firsts_by
      added_few = rw h at (vertices_room s from v so.vertices p step x f few.vertices)

      own_room : own < 8
      own_room = number_room s v so.vertices.stored name own n added_few

      own_later : own ≡ place (name_at s name) vs
      unfolding firsts_by
      own_later =
          let ahead = rw h at (vertices_ahead s from v so.vertices p step x f) in
          n ∙ sym (number_later (name_at s name) ws (vertices_in (found_at s next))) ∙ ap (place (name_at s name)) ahead

      vertex_more : {u : Vertices} → Placed v own name u → MoreVertices s v (name ∷ []) (add_new ws (name_at s name)) u
      vertex_more {u} g = vertex_placed s v so.vertices.stored name own n added_few u g

  -- the piece that is read, by its kind
  module _ {x : Step} (f : p ≡ Ok x) where
    turn : {q : PieceData} → x.piece ≡ q → p ≡ Ok (record { piece = q; next = x.next })
    turn g = f ∙ ap (λ (q : PieceData). Ok (record { piece = q; next = x.next })) g

    -- the first vertex of a chain
    module _ {name : Part} (g : x.piece ≡ piece.Start name) {own : ℕ} (n : own ≡ place (name_at s name) ws) where
      pub start_own : own < 8
      unfolding vertex_in piece_of
      start_own = own_room (turn g) name refl n

      pub start_on : {u : Vertices} → Placed v own name u → PatternSoFar book words c s x.next own u e k r
      unfolding vertex_in edges_between condition_in return_in piece_of piece_standing vertex_part edge_part value_part joined number_after firsts_by
      start_on h = pattern_on (turn g) (own_later (turn g) name refl n) (vertex_more (turn g) name refl n h) edges_kept clauses_kept returns_kept

    -- a link, from the last vertex to its own
    module _ {link : Link} (g : x.piece ≡ piece.Linked true link) where
      goes_room : e.count < 16
      unfolding edges_between piece_of
      goes_room = omega (arith, edge_room (turn g))

      module _ {own : ℕ} (n : own ≡ place (name_at s link.vertex) ws) where
        goes_own : own < 8
        unfolding vertex_in piece_of
        goes_own = own_room (turn g) link.vertex refl n

        goes_on : {u : Vertices} → Placed v own link.vertex u → {y : Edge} → y ≡ edge_made b s link last own
            → PatternSoFar book words c s x.next own u (record { items = set e.items e.count y; count = e.count + 1 }) k r
        unfolding vertex_in edges_between condition_in return_in piece_of piece_standing vertex_part edge_part value_part joined number_after firsts_by
        goes_on h {y} made =
            pattern_on (turn g) (own_later (turn g) link.vertex refl n) (vertex_more (turn g) link.vertex refl n h)
            (link_more s e so.edges.stored b link last own y made goes_room) clauses_kept returns_kept

    -- a link, from its own vertex to the last
    module _ {link : Link} (g : x.piece ≡ piece.Linked false link) where
      comes_room : e.count < 16
      unfolding edges_between piece_of
      comes_room = omega (arith, edge_room (turn g))

      module _ {own : ℕ} (n : own ≡ place (name_at s link.vertex) ws) where
        comes_own : own < 8
        unfolding vertex_in piece_of
        comes_own = own_room (turn g) link.vertex refl n

        comes_on : {u : Vertices} → Placed v own link.vertex u → {y : Edge} → y ≡ edge_made b s link own last
            → PatternSoFar book words c s x.next own u (record { items = set e.items e.count y; count = e.count + 1 }) k r
        unfolding vertex_in edges_between condition_in return_in piece_of piece_standing vertex_part edge_part value_part joined number_after firsts_by
        comes_on h {y} made =
            pattern_on (turn g) (own_later (turn g) link.vertex refl n) (vertex_more (turn g) link.vertex refl n h)
            (link_more s e so.edges.stored b link own last y made comes_room) clauses_kept returns_kept

    -- a link, whichever way it points
    module _ {link : Link} where
      pub link_room : (points : Bool) → x.piece ≡ piece.Linked points link → e.count < 16
      link_room true g = goes_room g
      link_room false g = comes_room g

      module _ {own : ℕ} (n : own ≡ place (name_at s link.vertex) ws) where
        pub link_own : (points : Bool) → x.piece ≡ piece.Linked points link → own < 8
        link_own true g = goes_own g n
        link_own false g = comes_own g n

        pub link_on : (points : Bool) → x.piece ≡ piece.Linked points link → {u : Vertices} → Placed v own link.vertex u
            → {y : Edge} → y ≡ edge_made b s link (pick points last own) (pick points own last)
            → PatternSoFar book words c s x.next own u (record { items = set e.items e.count y; count = e.count + 1 }) k r
        link_on true g h made = goes_on g n h made
        link_on false g h made = comes_on g n h made

    -- an exclusion
    module _ {one other : Part} (g : x.piece ≡ piece.Differ one other) where
      pub differ_room : k.count < 32
      unfolding condition_in piece_of
      differ_room = omega (arith, clause_room (turn g))

      pub differ_on : {y : Condition} → y ≡ Excluded (place (name_at s one) ws) (place (name_at s other) ws)
          → PatternSoFar book words c s x.next last v e (record { items = set k.items k.count (record { condition = y }); count = k.count + 1 }) r
      unfolding vertex_in edges_between condition_in return_in piece_of piece_standing vertex_part edge_part value_part joined number_after firsts_by
      differ_on made =
          let scope = (scopes (turn g)).0.0 in
          let same = made ∙ same_exclusion vs es ws fs (name_at s one) (name_at s other) scope.same in
          let read = excluded_read b m s vs es refl (name_at s one) (name_at s other) scope.named in
          pattern_on (turn g) refl vertices_kept edges_kept (clause_more b m s k so.clauses.read differ_room same read) returns_kept

    -- a requirement
    module _ {d : Demand} (g : x.piece ≡ piece.Asks d) where
      pub asks_room : k.count < 32
      unfolding condition_in piece_of
      asks_room = omega (arith, clause_room (turn g))

      pub asks_on : {y : Condition} → y ≡ demand_in b s ws fs d
          → PatternSoFar book words c s x.next last v e (record { items = set k.items k.count (record { condition = y }); count = k.count + 1 }) r
      unfolding vertex_in edges_between condition_in return_in piece_of piece_standing number_after firsts_by
      asks_on made =
          let scope = (scopes (turn g)).0.0 in
          let none = no_variable d.value in
          let same = made ∙ same_demand b s vs es ws fs d scope.same in
          let read = demand_read b m s vs es refl d scope.named refl (count_vattrs book words c) (count_eattrs book words c) in
          pattern_on (turn g) refl (rw none.0 vertices_kept) (rw none.1 edges_kept) (clause_more b m s k so.clauses.read asks_room same read)
          returns_kept

    -- a returned vertex: no vertex stands behind it
    module _ {name : Part} (g : x.piece ≡ piece.Returns name) where
      pub returned_room : r.count < 4
      unfolding return_in piece_of
      returned_room = omega (arith, return_room (turn g))

      names_all : ws ≡ vs
      unfolding walk_at Ordered spot_after piece_of firsts_by
      names_all =
          let list = step_list s from p step _ (turn g) in
          let order = subst (Ordered (spot_of from.spot)) list
          (walk_ordered (spot_of from.spot) 0 (signs_from (chain_at from.spot) from.close s from.at)) in
          sym (ap (firsts ws) (ap vertices_in list ∙ none_behind (name_at s name) (found_at s x.next) order.1)) ∙ so.vertices.rest

      pub returned_on : {n : ℕ} → n ≡ place (name_at s name) ws
          → PatternSoFar book words c s x.next last v e k (record { items = set r.items r.count n; count = r.count + 1 })
      unfolding vertex_in edges_between condition_in return_in piece_of piece_standing vertex_part edge_part value_part joined number_after firsts_by
      returned_on {n} h =
          let more = return_more r so.returns.listed n returned_room in
          pattern_on (turn g) refl vertices_kept edges_kept clauses_kept
          (subst (λ i. MoreReturns r (i ∷ []) (record { items = set r.items r.count n; count = r.count + 1 }))
          (h ∙ ap (place (name_at s name)) names_all) more)
