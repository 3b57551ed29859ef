-- What a query text that was read holds: names that are words and no keywords, values in range, a vertex and a returned name.
use Prim.Native.Nat.{ℕ, zero, suc, ◌-◌}
use mathlib.Core.Path.{◌≡◌, refl, sym, subst}
use mathlib.Core.Logic.{⊎_elim}
use mathlib.Core.List.Memᴰ
use mathlib.Core.List.Memᴰ.{append_cases}
use mathlib.Core.List.Memᴰ.{cases_cons}
use mathlib.Core.List.{List, [], ◌∷◌, map}
use mathlib.Core.Bool.{true, false}
use lib.Dec.{T}
use Rattle.model.specs.Bytes.{Bytes, bytes_of}
use Rattle.model.specs.Choice.{Maybe, nothing, just}
use Rattle.model.specs.Lists.{all}
use Rattle.model.specs.Words.{Got}
use Rattle.model.specs.Lines.{is_allowed}
use Rattle.model.specs.Signs.{Sign, is_word, signs, signs_of}
use Rattle.model.specs.QueryText.{Chain, end, right, left, Match, QueryText}
use Rattle.model.specs.Grammar.{Piece, start, goes, comes, asks, returns, Spot, at_start, in_chain, in_where, in_return, spot_after, start_at}
use Rattle.model.specs.Grammar.{piece_at, ends_at, pieces, Tail, tail_of, query_text}
use Rattle.model.specs.Query.{hd, ChainEdge, chain_vertices, chain_edges, vertex_names, edges_of, conditions_of}
use Rattle.model.specs.Graph.{Each}
use Rattle.model.proofs.Members.{◌∈◌, each_e, each_i, map_e}
use Rattle.model.proofs.Chains.{hd_in, vertex_stands, vertex_of_law, edge_of_law, edge_ends, condition_of}
use Rattle.model.proofs.WrittenConditions.{IsName, WritableCondition}
use Rattle.model.proofs.WrittenText.{vertex_match, AllNames}
use Rattle.model.proofs.ReadBack.{NonEmpty, match_of_edge, matches_for}
use Rattle.model.proofs.WritableSigns.{IfThere, pick_case, then_case, WritableSign, signs_writable}
use Rattle.model.proofs.WritablePieces.{WritablePiece, any_where, vertex_writable, pieces_writable}

-- a chain of names
abbrev pub WritableChain : Chain → Type 0
WritableChain (end v) = IsName v
WritableChain (right v e l c) = IsName v × IsName e × IsName l × WritableChain c
WritableChain (left v e l c) = IsName v × IsName e × IsName l × WritableChain c

-- a Match of names and of conditions that can be written
abbrev pub WritableMatch : Match → Type 0
WritableMatch m = WritableChain m.chain × Each WritableCondition m.conditions

-- a query text of such Matches that returns names; there is a Match, and a returned name
pub record Wellformed (q : QueryText) : Type 0 where
  pub matches_writable : Each WritableMatch q.matches
  pub returns_names : Each IsName q.returns
  pub some_match : NonEmpty q.matches
  pub some_return : NonEmpty q.returns

record WritableTail (t : Tail) : Type 0 where
  chain_writable : (v : Bytes) → IsName v → WritableChain (t.chain v)
  conditions_writable : Each WritableCondition t.conditions
  matches_writable : Each WritableMatch t.later.matches
  returns_names : Each IsName t.later.returns

tail_writable : (ps : List Piece) → Each WritablePiece ps → WritableTail (tail_of ps)
unfolding tail_of
tail_writable [] h = record { chain_writable = λ v n. n; conditions_writable = tt; matches_writable = tt; returns_names = tt }
tail_writable (start v ∷ ps) h = let t = tail_writable ps h.1 in
    record {
      chain_writable = λ v n. n;
      conditions_writable = tt;
      matches_writable =
          ((t.chain_writable v h.0, t.conditions_writable), t.matches_writable);
      returns_names = t.returns_names;
    }
tail_writable (goes e l u ∷ ps) h = let t = tail_writable ps h.1 in
    record {
      chain_writable = λ v n. (n, h.0.0, h.0.1, t.chain_writable u h.0.2);
      conditions_writable = t.conditions_writable;
      matches_writable =
          t.matches_writable;
      returns_names = t.returns_names;
    }
tail_writable (comes e l u ∷ ps) h = let t = tail_writable ps h.1 in
    record {
      chain_writable = λ v n. (n, h.0.0, h.0.1, t.chain_writable u h.0.2);
      conditions_writable = t.conditions_writable;
      matches_writable =
          t.matches_writable;
      returns_names = t.returns_names;
    }
tail_writable (asks c ∷ ps) h = let t = tail_writable ps h.1 in
    record {
      chain_writable = λ v n. n;
      conditions_writable = (h.0, t.conditions_writable);
      matches_writable = t.matches_writable;
      returns_names =
          t.returns_names;
    }
tail_writable (returns v ∷ ps) h = let t = tail_writable ps h.1 in
    record { chain_writable = λ v n. n; conditions_writable = tt; matches_writable = tt; returns_names = (h.0, t.returns_names) }

-- a spot before Return
abbrev NotYetReturned : Spot → Type 0
NotYetReturned at_start = T true
NotYetReturned in_chain = T true
NotYetReturned in_where = T true
NotYetReturned in_return = ⊥

-- from a spot before Return a text comes to a returned name
abbrev Returned : Spot → List Piece → Type 0
Returned p ps = NotYetReturned p → NonEmpty (tail_of ps).later.returns

piece_returned : (g : Piece) (ps : List Piece) → Returned (spot_after g) ps → NonEmpty (tail_of (g ∷ ps)).later.returns
unfolding tail_of spot_after
piece_returned (start v) ps h = h tt
piece_returned (goes e l v) ps h = h tt
piece_returned (comes e l v) ps h = h tt
piece_returned (asks c) ps h = h tt
piece_returned (returns v) ps h = tt

end_returned : (p : Spot) → IfThere (Returned p) (ends_at p)
unfolding ends_at
end_returned at_start = tt
end_returned in_chain = tt
end_returned in_where = tt
end_returned in_return = λ z. absurd z

pieces_returned : (p : Spot) (k : ℕ) (ts : List Sign) → IfThere (Returned p) (pieces p k ts)
unfolding pieces
pieces_returned p k [] = end_returned p
pieces_returned p (suc k) (t ∷ ts) = pieces_returned p k ts
pieces_returned p zero (t ∷ ts) =
    then_case (λ (g : Got Piece). T true) (Returned p) (piece_at p t ts) _ (any_where (piece_at p t ts))
    (λ g n. then_case (Returned (spot_after g.got)) (Returned p) (pieces (spot_after g.got) (g.size - 1) ts) (λ ps. just (g.got ∷ ps))
    (pieces_returned (spot_after g.got) (g.size - 1) ts) (λ ps m o. piece_returned g.got ps m))

-- a text begins with a Match
abbrev Starts : Piece → Type 0
Starts (start v) = T true
Starts (goes e l v) = ⊥
Starts (comes e l v) = ⊥
Starts (asks c) = ⊥
Starts (returns v) = ⊥

start_starts : (ts : List Sign) → Each WritableSign ts → IfThere (λ (g : Got Piece). Starts g.got) (start_at ts)
unfolding start_at
start_starts ts h = vertex_writable (λ (g : Got Piece). Starts g.got) ts (λ v. just (record { got = start v; size = 4 })) h (λ v n. tt)

piece_starts : (t : Sign) (ts : List Sign) → Each WritableSign ts → IfThere (λ (g : Got Piece). Starts g.got) (piece_at at_start t ts)
unfolding piece_at
piece_starts t ts h = pick_case (IfThere (λ (g : Got Piece). Starts g.got)) (is_word (bytes_of "Match") t) (start_at ts) nothing (λ z. start_starts ts h) tt

starts_match : (g : Piece) (ps : List Piece) → Starts g → NonEmpty (tail_of (g ∷ ps)).later.matches
unfolding tail_of
starts_match (start v) ps h = tt
starts_match (goes e l v) ps h = absurd h
starts_match (comes e l v) ps h = absurd h
starts_match (asks c) ps h = absurd h
starts_match (returns v) ps h = absurd h

abbrev Matched : List Piece → Type 0
Matched ps = NonEmpty (tail_of ps).later.matches

pieces_matched : (ts : List Sign) → Each WritableSign ts → IfThere Matched (pieces at_start 0 ts)
unfolding pieces ends_at
pieces_matched [] h = tt
pieces_matched (t ∷ ts) h =
    then_case (λ (g : Got Piece). Starts g.got) Matched (piece_at at_start t ts) _ (piece_starts t ts h.1)
    (λ g n. then_case (λ (ps : List Piece). T true) Matched (pieces (spot_after g.got) (g.size - 1) ts) (λ ps. just (g.got ∷ ps))
    (any_where (pieces (spot_after g.got) (g.size - 1) ts)) (λ ps m. starts_match g.got ps n))

both_there : {A : Type 0} (P Q : A → Type 0) (m : Maybe A) → IfThere P m → IfThere Q m → IfThere (λ a. P a × Q a) m
both_there P Q nothing h k = tt
both_there P Q (just a) h k = (h, k)

text_wellformed : (s : Bytes) → T (all is_allowed s) → IfThere Wellformed (query_text s)
unfolding query_text signs_of
text_wellformed s h =
    let ts = signs false false 0 s in
    let g = signs_writable false false 0 s h in
    let m = pieces at_start 0 ts in
    then_case (λ ps. Each WritablePiece ps × (Returned at_start ps × Matched ps)) Wellformed m (λ ps. just (tail_of ps).later)
    (both_there (Each WritablePiece) (λ ps. Returned at_start ps × Matched ps) m (pieces_writable at_start 0 ts g)
    (both_there (Returned at_start) Matched m (pieces_returned at_start 0 ts) (pieces_matched ts g)))
    (λ ps k. let t = tail_writable ps k.0 in
    record { matches_writable = t.matches_writable; returns_names = t.returns_names; some_match = k.1.1; some_return = k.1.0 tt })

-- a query text that was read from allowed bytes is well formed
pub wellformed : (s : Bytes) (q : QueryText) → T (all is_allowed s) → query_text s ≡ just q → Wellformed q
wellformed s q h e = subst (IfThere Wellformed) e (text_wellformed s h)

-- names, edges and conditions of a wellformed query text
some_in : {A : Type 0} (l : List A) (x : A) → x ∈ l → NonEmpty l
some_in [] x m = elim m [ ]
some_in (y ∷ l) x m = tt

chain_names : (c : Chain) → WritableChain c → (v : Bytes) → v ∈ chain_vertices c → IsName v
unfolding chain_vertices
chain_names (end u) h v m = ⊎_elim (λ e. subst IsName (sym e) h) (λ z. elim z [ ]) (cases_cons m)
chain_names (right u e l c) h v m = ⊎_elim (λ e. subst IsName (sym e) h.0) (λ n. chain_names c h.3 v n) (cases_cons m)
chain_names (left u e l c) h v m = ⊎_elim (λ e. subst IsName (sym e) h.0) (λ n. chain_names c h.3 v n) (cases_cons m)

abbrev NamedEdge : ChainEdge → Type 0
NamedEdge e = IsName e.name × IsName e.label

chain_edges_law : (c : Chain) → WritableChain c → (e : ChainEdge) → e ∈ chain_edges c → NamedEdge e
unfolding chain_edges
chain_edges_law (end u) h e m = elim m [ ]
chain_edges_law (right u d l c) h e m = ⊎_elim (λ p. subst NamedEdge (sym p) (h.1, h.2)) (λ n. chain_edges_law c h.3 e n) (cases_cons m)
chain_edges_law (left u d l c) h e m = ⊎_elim (λ p. subst NamedEdge (sym p) (h.1, h.2)) (λ n. chain_edges_law c h.3 e n) (cases_cons m)

module _ (q : QueryText) (w : Wellformed q) where
  match_writable : (m : Match) → m ∈ q.matches → WritableMatch m
  match_writable m k = each_e WritableMatch q.matches w.matches_writable m k

  vertex_name_law : (v : Bytes) → v ∈ vertex_names q → IsName v
  vertex_name_law v m = let r = vertex_of_law q v m in chain_names r.0.chain (match_writable r.0 r.1).0 v r.2

  edge_name_law : (e : ChainEdge) → e ∈ edges_of q → NamedEdge e
  edge_name_law e m = let r = edge_of_law q e m in chain_edges_law r.0.chain (match_writable r.0 r.1).0 e r.2

  -- its conditions can be written
  pub conditions_writable : Each WritableCondition (conditions_of q)
  conditions_writable = each_i WritableCondition (conditions_of q)
      (λ c m. let r = condition_of q c m in each_e WritableCondition r.0.conditions (match_writable r.0 r.1).1 c r.2)

  -- the Matches that are written for it are of names
  pub matches_for_writable : Each AllNames (matches_for q)
  matches_for_writable = each_i AllNames (matches_for q) (λ p m. ⊎_elim
      (λ n. let r = map_e vertex_match (vertex_names q) p n in subst AllNames (sym r.2) (vertex_name_law r.0 r.1))
      (λ n. let r = map_e match_of_edge (edges_of q) p n in let e = edge_name_law r.0 r.1 in let k = edge_ends q r.0 r.1 in
      subst AllNames (sym r.2) (vertex_name_law _ k.0, e.0, e.1, vertex_name_law _ k.1))
      (append_cases (map vertex_match (vertex_names q)) m))

  -- it has a vertex
  pub some_vertex : NonEmpty (vertex_names q)
  some_vertex = first q.matches w.some_match (λ m k. some_in (vertex_names q) (hd m.chain) (vertex_stands q m k (hd m.chain) (hd_in m.chain)))
    where
      first : (ms : List Match) → NonEmpty ms → ((m : Match) → m ∈ ms → NonEmpty (vertex_names q)) → NonEmpty (vertex_names q)
      first [] h f = absurd h
      first (m ∷ ms) h f = f m (Memᴰ.head refl)
