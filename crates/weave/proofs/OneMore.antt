-- The woven pattern of one text more is that of the texts before with what the text adds. Assumes nothing.
use Prim.Native.Nat.{ℕ, suc, ◌+◌, ◌<◌}
use mathlib.Core.Path.{◌≡◌, refl, sym, ap, ap₂, subst, ◌∙◌}
use mathlib.Core.List.Memᴰ
use mathlib.Core.List.{List, [], ◌∷◌, ◌++◌, map, append-nil, append_assoc}
use native.Mathlib.Omega.{arith}
use lib.ListN.{length, get_or, length-append}
use lib.Dec.{eqb, eqb-suc-zero}
use Rattle.model.specs.Bytes.{Bytes}
use Rattle.model.specs.Choice.{pick}
use Rattle.model.specs.Lists.{joined}
use Rattle.model.specs.Pattern.{Pattern, Edge, Clause, excluded, vertex_has, edge_has, pattern_of}
use Rattle.model.specs.Graph.{Each}
use Rattle.model.specs.Weave.{Asked, WovenVertex, WovenPattern, same_vertex, first_vertices, no_vertex, weave_vertex, named, moved, moved_edge}
use Rattle.model.specs.Weave.{moved_clause, moved_clauses, returns_of, weave}
use Rattle.model.proofs.Members.{◌∈◌, joined_i}
use Rattle.model.proofs.FirstNames.{firsts_by_append}
use Rattle.model.proofs.WovenVertices.{first_vertices_i}
use Rattle.model.proofs.Places.{get_or_in, length_map, joined_append}
use Rattle.weave.specs.OneMore.{under_names, more_vertices, one_more, ClauseWithin, Ranged}
use Rattle.woven_tables.proofs.Places.{place_firsts}

-- two functions that agree on each element
pub map_each : {A B : Type 0} (P : A → Type 0) (f g : A → B) (l : List A) → Each P l → ((x : A) → P x → f x ≡ g x) → map f l ≡ map g l
map_each P f g [] h e = refl
map_each P f g (x ∷ l) h e = ap₂ (λ y ys. y ∷ ys) (e x h.0) (map_each P f g l h.1 e)

-- weaving its vertices changes no number of a pattern
pub ranged_under : (k : ℕ) (actors : List Bytes) (p : Pattern) → Ranged p → Ranged (under_names k actors p)
unfolding under_names
ranged_under k actors p h =
    let e = sym (length_map (weave_vertex k actors) p.vertices) in
    record {
      edges = subst (λ n. Each (λ (e : Edge). (e.from < n) × (e.to < n)) p.edges) e h.edges;
      clauses = subst (λ n. Each (ClauseWithin n (length p.edges)) p.clauses) e h.clauses;
      returns = subst (λ n. Each (λ v. v < n) p.returns) e h.returns;
    }

-- the texts' patterns of woven vertices, with one text more
pub named_more : (k : ℕ) (asked : List Asked) (a : Asked)
    → named k (asked ++ (a ∷ [])) ≡ named k asked ++ (under_names (k + length asked) a.actors (pattern_of a.text) ∷ [])
unfolding named under_names
named_more k [] a = let e : k ≡ k + 0 = omega arith in ap (λ n. under_names n a.actors (pattern_of a.text) ∷ []) e
named_more k (x ∷ asked) a =
    let e : k + 1 + length asked ≡ k + suc (length asked) = omega arith in
    ap (λ z. under_names k x.actors (pattern_of x.text) ∷ z)
    (named_more (k + 1) asked a ∙ ap (λ n. named (k + 1) asked ++ (under_names n a.actors (pattern_of a.text) ∷ [])) e)

-- the pattern of a text has no number out of range
abbrev pub Sound : Asked → Type 0
Sound a = Ranged (pattern_of a.text)

named_ranged : (k : ℕ) (asked : List Asked) → Each Sound asked → Each Ranged (named k asked)
unfolding named under_names
named_ranged k [] h = tt
named_ranged k (a ∷ asked) h = (ranged_under k a.actors (pattern_of a.text) h.0, named_ranged (k + 1) asked h.1)

-- the vertices of a pattern have the same places in two lists
abbrev Stays : List WovenVertex → List WovenVertex → WovenPattern → Type 0
Stays vs us p = (i : ℕ) → i < length p.vertices → moved us p i ≡ moved vs p i

module _ (vs us : List WovenVertex) where
  stays_edges : (p : WovenPattern) → Ranged p → Stays vs us p → map (moved_edge us p) p.edges ≡ map (moved_edge vs p) p.edges
  unfolding moved_edge
  stays_edges p r s = map_each _ (moved_edge us p) (moved_edge vs p) p.edges r.edges
      (λ (e : Edge) h. ap₂ (λ x y. let z : Edge = record { name = e.name; label = e.label; from = x; to = y } in z) (s e.from h.0) (s e.to h.1))

  stays_clauses : (p : WovenPattern) (n : ℕ) → Ranged p → Stays vs us p → map (moved_clause us p n) p.clauses ≡ map (moved_clause vs p n) p.clauses
  unfolding moved_clause
  stays_clauses p n r s = map_each (ClauseWithin (length p.vertices) (length p.edges)) (moved_clause us p n) (moved_clause vs p n) p.clauses
      r.clauses one
    where
      one : (c : Clause) → ClauseWithin (length p.vertices) (length p.edges) c → moved_clause us p n c ≡ moved_clause vs p n c
      one (excluded u v) h = ap₂ excluded (s u h.0) (s v h.1)
      one (vertex_has v a r x) h = ap (λ z. vertex_has z a r x) (s v h)
      one (edge_has e a r x) h = refl

  stays_returns : (p : WovenPattern) → Ranged p → Stays vs us p → map (moved us p) p.returns ≡ map (moved vs p) p.returns
  stays_returns p r s = map_each (λ v. v < length p.vertices) (moved us p) (moved vs p) p.returns r.returns s

  stay_edges : (ps : List WovenPattern) → Each Ranged ps → Each (Stays vs us) ps
      → joined (λ p. map (moved_edge us p) p.edges) ps ≡ joined (λ p. map (moved_edge vs p) p.edges) ps
  unfolding joined
  stay_edges [] r s = refl
  stay_edges (p ∷ ps) r s = ap₂ (λ x y. x ++ y) (stays_edges p r.0 s.0) (stay_edges ps r.1 s.1)

  stay_clauses : (n : ℕ) (ps : List WovenPattern) → Each Ranged ps → Each (Stays vs us) ps → moved_clauses us n ps ≡ moved_clauses vs n ps
  unfolding moved_clauses
  stay_clauses n [] r s = refl
  stay_clauses n (p ∷ ps) r s = ap₂ (λ x y. x ++ y) (stays_clauses p n r.0 s.0) (stay_clauses (n + length p.edges) ps r.1 s.1)

-- the clauses of one pattern more, behind those of the others
clauses_more : (vs : List WovenVertex) (n : ℕ) (ps : List WovenPattern) (p : WovenPattern)
    → moved_clauses vs n (ps ++ (p ∷ [])) ≡ moved_clauses vs n ps
    ++ map (moved_clause vs p (n + length (joined (λ q. map (moved_edge vs q) q.edges) ps))) p.clauses
unfolding moved_clauses joined
clauses_more vs n [] p = let e : n ≡ n + 0 = omega arith in
    append-nil (map (moved_clause vs p n) p.clauses) ∙ ap (λ m. map (moved_clause vs p m) p.clauses) e
clauses_more vs n (q ∷ ps) p =
    let own = map (moved_edge vs q) q.edges in
    let rest = joined (λ (q : WovenPattern). map (moved_edge vs q) q.edges) ps in
    let m = length q.edges in
    let l = length_map (moved_edge vs q) q.edges in
    let e : n + m + length rest ≡ n + length (own ++ rest) = omega (arith, length-append own rest) in
    ap (λ z. map (moved_clause vs q n) q.clauses ++ z)
    (clauses_more vs (n + m) ps p ∙ ap (λ i. moved_clauses vs (n + m) ps ++ map (moved_clause vs p i) p.clauses) e)
    ∙ sym (append_assoc (map (moved_clause vs q n) q.clauses) (moved_clauses vs (n + m) ps) (map (moved_clause vs p (n + length (own ++ rest))) p.clauses))

-- vertices keep their woven numbers when a text comes behind
stay_all : (ps : List WovenPattern) (ws : List WovenVertex) (qs : List WovenPattern) → ((p : WovenPattern) → p ∈ qs → p ∈ ps)
    → let vs = first_vertices [] (joined (λ (p : WovenPattern). p.vertices) ps) in Each (Stays vs (first_vertices vs ws)) qs
unfolding moved
stay_all ps ws [] f = tt
stay_all ps ws (q ∷ qs) f =
    let vs = first_vertices [] (joined (λ (p : WovenPattern). p.vertices) ps) in (
      λ i h. place_firsts (get_or q.vertices i no_vertex) vs ws
          (first_vertices_i [] (joined (λ (p : WovenPattern). p.vertices) ps) (get_or q.vertices i no_vertex)
          (joined_i (λ (p : WovenPattern). p.vertices) ps q (f q (Memᴰ.head refl)) (get_or q.vertices i no_vertex) (get_or_in q.vertices i no_vertex h))),
      stay_all ps ws qs (λ p i. f p (Memᴰ.tail i)),
    )

-- what the woven pattern of patterns is made of, vs being the woven vertices
abbrev its_vertices : WovenPattern → List WovenVertex
its_vertices p = p.vertices

abbrev moved_edges : List WovenVertex → WovenPattern → List Edge
moved_edges vs p = map (moved_edge vs p) p.edges

abbrev woven_of : List WovenVertex → List WovenPattern → WovenPattern
woven_of vs ps = record { vertices = vs; edges = joined (moved_edges vs) ps; clauses = moved_clauses vs 0 ps; returns = returns_of vs ps }

-- Return is that of the first text
returns_more : (asked : List Asked) (p : WovenPattern) (vs us : List WovenVertex) → Each Ranged (named 0 asked) → Each (Stays vs us) (named 0 asked)
    → returns_of us (named 0 asked ++ (p ∷ [])) ≡ pick (eqb (length asked) 0) (map (moved us p) p.returns) (returns_of vs (named 0 asked))
unfolding named returns_of under_names
returns_more [] p vs us r s = refl
returns_more (a ∷ asked) p vs us r s = rw (eqb-suc-zero (length asked)) (stays_returns vs us (under_names 0 a.actors (pattern_of a.text)) r.0 s.0)

-- the woven pattern of one text more
pub weave_one_more : (asked : List Asked) (a : Asked) → Each Sound asked
    → weave (asked ++ (a ∷ [])) ≡ one_more (length asked) a.actors (pattern_of a.text) (weave asked)
unfolding weave one_more more_vertices under_names joined
weave_one_more asked a sound =
    let ps = named 0 asked in
    let p = pattern_of a.text in
    let own = under_names (length asked) a.actors p in
    let vs = first_vertices [] (joined its_vertices ps) in
    let us = first_vertices vs own.vertices in
    let ranged = named_ranged 0 asked sound in
    let stay = stay_all ps own.vertices ps (λ p i. i) in
    let zero_add : 0 + length asked ≡ length asked = omega arith in
    let all : named 0 (asked ++ (a ∷ [])) ≡ ps ++ (own ∷ []) = named_more 0 asked a ∙ ap (λ n. ps ++ (under_names n a.actors p ∷ [])) zero_add in
    let vertices : first_vertices [] (joined its_vertices (ps ++ (own ∷ []))) ≡ us =
    ap (first_vertices []) (joined_append its_vertices ps (own ∷ []) ∙ ap (λ z. joined its_vertices ps ++ z) (append-nil (its_vertices own)))
    ∙ firsts_by_append same_vertex [] (joined its_vertices ps) own.vertices in
    let edges : joined (moved_edges us) (ps ++ (own ∷ [])) ≡ joined (moved_edges vs) ps ++ map (moved_edge us own) p.edges =
    joined_append (moved_edges us) ps (own ∷ []) ∙ ap₂ (λ x y. x ++ y) (stay_edges vs us ps ranged stay) (append-nil (moved_edges us own)) in
    let same_count : length (joined (moved_edges us) ps) ≡ length (joined (moved_edges vs) ps) = ap length (stay_edges vs us ps ranged stay) in
    let zero_more : 0 + length (joined (moved_edges us) ps) ≡ length (joined (moved_edges vs) ps) = omega arith in
    let clauses : moved_clauses us 0 (ps ++ (own ∷ [])) ≡ moved_clauses vs 0 ps ++ map (moved_clause us own (length (joined (moved_edges vs) ps))) p.clauses =
    clauses_more us 0 ps own ∙ ap₂ (λ x y. x ++ y) (stay_clauses vs us 0 ps ranged stay) (ap (λ n. map (moved_clause us own n) p.clauses) zero_more) in
    let returns = returns_more asked own vs us ranged stay in
    ap (λ ps. woven_of (first_vertices [] (joined its_vertices ps)) ps) all ∙ ap (λ us. woven_of us (ps ++ (own ∷ []))) vertices
    ∙ (λ i. record { vertices = us; edges = edges i; clauses = clauses i; returns = returns i })

-- what holds of the woven pattern of some texts, and is kept by each text more, holds of that of all
pub weave_keeps : (P : WovenPattern → Type 0)
    → ((k : ℕ) (actors : List Bytes) (p : Pattern) (woven : WovenPattern) → Ranged p → P woven → P (one_more k actors p woven))
    → (asked more : List Asked) → Each Sound (asked ++ more) → P (weave asked) → P (weave (asked ++ more))
weave_keeps P keeps asked [] sound h = subst (λ z. P (weave z)) (sym (append-nil asked)) h
weave_keeps P keeps asked (a ∷ more) sound h =
    let s = parts asked (a ∷ more) sound in
    let one = keeps (length asked) a.actors (pattern_of a.text) (weave asked) s.1.0 h in
    let e = append_assoc asked (a ∷ []) more in
    subst (λ z. P (weave z)) e (weave_keeps P keeps (asked ++ (a ∷ [])) more (subst (Each Sound) (sym e) sound)
    (subst P (sym (weave_one_more asked a s.0)) one))
  where
    parts : (xs ys : List Asked) → Each Sound (xs ++ ys) → Each Sound xs × Each Sound ys
    parts [] ys h = (tt, h)
    parts (x ∷ xs) ys h = let r = parts xs ys h.1 in ((h.0, r.0), r.1)
