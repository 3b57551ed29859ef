-- Writing brings in no fault: where a text has none, the text that is read back has none.
use mathlib.Core.Path.{◌≡◌, sym, ap, subst}
use mathlib.Core.Logic.{◌⊎◌, inl, inr, ⊎_elim}
use mathlib.Core.List.Memᴰ
use mathlib.Core.List.{List, [], ◌∷◌, map}
use mathlib.Core.Bool.{Bool, not, ◌&&◌, ◌||◌}
use lib.ListN.{length}
use lib.Dec.{T, ltb, T_not, not_T}
use Rattle.model.specs.Bytes.{Bytes}
use Rattle.model.specs.Choice.{nothing}
use Rattle.model.specs.Lists.{any, keep, joined}
use Rattle.model.specs.Names.{mem, twice}
use Rattle.model.specs.Book.{Book, attr_names}
use Rattle.model.specs.QueryText.{Condition, differ, demand, Match, QueryText}
use Rattle.model.specs.Grammar.{returns}
use Rattle.model.specs.Query.{ChainEdge, vertex_names, edges_of, conditions_of}
use Rattle.model.specs.ReadQuery.{Scoped, scoped, unknown, typed, mistyped, is_differ, from_itself, has_undeclared, has_twice, has_mistyped, too_many}
use Rattle.model.specs.ReadQuery.{has_from_itself, query_faults, query_fault}
use Rattle.model.proofs.Decides.{and_iff, or_l, or_r, or_cases}
use Rattle.model.proofs.Members.{◌∈◌, any_e, any_i, map_e, mem_i, mem_e, firsts_i}
use Rattle.model.proofs.Chains.{condition_of}
use Rattle.model.proofs.Outcomes.{no_fault}
use Rattle.model.proofs.Scopes.{in_scope, joined_names, vertices_in, edge_names_in}
use Rattle.model.proofs.WrittenText.{WrittenMatch}
use Rattle.model.proofs.ReadBack.{matches_of, match_vertices, match_edges, name_in, scoped_by, written_scopes, matches_for, ends, matches_vertices}
use Rattle.model.proofs.ReadBack.{matches_edges, NonEmpty, some_match_for, read_back, back_vertices, back_edges, back_edge_names}
use Rattle.model.proofs.ReadBack.{back_conditions}

-- every condition of a written text has all its variables in scope
some_scoped : (ps : List WrittenMatch) (cs : List Condition) → NonEmpty ps
    → scoped [] [] (matches_of ps cs) ≡ map (scoped_by (joined match_vertices ps) (map name_in (joined match_edges ps))) cs
some_scoped [] cs h = absurd h
some_scoped (p ∷ ps) cs h = written_scopes p ps cs [] []

-- every name of one list is of another
abbrev Within : List Bytes → List Bytes → Type 0
Within a b = (x : Bytes) → x ∈ a → x ∈ b

-- a test of conditions that holds no more often in a wider scope
abbrev FewerByScope : (Condition → List Bytes → List Bytes → Bool) → Type 0
FewerByScope f = (c : Condition) (us fs vs es : List Bytes) → Within us vs → Within fs es → T (f c vs es) → T (f c us fs)

-- the test of a condition in its scope
abbrev tested : (Condition → List Bytes → List Bytes → Bool) → Scoped → Bool
tested f s = f s.condition s.vertices s.edges

vertex_known : (q : QueryText) (x : Bytes) → (x ∈ []) ⊎ (x ∈ joined vertices_in q.matches) → x ∈ vertex_names q
unfolding vertex_names
vertex_known q x (inl z) = elim z [ ]
vertex_known q x (inr m) = firsts_i [] (joined vertices_in q.matches) x m

edge_known : (q : QueryText) (x : Bytes) → (x ∈ []) ⊎ (x ∈ joined edge_names_in q.matches) → x ∈ map name_in (edges_of q)
unfolding edges_of
edge_known q x (inl z) = elim z [ ]
edge_known q x (inr m) = joined_names q.matches x m

-- such a test that holds nowhere in a text holds nowhere in the text that is read back
back_tested : (q : QueryText) (f : Condition → List Bytes → List Bytes → Bool) → FewerByScope f → NonEmpty (vertex_names q)
    → (T (any (tested f) (scoped [] [] q.matches)) → ⊥)
    → T (any (tested f) (scoped [] [] (read_back q).matches)) → ⊥
back_tested q f d h nay t =
    let ps = matches_for q in
    let cs = conditions_of q in
    let us = joined match_vertices ps in
    let fs = map name_in (joined match_edges ps) in
    let r = any_e (tested f) (scoped [] [] (matches_of ps cs)) t in
    let k = map_e (scoped_by us fs) cs r.0 (subst (λ z. r.0 ∈ z) (some_scoped ps cs (some_match_for (vertex_names q) (edges_of q) h)) r.1) in
    from_scope k.0 k.1 (subst (λ z. T (tested f z)) k.2 r.2)
  where
    from_scope : (c : Condition) → c ∈ conditions_of q → T (f c (joined match_vertices (matches_for q)) (map name_in (joined match_edges (matches_for q)))) → ⊥
    from_scope c m t = in_match c (condition_of q c m) t
      where
        in_match : (c : Condition) → (k : Match) × (k ∈ q.matches) × (c ∈ k.conditions)
            → T (f c (joined match_vertices (matches_for q)) (map name_in (joined match_edges (matches_for q)))) → ⊥
        in_match c (k, n, j) t = let w = in_scope [] [] q.matches k n c j in
            nay (any_i (tested f) (scoped [] [] q.matches) w.at w.there
            (d w.at.condition w.at.vertices w.at.edges _ _
            (λ x p. subst (λ z. x ∈ z) (sym (matches_vertices (vertex_names q) (edges_of q)))
            (Memᴰ.append_left (joined ends (edges_of q)) (vertex_known q x (w.vertex x p))))
            (λ x p. subst (λ z. x ∈ map name_in z) (sym (matches_edges (vertex_names q) (edges_of q))) (edge_known q x (w.edge x p)))
            (subst (λ z. T (f z (joined match_vertices (matches_for q)) (map name_in (joined match_edges (matches_for q))))) (sym w.is) t)))

mem_more : (x : Bytes) (a b : List Bytes) → Within a b → T (mem x a) → T (mem x b)
mem_more x a b h t = mem_i x b (h x (mem_e x a t))

not_falls : (a b : Bool) → (T a → T b) → T (not b) → T (not a)
not_falls a b f t = not_T a (λ u. T_not b t (f u))

or_more : (a b c d : Bool) → (T a → T c) → (T b → T d) → T (a || b) → T (c || d)
or_more a b c d f g t = ⊎_elim (λ u. or_l c d (f u)) (λ u. or_r c d (g u)) (or_cases a b t)

and_more : (a b c d : Bool) → (T a → T c) → (T b → T d) → T (a && b) → T (c && d)
and_more a b c d f g t = let u = (and_iff a b).1 t in (and_iff c d).0 (f u.0, g u.1)

-- whether a condition is unknown is such a test
unknown_falls : (b : Book) → FewerByScope (unknown b)
unfolding unknown
unknown_falls b (differ v u) us fs vs es p q t = not_falls (mem v us && mem u us) (mem v vs && mem u vs)
    (and_more (mem v us) (mem u us) (mem v vs) (mem u vs) (mem_more v us vs p) (mem_more u us vs p)) t
unknown_falls b (demand x a r v) us fs vs es p q t =
    let A = mem a (attr_names b.vattrs) in let B = mem a (attr_names b.eattrs) in
    not_falls (mem x us && A || mem x fs && B) (mem x vs && A || mem x es && B)
    (or_more (mem x us && A) (mem x fs && B) (mem x vs && A) (mem x es && B) (and_more (mem x us) A (mem x vs) A (mem_more x us vs p) (λ z. z))
    (and_more (mem x fs) B (mem x es) B (mem_more x fs es q) (λ z. z))) t

-- and whether it is mistyped
mistyped_falls : (b : Book) → FewerByScope (mistyped b)
unfolding mistyped
mistyped_falls b (differ v u) us fs vs es p q t = t
mistyped_falls b (demand x a r v) us fs vs es p q t =
    let A = typed b.vattrs a r v in let B = typed b.eattrs a r v in
    not_falls (mem x us && A || mem x fs && B) (mem x vs && A || mem x es && B)
    (or_more (mem x us && A) (mem x fs && B) (mem x vs && A) (mem x es && B) (and_more (mem x us) A (mem x vs) A (mem_more x us vs p) (λ z. z))
    (and_more (mem x fs) B (mem x es) B (mem_more x fs es q) (λ z. z))) t

-- an edge whose label is not declared
abbrev unlabelled : Book → ChainEdge → Bool
unlabelled b e = not (mem e.label b.labels)

-- so nothing undeclared comes in, nothing mistyped, and the other faults are the same
back_undeclared : (b : Book) (q : QueryText) → NonEmpty (vertex_names q) → (T (has_undeclared b q) → ⊥) → T (has_undeclared b (read_back q)) → ⊥
unfolding has_undeclared
back_undeclared b q h nay t =
    let L = any (unlabelled b) (edges_of q) in
    let C = any (tested (unknown b)) (scoped [] [] q.matches) in
    let R = any (λ v. not (mem v (vertex_names q))) q.returns in
    let C' = any (tested (unknown b)) (scoped [] [] (read_back q).matches) in
    let t' : T (L || C' || R) = rw (back_edges q, back_vertices q) at t in
    ⊎_elim
    (λ u. ⊎_elim (λ w. nay (or_l (L || C) R (or_l L C w))) (λ w. back_tested q (unknown b) (unknown_falls b) h (λ z. nay (or_l (L || C) R (or_r L C z))) w)
    (or_cases L C' u))
    (λ u. nay (or_r (L || C) R u))
    (or_cases (L || C') R t')

back_mistyped : (b : Book) (q : QueryText) → NonEmpty (vertex_names q) → (T (has_mistyped b q) → ⊥) → T (has_mistyped b (read_back q)) → ⊥
unfolding has_mistyped
back_mistyped b q h nay t = back_tested q (mistyped b) (mistyped_falls b) h nay t

back_twice : (q : QueryText) → has_twice (read_back q) ≡ has_twice q
unfolding has_twice
back_twice q = λ i. twice (back_edge_names q i) || any (λ e. mem e (back_vertices q i)) (back_edge_names q i) || twice q.returns

back_too_many : (q : QueryText) → NonEmpty (vertex_names q) → too_many (read_back q) ≡ too_many q
unfolding too_many
back_too_many q h = λ i.
    ltb 8 (length (back_vertices q i)) || ltb 16 (length (back_edges q i))
    || ltb 16 (length (keep is_differ (back_conditions q h i))) || ltb 16 (length (keep (λ c. not (is_differ c)) (back_conditions q h i)))
    || ltb 4 (length q.returns)

back_itself : (q : QueryText) → NonEmpty (vertex_names q) → has_from_itself (read_back q) ≡ has_from_itself q
unfolding has_from_itself
back_itself q h = ap (any from_itself) (back_conditions q h)

-- the text that is read back has no fault where the text has none
pub back_fault : (b : Book) (q : QueryText) → NonEmpty (vertex_names q) → query_fault b q ≡ nothing → query_fault b (read_back q) ≡ nothing
unfolding query_fault
back_fault b q h e =
    let r = (no_fault (query_faults b q)).0 e in
    (no_fault (query_faults b (read_back q))).1 (
      back_undeclared b q h r.0,
      (
        subst (λ t. T t → ⊥) (sym (back_twice q)) r.1.0,
        (
          back_mistyped b q h r.1.1.0,
          (subst (λ t. T t → ⊥) (sym (back_too_many q h)) r.1.1.1.0, (subst (λ t. T t → ⊥) (sym (back_itself q h)) r.1.1.1.1.0, tt)),
        ),
      ),
    )
