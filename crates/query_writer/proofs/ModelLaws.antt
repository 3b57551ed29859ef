-- The pieces are the text that the model gives for the pattern by names. Assumes nothing.
use Prim.Native.Nat.{ℕ, zero, suc, ◌≤◌, ◌<◌, min}
use mathlib.Core.Path.{◌≡◌, refl, sym, ap, ◌∙◌}
use mathlib.Core.List.{List, [], ◌∷◌, ◌++◌, map, map-map, append_assoc}
use native.Mathlib.Omega.{arith}
use lib.ListN.{length, take, get_or, length-map, length-take, get_or-map}
use lib.Seq.{get_or-take}
use Rattle.logic.specs.Tests.{either, equal_or_not}
use Rattle.model.specs.Bytes.{Bytes, bytes_of}
use Rattle.model.specs.Choice.{pick}
use Rattle.model.specs.Lists.{is_nil}
use Rattle.model.specs.Book.{Book, attr_names}
use Rattle.model.specs.Answers.{part_of, name_at, edge_in, clause_in, pattern_in}
use Rattle.model.specs.Writing.{each_behind, join_by, vertex_name, edge_name, clause_text, edge_text, written_query}
use Rattle.model.specs.declared.Edge.{Edge}
use Rattle.model.specs.declared.Condition.{Condition}
use Rattle.model.specs.declared.Condition.TheVariants.{Excluded, OfVertex, OfEdge}
use Rattle.model.specs.declared.Clause.{Clause as ClauseData}
use Rattle.model.specs.declared.Pattern.{Pattern}
use Rattle.book_tables.specs.declared.BookCounts.{BookCounts}
use Rattle.book_tables.specs.Layout.{vattr_names, eattr_names, label_names}
use Rattle.book_tables.specs.View.{name_of, names_at, attrs_at, book_at}
use Rattle.book_tables.proofs.ListedLaws.{get_or_listed}
use Rattle.book_tables.proofs.NameLaws.{attr_names_law}
use Rattle.model.specs.PlainData.{no_part, no_edge, no_clause}
use Rattle.putting.specs.Listing.{listing}
use Rattle.query_writer.specs.Pieces.{vertex_at, edge_at, vertex_piece, edge_piece, requirement_piece, condition_piece, vertices_text, edges_text}
use Rattle.query_writer.specs.Pieces.{conditions_text, returns_text, pattern_text}
use Rattle.query_writer.specs.Writable.{EdgeFits, ConditionFits, PatternFits, count_limits, Writable}

-- Names by number: of a vertex, of an edge, of a label, of attributes.
vertex_named : (b : Book) (q : Bytes) (p : Pattern) (v : ℕ) → v < p.counts.vertices → vertex_name (pattern_in b q p) v ≡ vertex_at q p.vertices v
unfolding vertex_name pattern_in vertex_at name_at part_of
vertex_named b q p v h =
    get_or-map (name_at q) (take p.counts.vertices p.vertices) v no_part ∙ ap (name_at q) (get_or-take p.counts.vertices p.vertices v no_part h)

edge_named_law : (b : Book) (q : Bytes) (p : Pattern) (e : ℕ) → e < p.counts.edges → edge_name (pattern_in b q p) e ≡ edge_at q p.edges e
unfolding edge_name pattern_in edge_at edge_in name_at part_of
edge_named_law b q p e h =
    ap (λ l. get_or l e []) (map-map (λ x. x.name) (edge_in b q) (take p.counts.edges p.edges))
    ∙ get_or-map (λ (x : Edge). name_at q x.name) (take p.counts.edges p.edges) e no_edge
    ∙ ap (λ (x : Edge). name_at q x.name) (get_or-take p.counts.edges p.edges e no_edge h)

module _ (book : Bytes) (words : List ℕ) (c : BookCounts) where
  label_named : (l : ℕ) → l < c.labels → get_or (book_at book words c).labels l [] ≡ name_of book words label_names l
  unfolding book_at names_at
  label_named l h = get_or_listed (name_of book words label_names) c.labels l [] h

  attr_named : (offset n a : ℕ) → a < n → get_or (attr_names (attrs_at book words offset n)) a [] ≡ name_of book words offset a
  unfolding names_at
  attr_named offset n a h = ap (λ l. get_or l a []) (attr_names_law book words offset n) ∙ get_or_listed (name_of book words offset) n a [] h

  vattr_named : (a : ℕ) → a < c.vattrs → get_or (attr_names (book_at book words c).vattrs) a [] ≡ name_of book words vattr_names a
  unfolding book_at
  vattr_named a h = attr_named vattr_names c.vattrs a h

  eattr_named : (a : ℕ) → a < c.eattrs → get_or (attr_names (book_at book words c).eattrs) a [] ≡ name_of book words eattr_names a
  unfolding book_at
  eattr_named a h = attr_named eattr_names c.eattrs a h

module _ (book : Bytes) (words : List ℕ) (c : BookCounts) (q : Bytes) (p : Pattern) where
  -- An edge, a condition as they are written.
  edge_same : (e : Edge) → EdgeFits (count_limits c p) e
      → edge_piece book words q p.vertices e ≡ edge_text (pattern_in (book_at book words c) q p) (edge_in (book_at book words c) q e)
  unfolding edge_piece edge_text edge_in
  edge_same e f =
      let from = vertex_named (book_at book words c) q p e.from f.from in
      let to = vertex_named (book_at book words c) q p e.to f.to in
      let label = label_named book words c e.label f.label in
      cc

  condition_same : (x : Condition) → ConditionFits (count_limits c p) x
      → condition_piece book words q p.vertices p.edges x ≡ clause_text (pattern_in (book_at book words c) q p) (clause_in (book_at book words c) q x)
  unfolding condition_piece clause_text clause_in requirement_piece
  condition_same (Excluded u v) f =
      let first = vertex_named (book_at book words c) q p u f.0 in
      let second = vertex_named (book_at book words c) q p v f.1 in
      cc
  condition_same (OfVertex v r) f =
      let owner = vertex_named (book_at book words c) q p v f.0 in
      let attribute = vattr_named book words c r.attribute f.1 in
      cc
  condition_same (OfEdge e r) f =
      let owner = edge_named_law (book_at book words c) q p e f.0 in
      let attribute = eattr_named book words c r.attribute f.1 in
      cc

-- Texts that are the same element by element.
map_same : {A : Type 0} (f g : A → Bytes) (xs : List A) (d : A) (n : ℕ) → ((i : ℕ) → i < n → f (get_or xs i d) ≡ g (get_or xs i d))
    → map f (take n xs) ≡ map g (take n xs)
map_same f g xs d zero h = refl
map_same f g [] d (suc n) h = refl
map_same f g (x ∷ xs) d (suc n) h =
    let e : f x ≡ g x = h 0 (omega arith) in
    let r : map f (take n xs) ≡ map g (take n xs) = map_same f g xs d n (λ i l. h (suc i) (omega arith)) in
    cc

-- Joined texts as a listing.
join_listing : (sep : Bytes) (ts : List Bytes) → listing [] sep ts ≡ join_by sep ts
unfolding listing join_by
join_listing sep [] = refl
join_listing sep (t ∷ ts) = refl

each_listing : (sep : Bytes) (ts : List Bytes) → listing sep sep ts ≡ each_behind sep ts
unfolding listing each_behind
each_listing sep [] = refl
each_listing sep (t ∷ ts) = refl

each_apart : (sep : Bytes) (ts us : List Bytes) → each_behind sep (ts ++ us) ≡ each_behind sep ts ++ each_behind sep us
unfolding each_behind
each_apart sep [] us = refl
each_apart sep (t ∷ ts) us = rw (each_apart sep ts us) (simp append_assoc)

join_apart : (sep : Bytes) (ts us : List Bytes) → (length ts ≡ 0 → us ≡ []) → listing [] sep ts ++ listing sep sep us ≡ join_by sep (ts ++ us)
unfolding listing join_by
join_apart sep [] us h = rw (h refl)
join_apart sep (t ∷ ts) us h = rw (each_listing sep us, each_apart sep ts us) (simp append_assoc)

where_listing : {A : Type 0} (first next : Bytes) (f : A → Bytes) (xs : List A)
    → listing first next (map f xs) ≡ pick (is_nil xs) [] (first ++ join_by next (map f xs))
unfolding listing join_by is_nil
where_listing first next f [] = refl
where_listing first next f (x ∷ xs) = simp append_assoc

-- A pattern with no vertices has no edges.
no_edges_law : (c : BookCounts) (p : Pattern) → PatternFits (count_limits c p) p → p.counts.vertices ≡ 0 → p.counts.edges ≡ 0
no_edges_law c p f none =
    either (equal_or_not p.counts.edges 0) (λ e. e)
    (λ e. let from = (f.edges.each 0 (omega (arith, e.1))).from in absurd (omega arith))

module _ (book : Bytes) (words : List ℕ) (c : BookCounts) (q : Bytes) (p : Pattern) (w : Writable book words c q p) (all : length p.vertices ≡ 8) where
  -- The Matches, the conditions and the Return names as they are written.
  edges_same : map (edge_piece book words q p.vertices) (take p.counts.edges p.edges)
      ≡ map (edge_text (pattern_in (book_at book words c) q p)) (map (edge_in (book_at book words c) q) (take p.counts.edges p.edges))
  edges_same =
      map_same (edge_piece book words q p.vertices) (λ (e : Edge). edge_text (pattern_in (book_at book words c) q p) (edge_in (book_at book words c) q e))
      p.edges no_edge p.counts.edges
      (λ i h. edge_same book words c q p (get_or p.edges i no_edge) (w.pattern.edges.each i h))
      ∙ sym (map-map (edge_text (pattern_in (book_at book words c) q p)) (edge_in (book_at book words c) q) (take p.counts.edges p.edges))

  matches_same : vertices_text q p.vertices p.counts.vertices ++ edges_text book words q p.vertices p.edges p.counts.edges
      ≡ join_by (bytes_of " ") (map (λ v. bytes_of "Match (" ++ v ++ bytes_of ")") (pattern_in (book_at book words c) q p).vertices
      ++ map (edge_text (pattern_in (book_at book words c) q p)) (pattern_in (book_at book words c) q p).edges)
  unfolding vertices_text edges_text vertex_piece pattern_in
  matches_same =
      let vs = take p.counts.vertices p.vertices in
      let es = take p.counts.edges p.edges in
      let one : map (vertex_piece q) vs ≡ map (λ v. bytes_of "Match (" ++ v ++ bytes_of ")") (map (name_at q) vs) = sym
      (map-map (λ v. bytes_of "Match (" ++ v ++ bytes_of ")") (name_at q) vs) in
      let none : length (map (vertex_piece q) vs) ≡ 0 → map (edge_piece book words q p.vertices) es ≡ [] = λ h.
      let n : length vs ≡ min p.counts.vertices 8 = length-take p.counts.vertices p.vertices ∙ ap (min p.counts.vertices) all in
      let few : p.counts.vertices ≤ 8 = w.pattern.vertices in
      let z : p.counts.vertices ≡ 0 = omega (arith, length-map vs (vertex_piece q)) in
      ap (λ (k : ℕ). map (edge_piece book words q p.vertices) (take k p.edges)) (no_edges_law c p w.pattern z) in
      join_apart (bytes_of " ") (map (vertex_piece q) vs) (map (edge_piece book words q p.vertices) es) none
      ∙ ap (λ (ts : List Bytes). join_by (bytes_of " ") (ts ++ map (edge_piece book words q p.vertices) es)) one
      ∙ ap (λ (ts : List Bytes). join_by (bytes_of " ") (map (λ v. bytes_of "Match (" ++ v ++ bytes_of ")") (map (name_at q) vs) ++ ts)) edges_same

  clauses_named : map (λ (x : ClauseData). clause_text (pattern_in (book_at book words c) q p) (clause_in (book_at book words c) q x.condition))
      (take p.counts.clauses p.clauses)
      ≡ map (clause_text (pattern_in (book_at book words c) q p)) (pattern_in (book_at book words c) q p).clauses
  unfolding pattern_in
  clauses_named =
      sym (map-map (clause_text (pattern_in (book_at book words c) q p)) (λ (x : ClauseData). clause_in (book_at book words c) q x.condition)
      (take p.counts.clauses p.clauses))

  conditions_same : conditions_text book words q p.vertices p.edges p.clauses p.counts.clauses
      ≡ pick (is_nil (pattern_in (book_at book words c) q p).clauses) []
      (bytes_of " Where " ++ join_by (bytes_of " AND ") (map (clause_text (pattern_in (book_at book words c) q p)) (pattern_in (book_at book words c) q p).clauses))
  unfolding conditions_text
  conditions_same =
      ap (listing (bytes_of " Where ") (bytes_of " AND "))
      (map_same (λ (x : ClauseData). condition_piece book words q p.vertices p.edges x.condition)
      (λ (x : ClauseData). clause_text (pattern_in (book_at book words c) q p) (clause_in (book_at book words c) q x.condition)) p.clauses no_clause
      p.counts.clauses
      (λ i h. condition_same book words c q p (get_or p.clauses i no_clause).condition (w.pattern.clauses.each i h))
      ∙ clauses_named)
      ∙ where_listing (bytes_of " Where ") (bytes_of " AND ") (clause_text (pattern_in (book_at book words c) q p)) (pattern_in (book_at book words c) q p).clauses

  returns_same : returns_text q p.vertices p.returns p.counts.returns
      ≡ join_by (bytes_of ", ") (map (vertex_name (pattern_in (book_at book words c) q p)) (pattern_in (book_at book words c) q p).returns)
  unfolding returns_text pattern_in
  returns_same =
      ap (listing [] (bytes_of ", "))
      (map_same (vertex_at q p.vertices) (vertex_name (pattern_in (book_at book words c) q p)) p.returns 0 p.counts.returns
      (λ i h. sym (vertex_named (book_at book words c) q p (get_or p.returns i 0) (w.pattern.returns.each i h))))
      ∙ join_listing (bytes_of ", ") (map (vertex_name (pattern_in (book_at book words c) q p)) (take p.counts.returns p.returns))

  -- The whole text is the model's.
  pub pattern_written : pattern_text book words q p ≡ written_query (pattern_in (book_at book words c) q p)
  unfolding pattern_text written_query
  pattern_written = let m = matches_same in let x = conditions_same in let r = returns_same in cc
