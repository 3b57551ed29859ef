-- Weaving one text into the words makes the woven pattern of one text more, or passes a limit. Assumes nothing.
use Prim.Native.Nat.{ℕ, zero, suc, ◌+◌, ◌-◌, ◌/◌, ◌<◌, ◌≤◌}
use mathlib.Core.Path.{◌≡◌, refl, sym, ap, ap₂, subst, ◌∙◌}
use mathlib.Core.Logic.{inl, inr}
use mathlib.Core.List.{List, [], ◌∷◌, ◌++◌, map}
use mathlib.Core.Bool.{Bool, true, false, not}
use native.Mathlib.Omega.{arith}
use lib.ListN.{length, get_or, take, drop, length-append}
use lib.Seq.{length-take-le}
use lib.Dec.{T, eqb}
use Rattle.std.specs.Prelude.{Some}
use Rattle.model.specs.Bytes.{Bytes}
use Rattle.model.specs.Choice.{pick}
use Rattle.model.specs.Lists.{keep}
use Rattle.model.specs.Book.{Book}
use Rattle.model.specs.Pattern.{Edge, Clause, excluded, vertex_has, edge_has}
use Rattle.model.specs.Graph.{Each}
use Rattle.model.specs.Weave.{moved, moved_edge, moved_clause, is_excluded, woven_too_many, WovenVertex, WovenPattern, place_vertex, first_vertices, no_vertex}
use Rattle.model.specs.Answers.{edge_in, clause_in, pattern_in}
use Rattle.model.specs.declared.Condition.{Condition}
use Rattle.model.specs.declared.Condition.TheVariants.{Excluded, OfVertex, OfEdge}
use Rattle.model.specs.declared.Edge.{Edge as EdgeData}
use Rattle.model.specs.declared.Clause.{Clause as ClauseData}
use Rattle.model.specs.declared.Pattern.{Pattern as PatternData}
use Rattle.model.proofs.Places.{get_or_in, length_map}
use Rattle.book_tables.proofs.ListedLaws.{length_listed}
use Rattle.woven_tables.specs.declared.WovenCounts.{WovenCounts}
use Rattle.woven_tables.specs.declared.vertices.Numbers.{Numbers}
use Rattle.woven_tables.specs.Tables.{text_of, NameInside, vertices_at, edges_at, clauses_at, woven_at, woven_words}
use Rattle.weave.specs.OneMore.{under_names, more_vertices, one_more, ClauseWithin}
use Rattle.model.specs.PlainData.{no_edge, no_clause, ConditionFits, PatternFits, PartsWithin}
use Rattle.woven_tables.specs.Reading.{ClausesInside}
use Rattle.woven_tables.specs.Steps.{renumbered_edge, VerticesAdded, text_vertices}
use Rattle.woven_tables.specs.ClauseSteps.{renumbered_clause, named_clause, ExclusionsCounted}
use Rattle.weave.specs.Adding.{Kept, TextAdded, RestAdded}
use Rattle.weave.proofs.OneMore.{map_each}
use Rattle.weave.proofs.Ranges.{each_map}
use Rattle.weave.proofs.Limits.{exclusions, requirements, passed_is_too_many}
use Rattle.woven_tables.proofs.Kept.{keep_append}
use Rattle.woven_tables.proofs.VertexLaws.{length_vertices, vertices_same}
use Rattle.woven_tables.proofs.EdgeLaws.{edges_same}
use Rattle.woven_tables.proofs.ClauseTable.{clauses_same, inside_same}
use Rattle.woven_tables.proofs.ReturnLaws.{returns_same}
use Rattle.model.proofs.WovenVertices.{at_vertex, first_vertices_i}

-- what holds at each number holds of each element taken
pub each_take : {A : Type 0} (P : A → Type 0) (d : A) (xs : List A) (n : ℕ) → ((i : ℕ) → i < n → P (get_or xs i d)) → Each P (take n xs)
each_take P d xs zero f = tt
each_take P d [] (suc n) f = tt
each_take P d (x ∷ xs) (suc n) f = (f 0 (omega arith), each_take P d xs n (λ i h. f (suc i) (omega arith)))

-- a vertex of a text has a place among the woven vertices
place_in : (vs us : List WovenVertex) (i : ℕ) → i < length us → place_vertex (get_or us i no_vertex) (first_vertices vs us) < length (first_vertices vs us)
place_in vs us i h = (at_vertex (first_vertices vs us) (get_or us i no_vertex) (first_vertices_i vs us (get_or us i no_vertex) (get_or_in us i no_vertex h))).0

-- what a test keeps and what it does not
pub keep_both : {A : Type 0} (p : A → Bool) (xs : List A) → length (keep p xs) + length (keep (λ x. not (p x)) xs) ≡ length xs
unfolding keep
keep_both p [] = refl
keep_both p (x ∷ xs) = go (p x) (keep_both p xs)
  where
    go : (b : Bool) → length (keep p xs) + length (keep (λ x. not (p x)) xs) ≡ length xs
        → length (pick b (x ∷ keep p xs) (keep p xs)) + length (pick (not b) (x ∷ keep (λ x. not (p x)) xs) (keep (λ x. not (p x)) xs)) ≡ suc (length xs)
    go true e = omega arith
    go false e = omega arith

-- a function that keeps a test's answer keeps how many pass it
keep_map : {A : Type 0} (p : A → Bool) (f : A → A) (xs : List A) → ((x : A) → p (f x) ≡ p x) → length (keep p (map f xs)) ≡ length (keep p xs)
unfolding keep
keep_map p f [] e = refl
keep_map p f (x ∷ xs) e = ap (λ t. length (pick t (f x ∷ keep p (map f xs)) (keep p (map f xs)))) (e x) ∙ go (p x) (keep_map p f xs e)
  where
    go : (b : Bool) → length (keep p (map f xs)) ≡ length (keep p xs)
        → length (pick b (f x ∷ keep p (map f xs)) (keep p (map f xs))) ≡ length (pick b (x ∷ keep p xs) (keep p xs))
    go true h = ap suc h
    go false h = h

-- an exclusion stays one under other numbers
moved_excluded : (vs : List WovenVertex) (p : WovenPattern) (n : ℕ) (c : Clause) → is_excluded (moved_clause vs p n c) ≡ is_excluded c
unfolding moved_clause is_excluded
moved_excluded vs p n (excluded u v) = refl
moved_excluded vs p n (vertex_has v a r x) = refl
moved_excluded vs p n (edge_has e a r x) = refl

renumbered_excluded : (numbers : List ℕ) (n : ℕ) (c : Clause) → is_excluded (renumbered_clause numbers n c) ≡ is_excluded c
unfolding renumbered_clause is_excluded
renumbered_excluded numbers n (excluded u v) = refl
renumbered_excluded numbers n (vertex_has v a r x) = refl
renumbered_excluded numbers n (edge_has e a r x) = refl

pub length_edges : (b : Book) (q r : Bytes) (words : List ℕ) (n : ℕ) → length (edges_at b q r words n) ≡ n
unfolding edges_at
length_edges b q r words n = length_listed _ n

pub length_clauses : (b : Book) (q r : Bytes) (words : List ℕ) (n : ℕ) → length (clauses_at b q r words n) ≡ n
unfolding clauses_at
length_clauses b q r words n = length_listed _ n

-- a condition that fits names only what is there
condition_within : (b : Book) (text : Bytes) (base v e : ℕ) (x : Condition) → ConditionFits base v e x → ClauseWithin v e (clause_in b text x)
unfolding clause_in
condition_within b text base v e (Excluded u w) f = f
condition_within b text base v e (OfVertex w x) f = f.0
condition_within b text base v e (OfEdge w x) f = f.0

-- the text that the names of the kth text's pattern stand in
abbrev text_from : Bytes → Bytes → ℕ → ℕ → Bytes
text_from q r k base = drop base (text_of q r k)

-- what weaving makes of its vertices
abbrev vertices_of : Bytes → Bytes → List Bytes → ℕ → ℕ → PatternData → List WovenVertex
vertices_of q r actors k base p = text_vertices (text_from q r k base) k actors p.vertices p.counts.vertices

-- the woven pattern with the text
abbrev grown : Bytes → Bytes → List Bytes → ℕ → ℕ → PatternData → List ℕ → WovenCounts → Book → WovenPattern
grown q r actors k base p old c b = one_more k actors (pattern_in b (text_from q r k base) p) (woven_at b q r old c)

-- its vertices
abbrev vertices_then : Bytes → Bytes → List Bytes → ℕ → ℕ → PatternData → List ℕ → WovenCounts → Book → List WovenVertex
vertices_then q r actors k base p old c b = more_vertices k actors (pattern_in b (text_from q r k base) p) (vertices_at q r old c.vertices)

-- the text's own pattern, of woven vertices
abbrev under_own : Bytes → Bytes → List Bytes → ℕ → ℕ → PatternData → Book → WovenPattern
under_own q r actors k base p b = under_names k actors (pattern_in b (text_from q r k base) p)

-- an edge between vertices below n
abbrev EndsBelow : ℕ → Edge → Type 0
EndsBelow n e = (e.from < n) × (e.to < n)

module _ (q r : Bytes) (actors : List Bytes) (k base : ℕ) (p : PatternData) (old : List ℕ) (c : WovenCounts) where
  -- a limit that is passed, by what is counted
  pub passed_by_vertices : 24 < length (first_vertices (vertices_at q r old c.vertices) (vertices_of q r actors k base p)) → (b : Book)
      → T (woven_too_many (grown q r actors k base p old c b))
  unfolding one_more more_vertices under_names pattern_in woven_at
  passed_by_vertices h b = passed_is_too_many (grown q r actors k base p old c b) (inl (inl (inl h)))

  pub passed_by_edges : length p.edges ≡ 16 → p.counts.edges ≤ 16 → 48 < c.edges + p.counts.edges → (b : Book)
      → T (woven_too_many (grown q r actors k base p old c b))
  unfolding one_more pattern_in woven_at
  passed_by_edges whole few h b =
      let own = under_own q r actors k base p b in
      let vs = vertices_then q r actors k base p old c b in
      let es = map (edge_in b (text_from q r k base)) (take p.counts.edges p.edges) in
      passed_is_too_many (grown q r actors k base p old c b) (inl (inl (inr (omega (
        arith,
        length-append (edges_at b q r old c.edges) (map (moved_edge vs own) es),
        length_edges b q r old c.edges,
        length_map (moved_edge vs own) es,
        length_map (edge_in b (text_from q r k base)) (take p.counts.edges p.edges),
        length-take-le p.counts.edges p.edges (omega arith),
      )))))

  -- the exclusions of the woven pattern with the text
  exclusions_then : (b : Book) (n : ℕ) → ExclusionsCounted p.clauses p.counts.clauses n → Kept q r old c
      → length (exclusions (grown q r actors k base p old c b).clauses) ≡ c.exclusions + n
  unfolding one_more pattern_in woven_at
  exclusions_then b n counted kept =
      let own = under_own q r actors k base p b in
      let vs = vertices_then q r actors k base p old c b in
      let f = moved_clause vs own (length (edges_at b q r old c.edges)) in
      let cs = map (named_clause b (text_from q r k base)) (take p.counts.clauses p.clauses) in
      let before = clauses_at b q r old (c.exclusions + c.requirements) in
      ap length (keep_append is_excluded before (map f cs)) ∙ length-append (exclusions before) (exclusions (map f cs))
      ∙ ap₂ (λ x y. x + y) (kept.counted b) (keep_map is_excluded f cs (moved_excluded vs own (length (edges_at b q r old c.edges)))
      ∙ counted.exactly b (text_from q r k base))

  clauses_count : (b : Book) → length (take p.counts.clauses p.clauses) ≡ p.counts.clauses
      → length (grown q r actors k base p old c b).clauses ≡ c.exclusions + c.requirements + p.counts.clauses
  unfolding one_more pattern_in woven_at
  clauses_count b whole =
      let own = under_own q r actors k base p b in
      let vs = vertices_then q r actors k base p old c b in
      let f = moved_clause vs own (length (edges_at b q r old c.edges)) in
      let cs = map (named_clause b (text_from q r k base)) (take p.counts.clauses p.clauses) in
      let before = clauses_at b q r old (c.exclusions + c.requirements) in
      omega (
        arith,
        length-append before (map f cs),
        length_clauses b q r old (c.exclusions + c.requirements),
        length_map f cs,
        length_map
            (named_clause b (text_from q r k base)) (take p.counts.clauses p.clauses),
      )

  module _ (n : ℕ) (counted : ExclusionsCounted p.clauses p.counts.clauses n) (kept : Kept q r old c) where
    pub passed_by_exclusions : 48 < c.exclusions + n → (b : Book) → T (woven_too_many (grown q r actors k base p old c b))
    passed_by_exclusions h b = passed_is_too_many (grown q r actors k base p old c b) (inl (inr (omega (arith, exclusions_then b n counted kept))))

    pub passed_by_requirements : 48 < c.requirements + (p.counts.clauses - n) → (b : Book) → T (woven_too_many (grown q r actors k base p old c b))
    passed_by_requirements h b =
        let cs = (grown q r actors k base p old c b).clauses in
        passed_is_too_many (grown q r actors k base p old c b)
        (inr (omega (arith, exclusions_then b n counted kept, clauses_count b counted.all, keep_both is_excluded cs, counted.some)))

-- the text's vertices are woven
module _ (q r : Bytes) (actors : List Bytes) (k base : ℕ) (p : PatternData) (old one : List ℕ) (c : WovenCounts) (numbered : Numbers)
    (fits : PatternFits base p) (few : numbered.count ≤ 24)
    (added : VerticesAdded q r (vertices_of q r actors k base p) p.counts.vertices old one c.vertices numbered) where
  -- the numbers that were found are the woven ones
  number_is : (b : Book) (i : ℕ) → i < p.counts.vertices
      → get_or numbered.numbers i 0 ≡ moved (vertices_then q r actors k base p old c b) (under_own q r actors k base p b) i
  unfolding moved more_vertices under_names pattern_in
  number_is b i h = added.numbers few i (omega (arith, added.all))

  pub number_low : (i : ℕ) → i < p.counts.vertices → get_or numbered.numbers i 0 < 24
  number_low i h =
      let vs = vertices_at q r old c.vertices in
      let us = vertices_of q r actors k base p in
      let below = place_in vs us i (omega (arith, added.all)) in
      omega (arith, added.numbers few i (omega (arith, added.all)), ap length (added.vertices few), length_vertices q r one numbered.count)

  edges_moved : (b : Book) → let es = map (edge_in b (text_from q r k base)) (take p.counts.edges p.edges) in
      map (renumbered_edge numbered.numbers) es ≡ map (moved_edge (vertices_then q r actors k base p old c b) (under_own q r actors k base p b)) es
  unfolding renumbered_edge moved_edge edge_in
  edges_moved b = map_each (EndsBelow p.counts.vertices) (renumbered_edge numbered.numbers)
      (moved_edge (vertices_then q r actors k base p old c b) (under_own q r actors k base p b))
      (map (edge_in b (text_from q r k base)) (take p.counts.edges p.edges))
      (each_map (λ (e : EdgeData). (e.from < p.counts.vertices) × (e.to < p.counts.vertices)) (EndsBelow p.counts.vertices)
      (edge_in b (text_from q r k base)) (take p.counts.edges p.edges) (λ e h. h)
      (each_take (λ (e : EdgeData). (e.from < p.counts.vertices) × (e.to < p.counts.vertices)) no_edge p.edges p.counts.edges
      (λ i h. ((fits.edges i h).from, (fits.edges i h).to))))
      (λ (e : Edge) h. λ i. record { name = e.name; label = e.label; from = number_is b e.from h.0 i; to = number_is b e.to h.1 i })

  clauses_moved : (b : Book) (n : ℕ) → let cs = map (named_clause b (text_from q r k base)) (take p.counts.clauses p.clauses) in
      map (renumbered_clause numbered.numbers n) cs ≡ map (moved_clause (vertices_then q r actors k base p old c b) (under_own q r actors k base p b) n) cs
  unfolding renumbered_clause moved_clause
  clauses_moved b n = map_each (ClauseWithin p.counts.vertices p.counts.edges) (renumbered_clause numbered.numbers n)
      (moved_clause (vertices_then q r actors k base p old c b) (under_own q r actors k base p b) n)
      (map (named_clause b (text_from q r k base)) (take p.counts.clauses p.clauses))
      (each_map (λ (x : ClauseData). ConditionFits base p.counts.vertices p.counts.edges x.condition)
      (ClauseWithin p.counts.vertices p.counts.edges) (named_clause b (text_from q r k base)) (take p.counts.clauses p.clauses)
      (λ x h. condition_within b (text_from q r k base) base p.counts.vertices p.counts.edges x.condition h)
      (each_take (λ (x : ClauseData). ConditionFits base p.counts.vertices p.counts.edges x.condition) no_clause p.clauses
      p.counts.clauses fits.clauses))
      each_one
    where
      each_one : (x : Clause) → ClauseWithin p.counts.vertices p.counts.edges x
          → renumbered_clause numbered.numbers n x ≡ moved_clause (vertices_then q r actors k base p old c b) (under_own q r actors k base p b) n x
      each_one (excluded u v) h = ap₂ excluded (number_is b u h.0) (number_is b v h.1)
      each_one (vertex_has v a s x) h = ap (λ z. vertex_has z a s x) (number_is b v h)
      each_one (edge_has e a s x) h = refl

  returns_moved : (b : Book) → map (λ v. get_or numbered.numbers v 0) (take p.counts.returns p.returns)
      ≡ map (moved (vertices_then q r actors k base p old c b) (under_own q r actors k base p b)) (take p.counts.returns p.returns)
  returns_moved b = map_each (λ v. v < p.counts.vertices) (λ v. get_or numbered.numbers v 0)
      (moved (vertices_then q r actors k base p old c b) (under_own q r actors k base p b)) (take p.counts.returns p.returns)
      (each_take (λ v. v < p.counts.vertices) 0 p.returns p.counts.returns fits.returns) (number_is b)

  -- and so are its edges, clauses and Return vertices
  module _ (new : List ℕ) (out n : ℕ) (rest : RestAdded k base p numbered.numbers one new c out)
      (counted : ExclusionsCounted p.clauses p.counts.clauses n) (kept : Kept q r old c) where
    sums : c.exclusions + n + (c.requirements + (p.counts.clauses - n)) ≡ c.exclusions + c.requirements + p.counts.clauses
    sums = omega (arith, counted.some)

    clauses_all : (b : Book) → clauses_at b q r new (c.exclusions + n + (c.requirements + (p.counts.clauses - n)))
        ≡ clauses_at b q r old (c.exclusions + c.requirements)
        ++ map (renumbered_clause numbered.numbers c.edges) (map (named_clause b (text_from q r k base)) (take p.counts.clauses p.clauses))
    clauses_all b =
        ap (clauses_at b q r new) sums ∙ rest.clauses_are b q r
        ∙ ap (λ z. z ++ map (renumbered_clause numbered.numbers c.edges)
        (map (named_clause b (text_from q r k base)) (take p.counts.clauses p.clauses)))
        (clauses_same b q r old one (c.exclusions + c.requirements) (λ i l u. added.kept i (inr (omega arith))))

    exclusions_counted : (b : Book) → length (keep is_excluded (clauses_at b q r new (c.exclusions + n + (c.requirements + (p.counts.clauses - n)))))
        ≡ c.exclusions + n
    exclusions_counted b =
        let f = renumbered_clause numbered.numbers c.edges in
        let cs = map (named_clause b (text_from q r k base)) (take p.counts.clauses p.clauses) in
        let before = clauses_at b q r old (c.exclusions + c.requirements) in
        ap (λ z. length (keep is_excluded z)) (clauses_all b) ∙ ap length (keep_append is_excluded before (map f cs))
        ∙ length-append (exclusions before) (exclusions (map f cs))
        ∙ ap₂ (λ x y. x + y) (kept.counted b) (keep_map is_excluded f cs (renumbered_excluded numbered.numbers c.edges)
        ∙ counted.exactly b (text_from q r k base))

    pub text_woven : (size : ℕ) → base + size ≤ length (text_of q r k) → PartsWithin size p → woven_words ≤ length new
        → c.edges + p.counts.edges ≤ 48 → c.exclusions + n ≤ 48 → c.requirements + (p.counts.clauses - n) ≤ 48
        → TextAdded q r actors k base p old new c
        (Some (record {
          vertices = numbered.count;
          edges = c.edges + p.counts.edges;
          exclusions = c.exclusions
              + n;
          requirements = c.requirements + (p.counts.clauses - n);
          returns = out;
        }))
    unfolding one_more more_vertices under_names pattern_in woven_at
    text_woven size stands parts room few_edges few-exclusions few-requirements = (
      record {
        room = room;
        vertices = few;
        edges = few_edges;
        exclusions = few-exclusions;
        requirements = few-requirements;
        returns = rest.few_returns;
        counted = exclusions_counted;
        names = λ i l. subst (λ w. NameInside q r (w / 2)) (sym (rest.vertices_kept i (omega arith))) (added.inside few i l);
        values = subst (ClausesInside q r new) (sym sums) (rest.inside q r size stands parts
            (inside_same q r old one (c.exclusions + c.requirements) (λ i l u. added.kept i (inr (omega arith))) kept.values));
      },
      λ b.
          let vertices = vertices_same q r one new numbered.count (λ i h. rest.vertices_kept i (omega arith)) ∙ added.vertices few in
          let edges = rest.edges_are b q r ∙ ap₂ (λ x y. x ++ y)
          (edges_same b q r old one c.edges kept.edges (λ i l u. added.kept i (inr (omega arith))) (λ i l u. added.kept i (inr (omega arith))))
          (edges_moved b) in
          let clauses = clauses_all b ∙ ap (λ z. clauses_at b q r old (c.exclusions + c.requirements) ++ z)
          (ap (λ m. map (renumbered_clause numbered.numbers m) (map (named_clause b (text_from q r k base)) (take p.counts.clauses p.clauses)))
          (sym (length_edges b q r old c.edges)) ∙ clauses_moved b (length (edges_at b q r old c.edges))) in
          let returns = rest.returns_are ∙ ap₂ (pick (eqb k 0)) (returns_moved b)
          (returns_same old one c.returns (λ i l u. added.kept i (inr (omega arith)))) in
          λ i. record { vertices = vertices i; edges = edges i; clauses = clauses i; returns = returns i },
    )
