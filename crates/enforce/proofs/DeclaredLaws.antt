-- Labels and attributes in the woven words are declared: that holds of each text's pattern, weaving keeps it, and it bounds the numbers. Assumes nothing.
use Prim.Native.Nat.{ℕ, ◌+◌, ◌/◌, ◌%◌, ◌<◌}
use mathlib.Core.Path.{◌≡◌, sym, ap, subst, ◌∙◌}
use mathlib.Core.Logic.{◌≢◌}
use mathlib.Core.List.{List, []}
use native.Mathlib.Omega.{arith}
use lib.ListN.{length, get_or, take, drop, get_or-eq_default}
use borrow.Author.Tests.{eq-eqb, ne_eqb}
use Rattle.std.specs.Prelude.{Some}
use Rattle.logic.specs.Tests.{either, below_or_not}
use Rattle.model.specs.Bytes.{Bytes}
use Rattle.model.specs.Lists.{joined, firsts_by}
use Rattle.model.specs.Book.{Attr, attr_names}
use Rattle.model.specs.Pattern.{Pattern, Edge, Clause, excluded, vertex_has, edge_has}
use Rattle.model.specs.Weave.{WovenVertex, WovenPattern, moved_edge, moved_clause, named, moved_clauses, returns_of, weave}
use Rattle.model.specs.Answers.{edge_in, clause_in, pattern_in}
use Rattle.model.specs.declared.Condition.{Condition}
use Rattle.model.specs.declared.Condition.TheVariants.{Excluded, OfVertex, OfEdge}
use Rattle.model.specs.declared.Edge.{Edge as EdgeData}
use Rattle.model.specs.declared.Clause.{Clause as ClauseData}
use Rattle.model.specs.declared.Pattern.{Pattern as PatternData}
use Rattle.model.proofs.Members.{each_e}
use Rattle.model.proofs.Places.{get_or_in}
use Rattle.book_tables.specs.Listed.{listed}
use Rattle.book_tables.specs.declared.BookCounts.{BookCounts}
use Rattle.book_tables.proofs.ListedLaws.{length_listed, get_or_listed, map_listed}
use Rattle.model.specs.PlainData.{no_edge, no_clause}
use Rattle.query_writer.specs.Writable.{ConditionFits, count_limits, PatternFits}
use Rattle.woven_tables.specs.declared.WovenCounts.{WovenCounts}
use Rattle.woven_tables.specs.Tables.{text_of, edge_at, clause_at, edges_at, clauses_at, woven_at}
use Rattle.weave.specs.OneMore.{under_names, more_vertices, one_more}
use Rattle.weave.specs.Adding.{no_counts, TextAdded}
use Rattle.weave.proofs.OneText.{each_take, length_edges, length_clauses}
use Rattle.weave.proofs.Ranges.{each_map, each_append}
use Rattle.weave.proofs.Whole.{none_woven}
use Rattle.woven_tables.specs.Reading.{what_of, high_of, low_of}
use Rattle.weave.specs.Given.{edge_word, clause_count, AttributeDeclared}
use Rattle.enforce.specs.OneNamed.{a_name, some_attrs, one_named, NamesOne, AllNamed, Declared}

-- the one name stands at the numbers counted, and at no other
name_at_law : (n i : ℕ) → i < n → get_or (listed (λ j. a_name) n) i [] ≡ a_name
name_at_law n i h = get_or_listed (λ j. a_name) n i [] h

only_below : (n i : ℕ) → get_or (listed (λ j. a_name) n) i [] ≡ a_name → i < n
only_below n i e = either (below_or_not i n) (λ h. h)
    (λ h. let none : get_or (listed (λ j. a_name) n) i [] ≡ [] = get_or-eq_default (listed (λ j. a_name) n) [] (rw (length_listed (λ j. a_name) n) h) in
    let z : ◌≡◌ {A = ℕ} 0 1 = ap length (sym none ∙ e) in absurd (omega arith))

attr_names_law : (n : ℕ) → attr_names (some_attrs n) ≡ listed (λ j. a_name) n
unfolding attr_names
attr_names_law n = map_listed (λ (d : Attr). d.name) _ n

attr_at : (n i : ℕ) → i < n → get_or (attr_names (some_attrs n)) i [] ≡ a_name
attr_at n i h = ap (λ z. get_or z i []) (attr_names_law n) ∙ name_at_law n i h

attr_below : (n i : ℕ) → get_or (attr_names (some_attrs n)) i [] ≡ a_name → i < n
attr_below n i e = only_below n i (ap (λ z. get_or z i []) (sym (attr_names_law n)) ∙ e)

-- a text's pattern names what is declared
module _ (k : BookCounts) (text : Bytes) (p : PatternData) (fits : PatternFits (count_limits k p) p) where
  condition_named : (x : Condition) → ConditionFits (count_limits k p) x → NamesOne (clause_in (one_named k) text x)
  unfolding clause_in one_named
  condition_named (Excluded u v) h = tt
  condition_named (OfVertex v x) h = attr_at k.vattrs x.attribute h.1
  condition_named (OfEdge e x) h = attr_at k.eattrs x.attribute h.1

  pub pattern_named : AllNamed (pattern_in (one_named k) text p)
  unfolding pattern_in edge_in one_named
  pattern_named = record {
    edges = each_map (λ (e : EdgeData). e.label < k.labels) (λ (e : Edge). e.label ≡ a_name) (edge_in (one_named k) text)
        (take p.counts.edges p.edges) (λ e h. name_at_law k.labels e.label h)
        (each_take (λ (e : EdgeData). e.label < k.labels) no_edge p.edges p.counts.edges (λ i h. (fits.edges.each i h).label));
    clauses = each_map (λ (x : ClauseData). ConditionFits (count_limits k p) x.condition) NamesOne
        (λ (x : ClauseData). clause_in (one_named k) text x.condition) (take p.counts.clauses p.clauses) (λ x h. condition_named x.condition h)
        (each_take (λ (x : ClauseData). ConditionFits (count_limits k p) x.condition) no_clause p.clauses p.counts.clauses
        (λ i h. fits.clauses.each i h));
  }

-- one text more keeps names declared
one_more_named : (j : ℕ) (actors : List Bytes) (p : Pattern) (woven : WovenPattern) → AllNamed p → AllNamed woven → AllNamed (one_more j actors p woven)
unfolding one_more more_vertices under_names moved_edge
one_more_named j actors p woven own before = record {
  edges = each_append (λ (e : Edge). e.label ≡ a_name) woven.edges _ before.edges
      (each_map (λ (e : Edge). e.label ≡ a_name) (λ (e : Edge). e.label ≡ a_name) _ p.edges (λ e h. h) own.edges);
  clauses = each_append NamesOne woven.clauses _ before.clauses (each_map NamesOne NamesOne _ p.clauses (moved_named _ _ _) own.clauses);
}
  where
    moved_named : (vs : List WovenVertex) (q : WovenPattern) (n : ℕ) (c : Clause) → NamesOne c → NamesOne (moved_clause vs q n c)
    moved_named vs q n (excluded u v) h = unfold moved_clause in tt
    moved_named vs q n (vertex_has v a r x) h = unfold moved_clause in h
    moved_named vs q n (edge_has e a r x) h = unfold moved_clause in h

-- before the first text, and with one text more
pub none_declared : (k : BookCounts) (q r : Bytes) (words : List ℕ) → Declared k q r words no_counts
unfolding weave named joined firsts_by moved_clauses returns_of
none_declared k q r words = subst AllNamed (sym (none_woven (one_named k) q r words)) none
  where
    none : AllNamed (weave [])
    none = record { edges = tt; clauses = tt }

pub text_declared : (k : BookCounts) (q r : Bytes) (actors : List Bytes) (j base : ℕ) (p : PatternData) (old new : List ℕ) (c n : WovenCounts)
    → PatternFits (count_limits k p) p → Declared k q r old c → TextAdded q r actors j base p old new c (Some n) → Declared k q r new n
text_declared k q r actors j base p old new c n fits before added =
    subst AllNamed (sym (added.1 (one_named k)))
    (one_more_named j actors (pattern_in (one_named k) (drop base (text_of q r j)) p) (woven_at (one_named k) q r old c)
    (pattern_named k (drop base (text_of q r j)) p fits) before)

-- so the numbers in the words are below what the book declares
module _ (k : BookCounts) (q r : Bytes) (woven : List ℕ) (c : WovenCounts) (declared : Declared k q r woven c) where
  pub labels_below : (e : ℕ) → e < c.edges → edge_word woven e / 65536 < k.labels
  unfolding woven_at edges_at edge_at one_named
  labels_below e h =
      let none : Edge = record { name = []; label = []; from = 0; to = 0 } in
      let es = edges_at (one_named k) q r woven c.edges in
      let here = each_e (λ (x : Edge). x.label ≡ a_name) es declared.edges (get_or es e none)
      (get_or_in es e none (omega (arith, length_edges (one_named k) q r woven c.edges))) in
      let is = get_or_listed (λ i. edge_at (one_named k) q r (get_or woven (24 + i) 0) (get_or woven (72 + i) 0)) c.edges e none h in
      only_below k.labels (edge_word woven e / 65536) (sym (ap (λ (x : Edge). x.label) is) ∙ here)

  clause_named : (i : ℕ) → i < clause_count c → NamesOne (clause_at (one_named k) q r (what_of woven i) (high_of woven i) (low_of woven i))
  unfolding woven_at clauses_at
  clause_named i h =
      let cs = clauses_at (one_named k) q r woven (clause_count c) in
      let here = each_e NamesOne cs declared.clauses (get_or cs i (excluded 0 0))
      (get_or_in cs i (excluded 0 0) (omega (arith, length_clauses (one_named k) q r woven (clause_count c)))) in
      subst NamesOne (get_or_listed (λ i. clause_at (one_named k) q r (what_of woven i) (high_of woven i) (low_of woven i)) (clause_count c) i (excluded 0 0) h) here

  pub attributes_below : (i : ℕ) → i < clause_count c → AttributeDeclared k (what_of woven i)
  unfolding clause_at one_named
  attributes_below i h =
      let w = what_of woven i in
      let here = clause_named i h in
      record {
        of_vertex = λ e. let z : w % 4 ≢ 0 = λ y. omega arith in attr_below k.vattrs (w / 128 % 32) (rw (ne_eqb (w % 4) 0 z, eq-eqb (w % 4) 1 e) at here);
        of_edge = λ e. let z : w % 4 ≢ 0 = λ y. omega arith in let y : w % 4 ≢ 1 = λ x. omega arith in
            attr_below k.eattrs (w / 128 % 32) (rw (ne_eqb (w % 4) 0 z, ne_eqb (w % 4) 1 y) at here);
      }
