-- The vertices, edges, conditions and returned names of a text without a fault are its pattern.
use Prim.Native.Nat.{ℕ, ◌+◌, ◌≤◌, ◌<◌}
use mathlib.Core.Path.{◌≡◌, sym, ap, ap₂, subst, ◌∙◌}
use mathlib.Core.List.{List, [], map}
use native.Mathlib.Omega.{arith}
use lib.ListN.{length, take, drop, get_or, length-take, length-drop}
use lib.Seq.{get_or-take, length-take-le}
use Rattle.model.specs.Bytes.{Bytes}
use Rattle.model.specs.Lists.{joined}
use Rattle.model.specs.Book.{Book}
use Rattle.model.specs.Query.{ChainEdge, vertex_names, edges_of, edge_names, conditions_of}
use Rattle.model.specs.Pattern.{Edge, edge_of, clause_of, pattern_of}
use Rattle.model.specs.Answers.{name_at, part_of, value_of, edge_in, clause_in, pattern_in}
use Rattle.model.specs.Graph.{Each}
use Rattle.model.specs.Places.{value_part, vertex_parts, edge_parts, value_parts}
use Rattle.model.specs.WholeAnswers.{padded, edges_data, clauses_data, query_data}
use Rattle.model.specs.declared.Part.{Part}
use Rattle.model.specs.declared.Value.{Value}
use Rattle.model.specs.declared.Value.TheVariants.{Number, Text, Truth}
use Rattle.model.specs.declared.Condition.{Condition}
use Rattle.model.specs.declared.Condition.TheVariants.{Excluded, OfVertex, OfEdge}
use Rattle.model.specs.declared.Clause.{Clause}
use Rattle.model.proofs.Members.{◌∈◌, map_i, map_e}
use Rattle.model.proofs.Places.{get_or_in, length_map}
use Rattle.book_tables.specs.declared.BookCounts.{BookCounts}
use Rattle.book_tables.specs.View.{book_at}
use Rattle.query_pieces.specs.Named.{edges_in, links_from}
use Rattle.query_pieces.proofs.Trees.{tree_names, returns_same, link_names}
use Rattle.query_pieces.proofs.Tests.{vertex_names_law, edge_names_law}
use Rattle.query_survey.specs.Names.{text_pieces}
use Rattle.query_signs.specs.Expected.{value_standing}
use Rattle.query_faults.proofs.FaultLaws.{query_of, text_ordered}
use Rattle.query_writer.specs.Writable.{Limits, count_limits, ConditionFits}
use Rattle.model.specs.PlainData.{no_part, no_edge, no_clause, NameFits, ValueFits, ConditionFits as WordsHold, PatternFits as WordsFit, ValueWithin}
use Rattle.model.specs.PlainData.{ConditionWithin}
use Rattle.query.specs.Vertices.{Vertices}
use Rattle.query.specs.Edges.{Edges}
use Rattle.query.specs.Clauses.{Clauses}
use Rattle.query.specs.Returns.{Returns}
use Rattle.query.specs.PatternRead.{PatternAsked, PatternRead, pattern_made}
use Rattle.query.proofs.ArrayLaws.{length_taken, blank_padded}
use Rattle.query.proofs.VertexLaws.{vertex_names_in, Found, VerticesRead, found_counted}
use Rattle.query.proofs.EdgeLaws.{EdgesRead}
use Rattle.query.proofs.ReturnLaws.{ReturnsRead}
use Rattle.query.proofs.ClauseLaws.{text_edges, text_clauses, text_limits, condition_parts, ClausesRead, TextClausesRead, clauses_data_law}
use Rattle.query.proofs.StandingLaws.{Inside, EndsBefore, part_inside, each_at, each_joined, values_end}
use Rattle.query.proofs.ClearLaws.{Clear, clear_pieces, clear_tree, some_return, Short, ShortValue, ShortClause, vertex_short, edge_short, clause_short}

-- f of a counted element is among f of those counted
taken_in : {A B : Type 0} (f : A → B) (l : List A) (n i : ℕ) (d : A) → n ≤ length l → i < n → f (get_or l i d) ∈ map f (take n l)
taken_in f l n i d h k = subst (λ x. f x ∈ map f (take n l)) (get_or-take n l i d k)
    (map_i f (take n l) (get_or (take n l) i d) (get_or_in (take n l) i d (omega (arith, length-take-le n l h))))

-- a name, a value, a condition fits its words
module _ (s : Bytes) (base : ℕ) (fit : base + length s ≤ 65536) where
  name_fits : (x : Part) → Inside s x → Short (name_at s x) → NameFits base x
  name_fits x h k = (omega (arith, h.ends, h.long, k.some), omega (arith, h.long, k.few))

  value_fits : (x : Value) → Each (EndsBefore s) (joined value_part (value_standing x)) → ShortValue (value_of s x) → ValueFits base x
  unfolding value_of part_of joined value_part value_standing
  value_fits (Number n) h m = tt
  value_fits (Text start size) h m = (omega (arith, h.0), omega (arith, m, length-take size (drop start s), length-drop start s))
  value_fits (Truth t) h m = tt

  condition_fits : (b : Book) (m : Limits) (k : Condition) → m.vattrs ≤ 32 → m.eattrs ≤ 32 → ConditionFits m k → Each (EndsBefore s) (condition_parts k)
      → ShortClause (clause_in b s k)
      → WordsHold base m.vertices m.edges k
  unfolding clause_in condition_parts
  condition_fits b m (Excluded u v) va ea f w h = f
  condition_fits b m (OfVertex v x) va ea f w h = (f.0, record { attribute = omega (arith, f.1); value = value_fits x.value w h })
  condition_fits b m (OfEdge e x) va ea f w h = (f.0, record { attribute = omega (arith, f.1); value = value_fits x.value w h })

-- a condition whose text value ends before the text's end lies within it
value_within : (s : Bytes) (x : Value) → Each (EndsBefore s) (joined value_part (value_standing x)) → ValueWithin (length s) x
unfolding joined value_part value_standing
value_within s (Number n) h = tt
value_within s (Text start size) h = omega (arith, h.0)
value_within s (Truth t) h = tt

condition_within : (s : Bytes) (k : Condition) → Each (EndsBefore s) (condition_parts k) → ConditionWithin (length s) k
unfolding condition_parts
condition_within s (Excluded u v) h = tt
condition_within s (OfVertex v x) h = value_within s x.value h
condition_within s (OfEdge e x) h = value_within s x.value h

module _ (book : Bytes) (words : List ℕ) (c : BookCounts) (s : Bytes) (asked : PatternAsked book words c s) where
  abbrev b : Book
  b = book_at book words c

  clear : Clear b s
  clear = clear_pieces b s asked.clear

  module _ (v : Vertices) (vertices : VerticesRead s v) where
    found : Found s v (vertex_names_in s)
    found = vertices.found

    module _ (e : Edges) (k : Clauses) (r : Returns) (links : EdgesRead b c s v e) (clauses : TextClausesRead b (text_limits c s) s k)
        (returned : ReturnsRead s v r) where
      conditions : ClausesRead b (text_limits c s) s (text_clauses s) k
      conditions = clauses.read

      -- the model's pattern of the text's query
      same_pattern : pattern_in b s (pattern_made v e k r) ≡ pattern_of (query_of s)
      unfolding pattern_in pattern_of
      same_pattern = λ i. record {
        vertices = (found.named ∙ sym (vertex_names_law (text_pieces s) (text_ordered s))) i;
        edges = same_edges i;
        clauses = same_clauses i;
        returns = same_returns i;
      }
        where
          same_edges : map (edge_in b s) (take e.count e.items) ≡ map (edge_of (vertex_names (query_of s))) (edges_of (query_of s))
          same_edges = rw (vertex_names_law (text_pieces s) (text_ordered s), (tree_names (text_pieces s) (text_ordered s)).edges_same) links.is

          same_clauses : map (λ c. clause_in b s c.condition) (take k.count k.items)
              ≡ map (clause_of (vertex_names (query_of s)) (edge_names (query_of s))) (conditions_of (query_of s))
          same_clauses = rw (
            vertex_names_law (text_pieces s) (text_ordered s),
            edge_names_law (text_pieces s) (text_ordered s),
            (tree_names (text_pieces s)
                (text_ordered s)).conditions_same,
          ) conditions.is

          same_returns : take r.count r.items ≡ map (λ x. Rattle.model.specs.Names.place x (vertex_names (query_of s))) (query_of s).returns
          same_returns = rw (vertex_names_law (text_pieces s) (text_ordered s), returns_same (text_pieces s)) returned.is

      -- as many edge variables as edges
      edge_count : length (text_edges s) ≡ e.count
      edge_count = ap length (sym (link_names [] (text_pieces s))) ∙ length_map (λ (x : ChainEdge). x.name) (links_from [] (text_pieces s)) ∙ sym links.counted

      clause_fits : (i : ℕ) → i < k.count → ConditionFits (count_limits c (pattern_made v e k r)) (get_or k.items i no_clause).condition
      clause_fits i l = rw (found_counted s v (vertex_names_in s) found, edge_count) at (conditions.each i l)

      vertex_named : (i : ℕ) → i < v.count → Short (name_at s (get_or v.items i no_part))
      vertex_named i l = vertex_short b s clear asked.allowed _
          (subst (λ x. name_at s (get_or v.items i no_part) ∈ x) found.named
          (taken_in (name_at s) v.items v.count i no_part (omega (arith, found.within, found.size)) l))

      edge_named_law : (i : ℕ) → i < e.count → Short (name_at s (get_or e.items i no_edge).name)
      unfolding edge_in edge_of
      edge_named_law i l =
          let m = map_e (edge_of (vertex_names_in s)) (links_from [] (text_pieces s)) _
          (subst (λ x. edge_in b s (get_or e.items i no_edge) ∈ x) links.is
          (taken_in (edge_in b s) e.items e.count i no_edge (omega (arith, links.few, links.stored.room)) l)) in
          let n = subst (λ x. m.0.name ∈ x) (link_names [] (text_pieces s)) (map_i (λ (x : ChainEdge). x.name) (links_from [] (text_pieces s)) m.0 m.1) in
          edge_short b s clear asked.allowed _ (subst (λ x. x ∈ edges_in (text_pieces s)) (sym (ap (λ (x : Edge). x.name) m.2)) n)

      clause_named : (i : ℕ) → i < k.count → ShortClause (clause_in b s (get_or k.items i no_clause).condition)
      clause_named i l = clause_short b s clear asked.allowed (vertex_names_in s) (text_edges s) _
          (subst (λ x. clause_in b s (get_or k.items i no_clause).condition ∈ x) conditions.is
          (taken_in (λ (x : Clause). clause_in b s x.condition) k.items k.count i no_clause (omega (arith, conditions.few, conditions.sized)) l))

      -- names and text values stand inside the text
      vertex_inside : (i : ℕ) → i < v.count → Inside s (get_or v.items i no_part)
      vertex_inside i l = part_inside s (get_or v.items i no_part) (vertices.inside.inside i l)

      edge_inside : (i : ℕ) → i < e.count → Inside s (get_or e.items i no_edge).name
      edge_inside i l = part_inside s (get_or e.items i no_edge).name (links.inside.inside i l)

      clause_ends : (i : ℕ) → i < k.count → Each (EndsBefore s) (condition_parts (get_or k.items i no_clause).condition)
      clause_ends i l =
          let in_taken : i < length (take k.count k.items) = omega
          (arith, length-take-le k.count k.items (omega (arith, conditions.few, conditions.sized))) in
          let ends = each_joined (EndsBefore s) (λ (x : Clause). condition_parts x.condition) (take k.count k.items)
          (subst (Each (EndsBefore s)) (sym (clauses.parts clear.whole)) (values_end s)) in
          subst (λ (x : Clause). Each (EndsBefore s) (condition_parts x.condition)) (get_or-take k.count k.items i no_clause l)
          (each_at (λ (x : Clause). Each (EndsBefore s) (condition_parts x.condition)) no_clause (take k.count k.items) ends i in_taken)

      -- every slot is the model's
      whole_pattern : pattern_made v e k r ≡ query_data b s (pattern_in b s (pattern_made v e k r))
      unfolding query_data pattern_in
      whole_pattern = λ i. record {
        vertices = all_vertices i;
        edges = all_edges i;
        clauses = all_clauses i;
        returns = blank_padded 4 0 r.items r.count (omega (arith, returned.listed.few, returned.listed.room)) returned.listed.blank i;
        counts = all_counts i;
      }
        where
          all_vertices : v.items ≡ padded 8 no_part (vertex_parts s)
          all_vertices = blank_padded 8 no_part v.items v.count (omega (arith, found.within, found.size)) found.blank
              ∙ ap (padded 8 no_part) (vertices.parts clear.whole)

          all_edges : e.items ≡ padded 16 no_edge (edges_data b (edge_parts s) (map (edge_in b s) (take e.count e.items)))
          all_edges =
              blank_padded 16 no_edge e.items e.count (omega (arith, links.few, links.stored.room)) links.stored.blank
              ∙ ap (padded 16 no_edge) (sym links.told ∙ ap₂ (edges_data b) (links.parts clear.whole) (sym links.is))

          all_clauses : k.items ≡ padded 32 no_clause (clauses_data b (value_parts s) (map (λ c. clause_in b s c.condition) (take k.count k.items)))
          all_clauses =
              blank_padded 32 no_clause k.items k.count (omega (arith, conditions.few, conditions.sized)) conditions.blank
              ∙ ap (padded 32 no_clause) (sym (clauses_data_law b (text_clauses s) (take k.count k.items) conditions.told)
              ∙ ap₂ (clauses_data b) (clauses.parts clear.whole) (sym conditions.is))

          all_counts : (pattern_made v e k r).counts ≡ (query_data b s (pattern_in b s (pattern_made v e k r))).counts
          all_counts = λ i. record {
            vertices = sym (length_taken (name_at s) v.items v.count (omega (arith, found.within, found.size))) i;
            edges = sym (length_taken (edge_in b s) e.items e.count (omega (arith, links.few, links.stored.room))) i;
            clauses = sym (length_taken (λ c. clause_in b s c.condition) k.items k.count (omega (arith, conditions.few, conditions.sized))) i;
            returns = sym (length-take-le r.count r.items (omega (arith, returned.listed.few, returned.listed.room))) i;
          }

      words_fit : (base : ℕ) → base + length s ≤ 65536 → WordsFit base (pattern_made v e k r)
      words_fit base fit = record {
        few_vertices = found.within;
        few_edges = links.few;
        few_clauses = conditions.few;
        few_returns = returned.listed.few;
        vertices = λ i l. name_fits s base fit (get_or v.items i no_part) (vertex_inside i l) (vertex_named i l);
        edges = λ i l. let x = links.each i l in record {
          name = name_fits s base fit (get_or e.items i no_edge).name (edge_inside i l) (edge_named_law i l);
          label = omega (arith, x.label, asked.fits.within.labels);
          from = x.from;
          to = x.to;
        };
        clauses = λ i l. condition_fits s base fit b (count_limits c (pattern_made v e k r)) (get_or k.items i no_clause).condition
            asked.fits.within.vattrs asked.fits.within.eattrs (clause_fits i l) (clause_ends i l) (clause_named i l);
        returns = returned.each;
      }

      pub pattern_read : PatternRead b c s (pattern_made v e k r)
      pattern_read = record {
        is = λ tree q. subst (λ t. pattern_in b s (pattern_made v e k r) ≡ pattern_of t) (sym (clear_tree b s clear tree q)) same_pattern;
        whole = λ tree q. whole_pattern ∙ ap (query_data b s)
            (subst (λ t. pattern_in b s (pattern_made v e k r) ≡ pattern_of t) (sym (clear_tree b s clear tree q)) same_pattern);
        fits = record {
          vertices = found.within;
          edges = record { few = links.few; each = λ i l. let x = links.each i l in record { label = x.label; from = x.from; to = x.to } };
          clauses = record { few = conditions.few; each = clause_fits };
          returns = record { few = returned.listed.few; each = returned.each };
        };
        parts = record {
          vertices = λ i l. (vertex_inside i l).ends;
          edges = λ i l. (edge_inside i l).ends;
          clauses = λ i l. condition_within s (get_or k.items i no_clause).condition (clause_ends i l);
        };
        words = words_fit;
        some_return = omega (arith, returned.counted, some_return b s clear);
      }
