-- Round trip: the pattern of an accepted text, written out as a query, reads back as the same pattern.
-- The pattern is `pattern_of` of the text, and `written_query` what the query writer gives for it.
use Prim.Native.Nat.{ℕ, ◌≤◌}
use Prim.Native.String.{String, ◌++◌ as ◌then◌}
use mathlib.Core.Path.{◌≡◌, refl, sym, ap, ◌∙◌}
use mathlib.Core.List.{[], ◌++◌, map, map-map, List}
use mathlib.Core.Bool.{Bool, true, false, ◌||◌}
use lib.ListN.{length}
use lib.Dec.{ltb, nltb→le}
use Rattle.model.specs.Bytes.{Bytes, bytes_of}
use Rattle.model.specs.Choice.{pick}
use Rattle.model.specs.Lists.{is_nil}
use Rattle.model.specs.Refusal.{accepted, refused, refusal}
use Rattle.model.specs.Book.{Book}
use Rattle.model.specs.ReadBook.{read_book}
use Rattle.model.specs.QueryText.{QueryText}
use Rattle.model.specs.Query.{ChainEdge, vertex_names, edges_of, conditions_of}
use Rattle.model.specs.ReadQuery.{read_query}
use Rattle.model.specs.Pattern.{pattern_of}
use Rattle.model.specs.Writing.{join_by, written_query}
use Rattle.model.specs.Rules.{Policy, Rules}
use Rattle.model.specs.ReadRules.{read_rules}
use Rattle.model.specs.Service.{with_work, writer_text}
use Rattle.model.specs.Computing.{computing}
use Rattle.model.proofs.Members.{◌∈◌}
use Rattle.model.proofs.Places.{map_append}
use Rattle.model.proofs.Outcomes.{never, accept_e, else_e}
use Rattle.model.proofs.AcceptedQuery.{query_named}
use Rattle.model.proofs.AcceptedRules.{policy_is_query}
use Rattle.model.proofs.WrittenConditions.{condition_text}
use Rattle.model.proofs.WrittenText.{match_text, vertex_match}
use Rattle.model.proofs.ReadBack.{match_of_edge, read_back, back_pattern, back_vertices, back_edges, back_conditions}
use Rattle.model.proofs.WrittenForm.{written_form}
use Rattle.model.proofs.WrittenReads.{written_read, accepted_vertex}
use Rattle.model.proofs.Example.{book, rules}

-- the written text of a pattern, read: it is accepted, with the same pattern, names, order, conditions and returns
pub record ReadsBack (b : Book) (q : QueryText) : Type 0 where
  pub again : QueryText
  pub is_accepted : read_query b (written_query (pattern_of q)) ≡ accepted again
  pub same_pattern : pattern_of again ≡ pattern_of q
  pub same_vertices : vertex_names again ≡ vertex_names q
  pub same_edges : edges_of again ≡ edges_of q
  pub same_conditions : conditions_of again ≡ conditions_of q
  pub same_returns : again.returns ≡ q.returns

-- the theorem, for queries
pub round_trip : (b : Book) (s : Bytes) (q : QueryText) → read_query b s ≡ accepted q → length (written_query (pattern_of q)) ≤ 2048 → ReadsBack b q
round_trip b s q e l = let v = accepted_vertex b s q e in record {
  again = read_back q;
  is_accepted = written_read b s q e l;
  same_pattern = back_pattern q v;
  same_vertices = back_vertices q;
  same_edges = back_edges q;
  same_conditions = back_conditions q v;
  same_returns = refl;
}

-- and for the policies of accepted rules
pub policy_round_trip : (b : Book) (s : Bytes) (r : Rules) → read_rules b s ≡ accepted r → (p : Policy) → p ∈ r.policies
    → length (written_query (pattern_of p.text)) ≤ 2048 → ReadsBack b p.text
policy_round_trip b s r e p k = let t = policy_is_query b s r e p k in round_trip b t.0 p.text t.1

-- `Match (v)` and `Match (u)-[e:label]->(v)`
abbrev vertex_statement : Bytes → Bytes
vertex_statement v = bytes_of "Match (" ++ v ++ bytes_of ")"

abbrev edge_statement : ChainEdge → Bytes
edge_statement e = bytes_of "Match (" ++ e.from ++ bytes_of ")-[" ++ e.name ++ bytes_of ":" ++ e.label ++ bytes_of "]->(" ++ e.to ++ bytes_of ")"

-- the form that the paper gives, in the text's own names: a Match for each vertex in order of first appearance, then one for each edge in order,
-- the conditions in their order behind the last, then Return
abbrev pub paper_form : QueryText → Bytes
paper_form q =
    join_by (bytes_of " ") (map vertex_statement (vertex_names q) ++ map edge_statement (edges_of q))
    ++ pick (is_nil (conditions_of q)) [] (bytes_of " Where " ++ join_by (bytes_of " AND ") (map condition_text (conditions_of q)))
    ++ bytes_of " Return " ++ join_by (bytes_of ", ") q.returns

-- the written text of an accepted query has this form
pub written_in_paper_form : (b : Book) (s : Bytes) (q : QueryText) → read_query b s ≡ accepted q → written_query (pattern_of q) ≡ paper_form q
written_in_paper_form b s q e = written_form q (query_named b s q e) ∙ ap with_matches
    (map_append match_text (map vertex_match (vertex_names q)) (map match_of_edge (edges_of q))
    ∙ (λ i. map-map match_text vertex_match (vertex_names q) i ++ map-map match_text match_of_edge (edges_of q) i))
  where
    with_matches : List Bytes → Bytes
    with_matches ms =
        join_by (bytes_of " ") ms
        ++ pick (is_nil (conditions_of q)) [] (bytes_of " Where " ++ join_by (bytes_of " AND ") (map condition_text (conditions_of q)))
        ++ bytes_of " Return " ++ join_by (bytes_of ", ") q.returns

-- what the query writer gives: the text of an accepted query's pattern, in the paper's form, which reads back as that pattern
pub record WriterGives (book query t : Bytes) : Type 0 where
  pub b : Book
  pub q : QueryText
  pub book_read : read_book book ≡ accepted b
  pub query_read : read_query b query ≡ accepted q
  pub is_written : written_query (pattern_of q) ≡ t
  pub in_form : t ≡ paper_form q
  pub reads_back : ReadsBack b q

-- the theorem, for the service
pub writer_gives : (work room : ℕ) (book rules query t : Bytes) → writer_text work room book rules query ≡ accepted t → WriterGives book query t
unfolding writer_text with_work refusal
writer_gives work room book rules query t e =
    let a = accept_e (read_book book) _ t (else_e (ltb work 16384) _ _ t e).1 in
    let c = accept_e (read_rules a.0 rules) _ t a.2 in
    let d = accept_e (read_query a.0 query) _ t c.2 in
    let q : QueryText = d.0 in
    let f = fits (written_query (pattern_of q)) (ltb room (length (written_query (pattern_of q)))) (ltb 2048 (length (written_query (pattern_of q)))) refl d.2 in
    record {
      b = a.0;
      q = q;
      book_read = a.1;
      query_read = d.1;
      is_written = f.0;
      in_form = sym f.0
          ∙ written_in_paper_form a.0 query q d.1;
      reads_back = round_trip a.0 query q d.1 f.1;
    }
  where
    fits : (w : Bytes) (c d : Bool) → ltb 2048 (length w) ≡ d → pick (c || d) (refusal 14 3 1) (accepted w) ≡ accepted t → (w ≡ t) × (length w ≤ 2048)
    fits w true d z e = never _ t e
    fits w false true z e = never _ t e
    fits w false false z e = (cc, nltb→le 2048 (length w) (rw z tt))

-- Not vacuous: this query is accepted against the paper's book, and so the writer gives the text below it, which is read as the same pattern.
abbrev example : String
example = "Match (requestor)-[a:runs]->(h)<-[b:feeds]-(s) Where s.rate >= -5 AND h.kind <> 'gate' Match (h) Where s <> h AND s <> h Return s, h"

abbrev written : String
written = "Match (requestor) Match (h) Match (s) Match (requestor)-[a:runs]->(h) Match (s)-[b:feeds]->(h)"
    then " Where s.rate >= -5 AND h.kind <> 'gate' AND s <> h AND s <> h Return s, h"

writer_example : writer_text 16384 200 (bytes_of book) (bytes_of rules) (bytes_of example) ≡ accepted (bytes_of written)
unfolding computing
writer_example = refl

-- written again, the text stays as it is
again_example : writer_text 16384 200 (bytes_of book) (bytes_of rules) (bytes_of written) ≡ accepted (bytes_of written)
unfolding computing
again_example = refl

-- where it does not keep its buffer, it is refused
refused_example : writer_text 16384 100 (bytes_of book) (bytes_of rules) (bytes_of example) ≡ refused (record { number = 14; text = 3; line = 1 })
unfolding computing
refused_example = refl
