-- The written text of an accepted query is accepted.
use Prim.Native.Nat.{◌≤◌}
use mathlib.Core.Path.{◌≡◌, ap, ◌∙◌}
use mathlib.Core.List.{List, [], ◌∷◌}
use lib.ListN.{length}
use Rattle.model.specs.Bytes.{Bytes}
use Rattle.model.specs.Choice.{just, and_then}
use Rattle.model.specs.Refusal.{accepted}
use Rattle.model.specs.Lines.{bad_line}
use Rattle.model.specs.Book.{Book}
use Rattle.model.specs.Signs.{signs_of}
use Rattle.model.specs.QueryText.{Condition, QueryText}
use Rattle.model.specs.Grammar.{query_text}
use Rattle.model.specs.Query.{vertex_names, edges_of, conditions_of}
use Rattle.model.specs.ReadQuery.{read_query}
use Rattle.model.specs.Pattern.{pattern_of}
use Rattle.model.specs.Writing.{written_query}
use Rattle.model.specs.Graph.{Each}
use Rattle.model.proofs.AllowedBytes.{allowed_line, line_allowed}
use Rattle.model.proofs.AcceptedQuery.{query_named, query_accepted, accept_query}
use Rattle.model.proofs.WrittenConditions.{IsName, WritableCondition}
use Rattle.model.proofs.WrittenText.{WrittenMatch, AllNames, written_text, signs_of_written}
use Rattle.model.proofs.WrittenPieces.{pieces_of_written}
use Rattle.model.proofs.ReadBack.{NonEmpty, some_match_for, matches_for, written_tree, read_back, tail_of_written}
use Rattle.model.proofs.ReadBackFaults.{back_fault}
use Rattle.model.proofs.WellFormed.{wellformed, conditions_writable, matches_for_writable, some_vertex}
use Rattle.model.proofs.WrittenForm.{written_form}
use Rattle.model.proofs.WrittenBytes.{written_text_allowed}

-- a written text is read as its syntax tree
written_text_is_read : (ps : List WrittenMatch) (cs : List Condition) (vs : List Bytes) → NonEmpty ps → NonEmpty vs → Each AllNames ps
    → Each WritableCondition cs → Each IsName vs
    → query_text (written_text ps cs vs) ≡ just (written_tree ps cs vs)
unfolding query_text signs_of and_then
written_text_is_read [] cs vs a b g h k = absurd a
written_text_is_read (p ∷ ps) cs [] a b g h k = absurd b
written_text_is_read (p ∷ ps) cs (v ∷ vs) a b g h k =
    rw (signs_of_written p ps cs v vs g h k, pieces_of_written p ps cs v vs g h k) (ap just (tail_of_written (p ∷ ps) cs (v ∷ vs)))

-- the written text of an accepted query, where it keeps 2,048 bytes, is accepted, and read as the tree `read_back`
pub written_read : (b : Book) (s : Bytes) (q : QueryText) → read_query b s ≡ accepted q → length (written_query (pattern_of q)) ≤ 2048
    → read_query b (written_query (pattern_of q)) ≡ accepted (read_back q)
written_read b s q e l =
    let t = query_accepted b s q e in
    let w = wellformed s q (line_allowed 1 s t.allowed) t.is_text in
    let ps = matches_for q in
    let cs = conditions_of q in
    let f = written_form q (query_named b s q e) in
    let g = matches_for_writable q w in
    let h = conditions_writable q w in
    accept_query b (written_query (pattern_of q)) (read_back q) (record {
      short = l;
      allowed = ap (bad_line 1) f ∙ allowed_line 1 (written_text ps cs q.returns) (written_text_allowed ps cs q.returns g h w.returns_names);
      is_text = ap query_text f ∙ written_text_is_read ps cs q.returns (some_match_for (vertex_names q) (edges_of q) (some_vertex q w))
          w.some_return g h w.returns_names;
      faultless = back_fault b q (some_vertex q w) t.faultless;
    })

-- an accepted query has a vertex
pub accepted_vertex : (b : Book) (s : Bytes) (q : QueryText) → read_query b s ≡ accepted q → NonEmpty (vertex_names q)
accepted_vertex b s q e = let t = query_accepted b s q e in some_vertex q (wellformed s q (line_allowed 1 s t.allowed) t.is_text)
