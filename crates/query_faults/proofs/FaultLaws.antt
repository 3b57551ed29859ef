-- The number found among the pieces of a text is the fault of the text.
use mathlib.Core.Path.{◌≡◌, refl, sym, ap, ◌∙◌}
use mathlib.Core.List.{[], ◌∷◌}
use mathlib.Core.Bool.{Bool, true, false}
use Rattle.model.specs.Bytes.{Bytes}
use Rattle.model.specs.Choice.{pick, nothing, just, and_then}
use Rattle.model.specs.Refusal.{lowest, ◌if◌}
use Rattle.model.specs.Book.{Book}
use Rattle.model.specs.QueryText.{QueryText}
use Rattle.model.specs.Signs.{signs_of}
use Rattle.model.specs.Grammar.{at_start, tail_of, query_text}
use Rattle.model.specs.ReadQuery.{query_fault}
use Rattle.query_pieces.specs.Walk.{Walk, walk, Ordered}
use Rattle.query_pieces.specs.Faults.{some_where, undeclared_at, twice_at, mistyped_at, from_itself_at}
use Rattle.query_pieces.specs.Steps.{walk_at, spot_of, chain_at}
use Rattle.query_pieces.proofs.Walks.{kept, pieces_are_walked, walk_ordered}
use Rattle.query_pieces.proofs.Tests.{undeclared_found, twice_found, mistyped_found, itself_found}
use Rattle.query_survey.specs.Names.{text_start, text_pieces}
use Rattle.query_survey.specs.Counting.{past_limits}
use Rattle.query_faults.specs.Tests.{piece_fault}
use Rattle.query_faults.specs.TextFault.{number_or, tree_fault, text_fault}
use Rattle.query_faults.proofs.CountLaws.{limits_same}

-- the query text of a text's pieces
abbrev pub query_of : Bytes → QueryText
query_of s = (tail_of (text_pieces s)).later

-- a text's pieces stand where they may
pub text_ordered : (s : Bytes) → Ordered at_start (text_pieces s)
unfolding walk_at spot_of chain_at signs_of
text_ordered s = walk_ordered at_start 0 (signs_of s)

-- a text is whole, or it is none
pub text_read : (s : Bytes) → query_text s ≡ pick (walk_at s text_start).whole (just (query_of s)) nothing
unfolding query_text walk_at spot_of chain_at signs_of and_then
text_read s = ap (λ m. and_then m (λ ps. just (tail_of ps).later)) (pieces_are_walked at_start 0 (signs_of s)) ∙ go (walk at_start 0 (signs_of s))
  where
    go : (w : Walk) → and_then (kept w) (λ ps. just (tail_of ps).later) ≡ pick w.whole (just (tail_of w.found).later) nothing
    go w = both w.whole
      where
        both : (t : Bool) → and_then (pick t (just w.found) nothing) (λ ps. just (tail_of ps).later) ≡ pick t (just (tail_of w.found).later) nothing
        both true = refl
        both false = refl

-- the tests of the pieces are those of the query text
module _ (b : Book) (s : Bytes) where
  fault_table : (t u v w x : Bool) → pick t 4 (pick u 5 (pick v 6 (pick w 7 (pick x 8 0))))
      ≡ number_or (lowest ((4 if t) ∷ (5 if u) ∷ (6 if v) ∷ (7 if w) ∷ (8 if x) ∷ []))
  unfolding number_or lowest
  fault_table true u v w x = refl
  fault_table false true v w x = refl
  fault_table false false true w x = refl
  fault_table false false false true x = refl
  fault_table false false false false true = refl
  fault_table false false false false false = refl

  tests_same : query_fault b (query_of s) ≡ lowest
      ((4 if some_where (undeclared_at b (text_pieces s)) [] (text_pieces s)) ∷ (5 if some_where (twice_at (text_pieces s)) [] (text_pieces s)) ∷
      (6 if some_where (mistyped_at b) [] (text_pieces s)) ∷ (7 if past_limits (text_pieces s)) ∷ (8 if some_where from_itself_at [] (text_pieces s)) ∷ [])
  tests_same = unfold query_fault in rw (
    undeclared_found (text_pieces s) (text_ordered s) b,
    twice_found (text_pieces s) (text_ordered s),
    mistyped_found
        (text_pieces s) (text_ordered s) b,
    limits_same (text_pieces s) (text_ordered s),
    itself_found (text_pieces s) (text_ordered s),
  )

  -- the fault that the pieces show is the fault of the text
  pub number_is : piece_fault b s ≡ text_fault b s
  unfolding piece_fault text_fault tree_fault
  number_is = rw (text_read s) (go (walk_at s text_start).whole)
    where
      go : (t : Bool) → pick t (pick (some_where (undeclared_at b (text_pieces s)) [] (text_pieces s)) 4
          (pick (some_where (twice_at (text_pieces s)) [] (text_pieces s)) 5
          (pick (some_where (mistyped_at b) [] (text_pieces s)) 6
          (pick (past_limits (text_pieces s)) 7 (pick (some_where from_itself_at [] (text_pieces s)) 8 0))))) 3 ≡ tree_fault b (pick t (just (query_of s)) nothing)
      go true = fault_table _ _ _ _ _ ∙ ap number_or (sym tests_same)
      go false = refl
