-- What holds at each piece of the walk, and how it comes to the fault of the text.
use Prim.Native.Nat.{ℕ, ◌+◌, ◌<◌}
use mathlib.Core.Path.{◌≡◌, refl, sym, ap, ◌∙◌}
use mathlib.Core.List.{List, [], ◌∷◌, ◌++◌}
use mathlib.Core.Bool.{Bool, true}
use native.Mathlib.Omega.{arith}
use lib.ListN.{length, take, drop}
use Rattle.std.specs.Prelude.{Result, Ok, Err}
use Rattle.model.specs.Bytes.{Bytes}
use Rattle.model.specs.Choice.{pick}
use Rattle.model.specs.Lists.{joined}
use Rattle.model.specs.Book.{Book}
use Rattle.model.specs.Grammar.{Piece}
use Rattle.query_pieces.specs.Faults.{some_where}
use Rattle.query_pieces.specs.Steps.{piece_of, walk_at, StepAt}
use Rattle.query_pieces.specs.declared.Place.{Place}
use Rattle.query_pieces.specs.declared.Step.{Step}
use Rattle.model.proofs.Places.{joined_end}
use Rattle.names_met.specs.Table.{Holds}
use Rattle.query_survey.specs.Names.{name_in, names_in, found_at, text_pieces, text_start}
use Rattle.query_faults.specs.TextFault.{text_fault}
use Rattle.query_survey.specs.declared.Which.{Which}
use Rattle.query_survey.specs.declared.Which.TheVariants.{Vertex, Edge, Returned}
use Rattle.query_survey.proofs.ScanLaws.{step_list, step_whole, step_none, step_ends, further_in, further_rest, further_done, found_bound}
use Rattle.query_survey.specs.declared.Met.{Met}
use Rattle.query_faults.specs.declared.Passed.{Passed}
use Rattle.query_survey.specs.declared.Survey.{Survey}
use Rattle.query_faults.specs.Behind.{Behind}
use Rattle.query_survey.specs.Survey.{undeclared_by, survey_from, unseen, verdict}
use Rattle.query_faults.proofs.SurveyLaws.{survey_parts, survey_fault}

-- behind i pieces: the tables list their names, and the survey from here comes to that of the whole text
pub record Walked (b : Book) (s : Bytes) (vertices edges returned : List ℕ) (place : Place) (i : ℕ) (t : Passed) : Type 0 where
  pub rest : drop i (text_pieces s) ≡ found_at s place
  pub whole : (walk_at s place).whole ≡ (walk_at s text_start).whole
  pub vertex_names : Holds s vertices t.met.vertices (names_in Vertex (take i (text_pieces s)))
  pub edge_names : Holds s edges t.met.edges (names_in Edge (take i (text_pieces s)))
  pub return_names : Holds s returned t.met.returned (names_in Returned (take i (text_pieces s)))
  pub survey : survey_from b t.survey (take i (text_pieces s)) (found_at s place) ≡ survey_from b unseen [] (text_pieces s)

pub walked_start : (b : Book) (s : Bytes) (vertices edges returned : List ℕ) (m : Met) → Holds s vertices m.vertices [] → Holds s edges m.edges []
    → Holds s returned m.returned [] → Walked b s vertices edges returned text_start 0 (record { survey = unseen; met = m })
unfolding joined
walked_start b s vertices edges returned m hv he hr = record { rest = refl; whole = refl; vertex_names = hv; edge_names = he; return_names = hr; survey = refl }

-- 4 is seen, and nothing lower but a broken grammar
undeclared_fault : (w : Bool) (t : Survey) → t.undeclared ≡ true → verdict w t ≡ pick w 4 3
unfolding verdict
undeclared_fault w t e = rw e

undeclared_stays : (b : Book) (t : Survey) (done ps : List Piece) → t.undeclared ≡ true → (survey_from b t done ps).undeclared ≡ true
undeclared_stays b t done ps e = ap (λ (x : Survey). x.undeclared) (survey_parts b t done ps) ∙ ap (λ x. pick x true (some_where (undeclared_by b) done ps)) e

module _ (b : Book) (s : Bytes) (vertices edges returned : List ℕ) (place : Place) (i : ℕ) (t : Passed) (h : Walked b s vertices edges returned place i t)
    (got : Result Step Bool) (at : StepAt s place got) where
  pub walked_end : (w : Bool) → got ≡ Err w → verdict w t.survey ≡ text_fault b s
  unfolding survey_from
  walked_end w z =
      ap (λ x. verdict x t.survey) (sym (step_ends s place got at w z) ∙ h.whole)
      ∙ ap (verdict (walk_at s text_start).whole) (ap (survey_from b t.survey (take i (text_pieces s))) (sym (step_none s place got at w z)) ∙ h.survey)
      ∙ survey_fault b s

  module _ (x : Step) (z : got ≡ Ok x) where
    abbrev piece : Piece
    piece = piece_of s x.piece

    on : drop i (text_pieces s) ≡ piece ∷ found_at s x.next
    on = h.rest ∙ step_list s place got at x z

    pub walked_below : i < length s
    walked_below = omega (arith, further_in (text_pieces s) i piece (found_at s x.next) on, found_bound s text_start)

    pub walked_less : length (found_at s x.next) < length (found_at s place)
    walked_less = let k = ap length (step_list s place got at x z) in omega arith

    listed_on : (w : Which) (table : List ℕ) (n : ℕ) → Holds s table n (names_in w (take i (text_pieces s)) ++ name_in w piece)
        → Holds s table n (names_in w (take (i + 1) (text_pieces s)))
    listed_on w table n k = rw (further_done (text_pieces s) i piece (found_at s x.next) on, joined_end (name_in w) (take i (text_pieces s)) piece) k

    module _ (vertices' edges' returned' : List ℕ) (r : Passed) (k : Behind b s (take i (text_pieces s)) t.survey piece vertices' edges' returned' r) where
      survey_on : survey_from b r.survey (take (i + 1) (text_pieces s)) (found_at s x.next) ≡ survey_from b unseen [] (text_pieces s)
      unfolding survey_from
      survey_on =
          rw (further_done (text_pieces s) i piece (found_at s x.next) on, k.seen (found_at s x.next))
          (ap (survey_from b t.survey (take i (text_pieces s))) (sym (step_list s place got at x z)) ∙ h.survey)

      pub walked_undeclared : r.survey.undeclared ≡ true → verdict (walk_at s x.next).whole r.survey ≡ text_fault b s
      walked_undeclared u =
          undeclared_fault _ r.survey u
          ∙ sym (undeclared_fault _ _ (undeclared_stays b r.survey (take (i + 1) (text_pieces s)) (found_at s x.next) u))
          ∙ ap (λ w. verdict w (survey_from b r.survey (take (i + 1) (text_pieces s)) (found_at s x.next))) (sym (step_whole s place got at x z) ∙ h.whole)
          ∙ ap (verdict (walk_at s text_start).whole) survey_on
          ∙ survey_fault b s

      pub walked_on : Walked b s vertices' edges' returned' x.next (i + 1) r
      walked_on = record {
        rest = further_rest (text_pieces s) i piece (found_at s x.next) on;
        whole = sym (step_whole s place got at x z) ∙ h.whole;
        vertex_names = listed_on Vertex vertices' r.met.vertices k.vertex_names;
        edge_names = listed_on Edge edges' r.met.edges k.edge_names;
        return_names = listed_on Returned returned' r.met.returned k.return_names;
        survey = survey_on;
      }
