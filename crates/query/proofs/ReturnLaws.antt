-- Laws of the returned vertices found so far.
use Prim.Native.Nat.{ℕ, ◌+◌, ◌<◌, ◌≤◌}
use mathlib.Core.Path.{◌≡◌, refl, sym, ap, subst, ◌∙◌}
use mathlib.Core.List.{List, [], ◌∷◌, ◌++◌, map, append-nil, append_assoc}
use mathlib.Core.Bool.{Bool, false}
use native.Mathlib.Numerals.{add-one}
use native.Mathlib.Omega.{arith}
use lib.ListN.{length, get_or, take, set, length-set, length-map}
use lib.Seq.{get_or-take, length-take-le, take-suc-set}
use Rattle.std.specs.Prelude.{Result, Ok, Err}
use Rattle.model.specs.Bytes.{Bytes}
use Rattle.model.specs.Lists.{joined}
use Rattle.model.specs.Names.{place}
use Rattle.model.specs.Book.{Book}
use Rattle.model.proofs.Places.{at_place, get_or_in, get_or_map, map_append}
use Rattle.query_pieces.specs.Named.{return_in, returns_in}
use Rattle.query_pieces.specs.Faults.{some_where, undeclared_at}
use Rattle.query_pieces.specs.Steps.{piece_of, StepAt}
use Rattle.query_pieces.specs.declared.Place.{Place}
use Rattle.query_pieces.specs.declared.Step.{Step}
use Rattle.query_survey.specs.Names.{text_start, found_at, text_pieces}
use Rattle.query_survey.proofs.ScanLaws.{step_list, step_none}
use Rattle.query_faults.proofs.FaultLaws.{text_ordered}
use Rattle.query.specs.Vertices.{Vertices}
use Rattle.query.specs.Returns.{Returns}
use Rattle.query.specs.Returns.{no_returns}
use Rattle.query.proofs.ArrayLaws.{Blank, room_for, blank_more, return_declared}
use Rattle.query.proofs.VertexLaws.{vertex_names_in, Found, found_counted}

-- the numbers of names among the vertices
abbrev pub numbers_of : List Bytes → List Bytes → List ℕ
numbers_of vs names = map (λ v. place v vs) names

-- the numbers found
abbrev pub numbers_in : Returns → List ℕ
numbers_in r = take r.count r.items

-- the numbers found are no more than there is room for
pub record Listed (r : Returns) : Type 0 where
  pub room : length r.items ≡ 4
  pub few : r.count ≤ 4
  pub blank : Blank 4 0 r.count r.items

-- r are the returned vertices with more behind them
pub record MoreReturns (returns : Returns) (more : List ℕ) (r : Returns) : Type 0 where
  pub listed : Listed r
  pub is : numbers_in r ≡ numbers_in returns ++ more

-- r are the returned vertices of a text
pub record ReturnsRead (s : Bytes) (vertices : Vertices) (r : Returns) : Type 0 where
  pub is : numbers_in r ≡ numbers_of (vertex_names_in s) (returns_in (text_pieces s))
  pub counted : r.count ≡ length (returns_in (text_pieces s))
  pub each : (i : ℕ) → i < r.count → get_or r.items i 0 < vertices.count
  pub listed : Listed r

-- no returned vertex more, or one
module _ (returns : Returns) (h : Listed returns) where
  pub returns_same : MoreReturns returns [] returns
  returns_same = record { listed = h; is = sym (append-nil (numbers_in returns)) }

  pub return_more : (n : ℕ) → returns.count < 4
      → MoreReturns returns (n ∷ []) (record { items = set returns.items returns.count n; count = returns.count + 1 })
  return_more n l =
      let m : returns.count < length returns.items = omega (arith, h.room) in
      record {
        listed = record {
          room = length-set returns.items returns.count n ∙ h.room;
          few = omega arith;
          blank = blank_more 4 0 returns.items returns.count n l h.blank;
        };
        is = rw (add-one, take-suc-set returns.items returns.count n m);
      }

-- the returned vertices found from the text's start to a place, and those of the pieces behind it
pub record ReturnsSoFar (s : Bytes) (vs : List Bytes) (from : Place) (returns : Returns) : Type 0 where
  pub listed : Listed returns
  pub rest : numbers_in returns ++ numbers_of vs (returns_in (found_at s from)) ≡ numbers_of vs (returns_in (text_pieces s))

pub returns_start : (s : Bytes) (vs : List Bytes) (from : Place) (returns : Returns) → from ≡ text_start → returns ≡ no_returns → ReturnsSoFar s vs from returns
returns_start s vs from returns e f = subst (λ (p : Place). ReturnsSoFar s vs p returns) (sym e)
    (subst (λ (r : Returns). ReturnsSoFar s vs text_start r) (sym f) none_yet)
  where
    none_yet : ReturnsSoFar s vs text_start no_returns
    none_yet = record { listed = record { room = refl; few = omega arith; blank = refl }; rest = refl }

module _ (s : Bytes) (vs : List Bytes) (from : Place) (returns : Returns) (so : ReturnsSoFar s vs from returns) (r : Result Step Bool) (h : StepAt s from r) where
  module _ (x : Step) (e : r ≡ Ok x) where
    abbrev names : List Bytes
    names = return_in (piece_of s x.piece)

    ahead : (numbers_in returns ++ numbers_of vs names) ++ numbers_of vs (returns_in (found_at s x.next)) ≡ numbers_of vs (returns_in (text_pieces s))
    unfolding joined
    ahead =
        append_assoc (numbers_in returns) (numbers_of vs names) (numbers_of vs (returns_in (found_at s x.next)))
        ∙ ap (λ l. numbers_in returns ++ l) (sym (map_append (λ v. place v vs) names (returns_in (found_at s x.next))))
        ∙ ap (λ ps. numbers_in returns ++ numbers_of vs (returns_in ps)) (sym (step_list s from r h x e)) ∙ so.rest

    pub returns_room : length (returns_in (text_pieces s)) ≤ 4 → returns.count + length names ≤ 4
    returns_room few = omega (
      arith,
      room_for (numbers_in returns) (numbers_of vs names) (numbers_of vs (returns_in (found_at s x.next))) ahead,
      length-take-le returns.count returns.items (omega (arith, so.listed.few, so.listed.room)),
      length-map names (λ v. place v vs),
      length-map (returns_in (text_pieces s)) (λ v. place v vs),
    )

    pub returns_on : (more : Returns) → MoreReturns returns (numbers_of vs names) more → ReturnsSoFar s vs x.next more
    returns_on more m = record { listed = m.listed; rest = ap (λ l. l ++ numbers_of vs (returns_in (found_at s x.next))) m.is ∙ ahead }

  pub returns_all : (w : Bool) → r ≡ Err w → numbers_in returns ≡ numbers_of vs (returns_in (text_pieces s))
  unfolding joined
  returns_all w e = sym (append-nil (numbers_in returns)) ∙ ap (λ ps. numbers_in returns ++ numbers_of vs (returns_in ps)) (sym (step_none s from r h w e))
      ∙ so.rest

-- the returned vertices found in a whole text are its own
module _ (b : Book) (s : Bytes) (vertices : Vertices) (found : Found s vertices (vertex_names_in s))
    (declared : some_where (undeclared_at b (text_pieces s)) [] (text_pieces s) ≡ false)
    (returns : Returns) (listed : Listed returns) (all-numbered : numbers_in returns ≡ numbers_of (vertex_names_in s) (returns_in (text_pieces s))) where
  abbrev vs : List Bytes
  vs = vertex_names_in s

  abbrev all_names : List Bytes
  all_names = returns_in (text_pieces s)

  in_array : returns.count ≤ length returns.items
  in_array = omega (arith, listed.room, listed.few)

  returns_counted : returns.count ≡ length all_names
  returns_counted = sym (length-take-le returns.count returns.items in_array) ∙ ap length all-numbered ∙ length-map all_names (λ v. place v vs)

  return_stands : (i : ℕ) → i < returns.count → get_or returns.items i 0 < vertices.count
  return_stands i l =
      let m : i < length all_names = omega (arith, returns_counted) in
      let n = sym (get_or-take returns.count returns.items i 0 l) ∙ ap (λ z. get_or z i 0) all-numbered ∙ get_or_map (λ v. place v vs) all_names i [] 0 m in
      let p = (at_place vs (get_or all_names i [])
      (return_declared b (text_pieces s) (text_ordered s) declared (get_or all_names i []) (get_or_in all_names i [] m))).0 in
      omega (arith, found_counted s vertices vs found)

  pub returns_are : ReturnsRead s vertices returns
  returns_are = record { is = all-numbered; counted = returns_counted; each = return_stands; listed = listed }
