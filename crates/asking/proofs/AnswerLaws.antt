-- What asking answers, step by step.
use Prim.Native.Nat.{ℕ, ◌<◌}
use mathlib.Core.Path.{◌≡◌, refl, sym, ap, subst}
use mathlib.Core.Bool.{Bool, true, false}
use mathlib.Core.List.{List}
use native.Mathlib.Omega.{arith}
use lib.ListN.{length}
use Rattle.std.specs.Prelude.{Result, Ok, Err, Option, Some, None}
use Rattle.model.specs.Refusal.{Outcome, accepted, refused}
use Rattle.model.specs.Book.{Book}
use Rattle.model.specs.Request.{Identity}
use Rattle.model.specs.Weave.{WovenPattern}
use Rattle.model.specs.Service.{FoundRows}
use Rattle.rows.specs.Order.{Row}
use Rattle.rows.specs.SortedLaws.{same_list}
use Rattle.rows.specs.Buffer.{rows_in}
use Rattle.jumps.specs.Problem.{AllRows}
use Rattle.start_sets.specs.ProblemOf.{problem_of}
use Rattle.weave.specs.Given.{Identified}
use Rattle.problem.specs.Rows.{RowsFound}
use Rattle.model.specs.Answers.{refusal_of}
use Rattle.model.specs.declared.Refusal.{Refusal as RefusalData}
use Rattle.model.specs.declared.RowsSize.{RowsSize}
use Rattle.asking.specs.Asks.{AreFound, TooManyRows, ByAnswer, Asks}

-- the same answer, of an outcome that is the same
pub asks_as : (o o' : Outcome FoundRows) (n : ℕ) (after : List ℕ) (r : Result (Option RowsSize) RefusalData) → o ≡ o' → Asks o' n after r → Asks o n after r
asks_as o o' n after r e h = subst (λ (x : Outcome FoundRows). Asks x n after r) (sym e) h

-- what is said, the answer being known
module _ {o : Outcome FoundRows} {words : ℕ} {after : List ℕ} {r : Result (Option RowsSize) RefusalData} where
  pub told_found : {s : RowsSize} → r ≡ Ok (Some s) → Asks o words after r → AreFound o words after s.rows s.width
  told_found e h = subst (ByAnswer o words after) e h.given

  pub told_full : r ≡ Ok None → Asks o words after r → TooManyRows o words
  told_full e h = subst (ByAnswer o words after) e h.given

  pub told_refused : {x : RefusalData} → r ≡ Err x → Asks o words after r → o ≡ refused (refusal_of x)
  told_refused e h = subst (ByAnswer o words after) e h.given

-- all rows of a problem, as the search found them
module _ (b : Book) (p : WovenPattern) (woven : List ℕ) (returns : ℕ) (before after : List ℕ) (count : ℕ) (full : Bool)
    (found : RowsFound b p woven returns before after count full)
    (ids : List Identity) (identified : Identified p ids woven) (list : List Row) (all : AllRows (problem_of b p ids) list) where
  abbrev given : FoundRows
  given = record { rows = list; width = returns }

  -- they do not fit
  pub rows_too_many : full ≡ true → TooManyRows (accepted given) (length before)
  rows_too_many e = record { found = given; is = refl; too_many = found.too_many ids identified e list all }

  -- they fit: the rows found are all rows
  found_all : full ≡ false → list ≡ rows_in returns count after
  found_all e =
      let g = found.all_rows ids identified e in
      same_list list (rows_in returns count after) all.ascends g.ascends (λ x m. g.each x (all.only x m)) (λ x m. all.each x (g.only x m))

  pub rows_are_found : full ≡ false → 0 < returns → length after ≡ length before → AreFound (accepted given) (length before) after count returns
  rows_are_found e wide long = record {
    is = ap (λ (l : List Row). accepted (record { rows = l; width = returns })) (found_all e);
    fits = omega (arith, found.fits, long);
    wide = wide;
  }
