-- A list's answer and its row words, by what asking gives.
use Prim.Native.Nat.{ℕ, ◌-◌, ◌*◌, ◌≤◌}
use mathlib.Core.Path.{◌≡◌, refl, sym, ap, ap₂, subst, ◌∙◌}
use mathlib.Core.List.{List, [], ◌∷◌, ◌++◌}
use native.Mathlib.Omega.{arith}
use lib.ListN.{length, take}
use lib.Seq.{length-take-le}
use borrow.Author.Tests.{lt-ltb, le-ltb}
use Rattle.std.specs.Prelude.{Result, Ok, Err}
use Rattle.model.specs.Bytes.{Bytes}
use Rattle.model.specs.Lists.{joined}
use Rattle.model.specs.Refusal.{Outcome, accepted, refused, on_accept, refusal}
use Rattle.model.specs.Service.{ones, FoundRows, rows_asked, list_found, row_words, list_service}
use Rattle.model.specs.Answers.{refusal_of, list_answer}
use Rattle.model.specs.Demands.{ListCalled}
use Rattle.model.specs.declared.Refusal.{Refusal as RefusalData}
use Rattle.model.specs.declared.RowsSize.{RowsSize}
use Rattle.fill.specs.Filled.{filled}
use Rattle.fill.specs.FilledLaws.{filled_whole}
use Rattle.rows.specs.Order.{Row}
use Rattle.rows.specs.Buffer.{rows_in, flat}
use Rattle.rows.specs.BufferLaws.{length_rows_in, flat_rows_in}
use Rattle.asking.specs.Asks.{AreFound, TooManyRows}
use Rattle.listing.specs.Listed.{Lists}

-- a refusal clears the row words
pub lists_nothing : (x : RefusalData) (before after : List ℕ) → after ≡ filled 0 before → Lists (refused (refusal_of x)) (length before) after (Err x)
unfolding list_answer on_accept row_words ones
lists_nothing x before after e = record { answer = refl; rows = e ∙ filled_whole before }

joined_flat : (rows : List Row) → joined (λ row. row) rows ≡ flat rows
unfolding joined flat
joined_flat [] = refl
joined_flat (row ∷ rows) = ap (λ (l : List ℕ). row ++ l) (joined_flat rows)

-- rows that stand in front of row words, the words behind them being filled
pub lists_rows : (words n w : ℕ) (after after' : List ℕ) → n * w ≤ words → length after ≡ words → after' ≡ filled (n * w) after
    → Lists (accepted (record { rows = rows_in w n after; width = w })) words after' (Ok (record { rows = n; width = w }))
unfolding list_answer on_accept row_words filled ones
lists_rows words n w after after' fits long f =
    let held : joined (λ row. row) (rows_in w n after) ≡ take (n * w) after = joined_flat (rows_in w n after) ∙ flat_rows_in w n after in
    let size : length (joined (λ row. row) (rows_in w n after)) ≡ n * w = ap length held ∙ length-take-le (n * w) after (omega (arith, fits, long)) in
    let room : length after - n * w ≡ words - length (joined (λ row. row) (rows_in w n after)) = omega arith in
    record {
      answer = ap (λ (k : ℕ). accepted (record { rows = k; width = w })) (sym (length_rows_in w n after));
      rows = f ∙ ap₂ (λ (l : List ℕ) (k : ℕ). l ++ ones k) (sym held) room;
    }

module _ (book rules query request : Bytes) (rows work rows' work' : List ℕ) (cleared : work' ≡ ones (length work)) where
  abbrev found : Outcome FoundRows
  found = rows_asked (length work) book rules query request

  abbrev listed : Outcome FoundRows
  listed = list_found (length work) (length rows) book rules query request

  -- what the call of the list promises
  called : (o : Outcome FoundRows) (n : ℕ) (res : Result RowsSize RefusalData) → listed ≡ o → length rows ≡ n → Lists o n rows' res
      → ListCalled book rules query request rows work rows' work' res
  unfolding list_service
  called o n res e l h =
      let s = subst (λ (k : ℕ). Lists listed k rows' res) (sym l) (subst (λ (x : Outcome FoundRows). Lists x n rows' res) (sym e) h) in
      record { answer = s.answer; rows_left = s.rows; cleared = cleared }

  -- the rows are found
  pub list_found_law : (n w : ℕ) (after : List ℕ) → AreFound found (length rows) after n w → length after ≡ length rows → rows' ≡ filled (n * w) after
      → ListCalled book rules query request rows work rows' work' (Ok (record { rows = n; width = w }))
  unfolding list_found on_accept
  list_found_law n w after a long f = called _ (length rows) (Ok (record { rows = n; width = w })) is refl (lists_rows (length rows) n w after rows' a.fits long f)
    where
      fits : length (rows_in w n after) * w ≤ length rows
      fits = subst (λ (k : ℕ). k * w ≤ length rows) (sym (length_rows_in w n after)) a.fits

      is : listed ≡ accepted (record { rows = rows_in w n after; width = w })
      is = rw (a.is, le-ltb (length rows) (length (rows_in w n after) * w) fits)

  -- they do not fit
  pub list_full : TooManyRows found (length rows) → (n : ℕ) (x : RefusalData) → refusal_of x ≡ record { number = 14; text = 5; line = 0 } → (res : Result RowsSize RefusalData)
      → length rows ≡ n → Lists (refused (refusal_of x)) n rows' res → ListCalled book rules query request rows work rows' work' res
  unfolding list_found on_accept refusal
  list_full d n x e res l h = called _ n res is l h
    where
      is : listed ≡ refused (refusal_of x)
      is = rw (d.is, lt-ltb (length rows) (length d.found.rows * d.found.width) d.too_many, e)

  -- a text or the woven pattern is refused
  pub list_refused : (x : RefusalData) → found ≡ refused (refusal_of x) → (n : ℕ) (res : Result RowsSize RefusalData) → length rows ≡ n
      → Lists (refused (refusal_of x)) n rows' res → ListCalled book rules query request rows work rows' work' res
  unfolding list_found on_accept
  list_refused x e n res l h = called _ n res is l h
    where
      is : listed ≡ refused (refusal_of x)
      is = rw e
