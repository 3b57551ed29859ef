-- What the lamp says, by what asking with no row word gives.
use Prim.Native.Nat.{ℕ, zero, suc, ◌*◌, ◌<◌, ◌≤◌}
use mathlib.Core.Path.{◌≡◌, refl, sym, ap, subst, ◌∙◌}
use mathlib.Core.Bool.{Bool, true, false, not}
use mathlib.Core.List.{List, [], ◌∷◌}
use native.Mathlib.Omega.{arith}
use lib.ListN.{length}
use Rattle.std.specs.Prelude.{Result, Ok, Err, Option, Some, None, is_none}
use Rattle.model.specs.Bytes.{Bytes}
use Rattle.model.specs.Lists.{is_nil}
use Rattle.model.specs.Refusal.{Outcome, accepted, refused, on_accept}
use Rattle.model.specs.Service.{ones, FoundRows, rows_asked, lamp_service}
use Rattle.model.specs.Answers.{refusal_of, lamp_answer}
use Rattle.model.specs.Demands.{LampCalled}
use Rattle.model.specs.declared.Refusal.{Refusal as RefusalData}
use Rattle.model.specs.declared.RowsSize.{RowsSize}
use Rattle.rows.specs.Buffer.{rows_in}
use Rattle.rows.specs.BufferLaws.{length_rows_in}
use Rattle.asking.specs.Asks.{AreFound, TooManyRows, Asks}
use Rattle.asking.proofs.AnswerLaws.{told_found, told_full, told_refused}

-- a list of no length has nothing in it, and one of some length has
nothing_in : {A : Type 0} (l : List A) → length l ≡ 0 → not (is_nil l) ≡ false
unfolding is_nil
nothing_in [] e = refl
nothing_in (x ∷ l) e = absurd (omega arith)

something_in : {A : Type 0} (l : List A) → 0 < length l → not (is_nil l) ≡ true
unfolding is_nil
something_in [] h = absurd (omega arith)
something_in (x ∷ l) h = refl

-- rows of a word at least that stand in no word are none
no_rows : (n w : ℕ) → n * w ≤ 0 → 0 < w → n ≡ 0
no_rows zero w h l = refl
no_rows (suc n) w h l = absurd (omega (arith, h, l))

-- there are some if their words are
some_rows : (n w : ℕ) → 0 < n * w → 0 < n
some_rows zero w h = absurd (omega (arith, h))
some_rows (suc n) w h = omega arith

module _ (book rules query request : Bytes) (work work' : List ℕ) (cleared : work' ≡ ones (length work)) where
  abbrev found : Outcome FoundRows
  found = rows_asked (length work) book rules query request

  -- no row: none stands in no word, and all stand there
  lamp_no : (n w : ℕ) (after : List ℕ) → AreFound found 0 after n w → LampCalled book rules query request work work' (Ok false)
  unfolding lamp_service lamp_answer on_accept
  lamp_no n w after a =
      let none : length (rows_in w n after) ≡ 0 = length_rows_in w n after ∙ no_rows n w a.fits a.wide in
      record { answer = rw a.is (ap accepted (sym (nothing_in (rows_in w n after) none))); cleared = cleared }

  -- a row: some do not fit in no word
  lamp_yes : TooManyRows found 0 → LampCalled book rules query request work work' (Ok true)
  unfolding lamp_service lamp_answer on_accept
  lamp_yes d =
      let some : 0 < length d.found.rows = some_rows (length d.found.rows) d.found.width d.too_many in
      record { answer = rw d.is (ap accepted (sym (something_in d.found.rows some))); cleared = cleared }

  -- a text or the woven pattern is refused
  refused_lamp : (x : RefusalData) → found ≡ refused (refusal_of x) → LampCalled book rules query request work work' (Err x)
  unfolding lamp_service lamp_answer on_accept
  refused_lamp x e = record { answer = rw e refl; cleared = cleared }

  -- so the lamp says whether the rows do not fit, or what is refused
  module _ (after : List ℕ) (r : Result (Option RowsSize) RefusalData) (asked : Asks found 0 after r) where
    abbrev Shows : Bool → Type 0
    Shows said = LampCalled book rules query request work work' (Ok said)

    pub lamp_shown : (f : Option RowsSize) → r ≡ Ok f → (said : Bool) → said ≡ is_none f → LampCalled book rules query request work work' (Ok said)
    lamp_shown (Some s) e said is = subst Shows (sym is) (lamp_no s.rows s.width after (told_found e asked))
    lamp_shown None e said is = subst Shows (sym is) (lamp_yes (told_full e asked))

    pub lamp_refused : (x : RefusalData) → r ≡ Err x → LampCalled book rules query request work work' (Err x)
    lamp_refused x e = refused_lamp x (told_refused e asked)
