-- What is put for an answer of the lamp is what is printed, whole. Assumes nothing.
use Prim.Native.Nat.{ℕ, ◌≤◌}
use mathlib.Core.Path.{◌≡◌, refl, sym, ap, subst, ◌∙◌}
use mathlib.Core.List.{List}
use native.Mathlib.Omega.{arith}
use lib.ListN.{length}
use Rattle.std.specs.Prelude.{Bool, true, false, Result, Ok, Err}
use Rattle.model.specs.Bytes.{Bytes, bytes_of}
use Rattle.model.specs.Service.{lamp_service}
use Rattle.model.specs.Answers.{refusal_of, lamp_answer}
use Rattle.model.specs.Demands.{LampCalled}
use Rattle.model.specs.Printed.{refusal_text, lamp_text, printed_lamp}
use Rattle.model.specs.declared.Refusal.{Refusal as RefusalData}
use Rattle.putting.specs.Putting.{Puts}
use Rattle.putting.proofs.PuttingLaws.{puts_same}
use Rattle.list_lines.specs.Printing.{Prints}
use Rattle.list_lines.proofs.FrontLaws.{prints}
use Rattle.list_lines.proofs.LengthLaws.{refusal_short}

module _ (book rules query request : Bytes) (work work' : List ℕ) (r : Result Bool RefusalData) (call : LampCalled book rules query request work work' r)
    (whole : length work ≡ 16384) (o o' : Bytes) (n : ℕ) where
  -- a text of an answer, put in front of a buffer
  abbrev Printed : Type 0
  Printed = Prints (printed_lamp book rules query request) o o' n × (n ≤ 38)

  shown : (s : Result Bool RefusalData) (t : Bytes) → r ≡ s → t ≡ lamp_text (lamp_answer s) → length t ≤ 38 → Puts o 0 t o' n → Printed
  unfolding printed_lamp
  shown s t e is few put =
      let same : t ≡ printed_lamp book rules query request =
      is ∙ ap lamp_text (sym (ap lamp_answer e) ∙ call.answer ∙ ap (λ (k : ℕ). (lamp_service k book rules query request).answer) whole) in
      let p = prints (subst (λ (x : Bytes). length x ≤ 622605) same (omega (arith, few))) (puts_same same put) in
      (p, omega (arith, p.answer, few, ap length same))

  pub yes_printed : r ≡ Ok true → Puts o 0 (bytes_of "(lamp yes)\n") o' n → Printed
  unfolding lamp_text lamp_answer
  yes_printed e = shown (Ok true) (bytes_of "(lamp yes)\n") e refl (omega arith)

  pub no_printed : r ≡ Ok false → Puts o 0 (bytes_of "(lamp no)\n") o' n → Printed
  unfolding lamp_text lamp_answer
  no_printed e = shown (Ok false) (bytes_of "(lamp no)\n") e refl (omega arith)

  pub refusal_printed : (x : RefusalData) → r ≡ Err x → Puts o 0 (refusal_text (refusal_of x)) o' n → Printed
  unfolding lamp_text lamp_answer
  refusal_printed x e = shown (Err x) (refusal_text (refusal_of x)) e refl (refusal_short (refusal_of x))
