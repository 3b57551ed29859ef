-- A written query lies in its buffer. Assumes nothing.
use Prim.Native.Nat.{ℕ, ◌≤◌}
use mathlib.Core.Path.{◌≡◌, refl, sym, ap, subst, ◌∙◌}
use mathlib.Core.Bool.{Bool, true, false, ◌||◌}
use native.Mathlib.Omega.{arith}
use lib.ListN.{length}
use lib.Dec.{ltb, nltb→le}
use Rattle.std.specs.Prelude.{Result, Ok}
use Rattle.model.proofs.Refusals.{same_accepted}
use Rattle.model.specs.Bytes.{Bytes}
use Rattle.model.specs.Refusal.{accepted, refusal}
use Rattle.model.specs.ReadBook.{read_book}
use Rattle.model.specs.ReadRules.{read_rules}
use Rattle.model.specs.ReadQuery.{read_query}
use Rattle.model.specs.Pattern.{pattern_of}
use Rattle.model.specs.Writing.{written_query}
use Rattle.model.specs.Service.{with_work, writer_text, writer_service}
use Rattle.model.specs.Answers.{writer_answer}
use Rattle.model.specs.declared.Refusal.{Refusal as RefusalData}
use Rattle.model.proofs.Outcomes.{accept_e, else_e}

first_false : (a b : Bool) → (a || b) ≡ false → a ≡ false
first_false true b e = e
first_false false b e = refl

-- a text that is given fits its room
text_fits : (work room : ℕ) (book rules query t : Bytes) → writer_text work room book rules query ≡ accepted t → length t ≤ room
unfolding writer_text with_work refusal
text_fits work room book rules query t e =
    let w = else_e (ltb work 16384) _ _ t e in
    let a = accept_e (read_book book) _ t w.1 in
    let c = accept_e (read_rules a.0 rules) _ t a.2 in
    let d = accept_e (read_query a.0 query) _ t c.2 in
    let u = written_query (pattern_of d.0) in
    let l = else_e (ltb room (length u) || ltb 2048 (length u)) _ (accepted u) t d.2 in
    let same : u ≡ t = same_accepted u t l.1 in
    subst (λ (x : Bytes). length x ≤ room) same (nltb→le room (length u) (rw (first_false (ltb room (length u)) _ l.0) tt))

-- the length that is answered is within the buffer
pub written_inside : (work : ℕ) (buffer book rules query : Bytes) (res : Result ℕ RefusalData) (n : ℕ) → res ≡ Ok n
    → writer_answer res ≡ (writer_service work buffer book rules query).answer → n ≤ length buffer
unfolding writer_service writer_answer
written_inside work buffer book rules query res n e a =
    let (t, f, d) = accept_e (writer_text work (length buffer) book rules query) (λ x. accepted (length x)) n (sym a ∙ ap writer_answer e) in
    omega (arith, text_fits work (length buffer) book rules query t f, same_accepted (length t) n d)
