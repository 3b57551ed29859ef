-- Laws of a whole text, which was put into some buffer to be counted: it is too long and refused, or written in front. Assumes nothing.
use Prim.Native.Nat.{ℕ, ◌<◌, min}
use mathlib.Core.Path.{◌≡◌, refl, sym, ap, ◌∙◌}
use mathlib.Core.List.{[], ◌∷◌, ◌++◌}
use mathlib.Core.Bool.{Bool, true, false, ◌||◌}
use native.Mathlib.Omega.{arith}
use lib.ListN.{length, drop}
use lib.Dec.{ltb}
use borrow.Author.Tests.{lt-ltb, ltb-false}
use Rattle.std.specs.Prelude.{None, Some}
use Rattle.logic.specs.Flags.{neither}
use Rattle.logic.specs.Tests.{either, below_or_not}
use Rattle.model.specs.Bytes.{Bytes}
use Rattle.model.specs.Choice.{pick}
use Rattle.putting.specs.Putting.{last_place, Puts}
use Rattle.putting.specs.Whole.{too_long, Writes}
use Rattle.putting.proofs.PuttingLaws.{counts_length, fits_in_front}

-- past the limit
past_limit : (limit room n : ℕ) → limit < n → too_long limit room n ≡ true
past_limit limit room n h = rw (lt-ltb limit n h) (go (ltb room n))
  where
    go : (b : Bool) → (b || true) ≡ true
    go true = refl
    go false = refl

-- within both
module _ {o t o' : Bytes} {n limit : ℕ} (put : Puts o 0 t o' n) (counted : limit < last_place) where
  -- the place that the text ends at tells whether it is too long
  told : (room : ℕ) → too_long limit room n ≡ too_long limit room (length t)
  told room =
      let e : n ≡ min last_place (length t) = counts_length put in
      either (below_or_not last_place (length t))
      (λ l. past_limit limit room n (omega arith) ∙ sym (past_limit limit room (length t) (omega arith)))
      (λ l. let same : n ≡ length t = omega arith in ap (too_long limit room) same)

  module _ {out lent : Bytes} (kept : lent ≡ out) where
    -- too long: refused, and the buffer stays
    pub refused : too_long limit (length lent) n ≡ true → Writes limit t out lent None
    refused long =
        let e = sym (told (length out)) ∙ ap (λ (l : Bytes). too_long limit (length l) n) (sym kept) ∙ long in
        record {
          answer = sym (ap (λ (b : Bool). pick b None (Some (length t))) e);
          text = kept ∙ sym (ap (λ (b : Bool). pick b out (t ++ drop (length t) out)) e);
        }

    -- not too long: put into the buffer, it is written in front
    pub written_in_front : {out' : Bytes} {m : ℕ} → too_long limit (length lent) n ≡ false → Puts lent 0 t out' m → Writes limit t out out' (Some n)
    written_in_front short put-again =
        let e = sym (told (length out)) ∙ ap (λ (l : Bytes). too_long limit (length l) n) (sym kept) ∙ short in
        let (room, few) = neither (ltb (length lent) n) (ltb limit n) short in
        let counts : n ≡ min last_place (length t) = counts_length put in
        let same : n ≡ length t = omega (arith, ltb-false limit n few) in
        record {
          answer = ap Some same ∙ sym (ap (λ (b : Bool). pick b None (Some (length t))) e);
          text = fits_in_front (omega (arith, ltb-false limit n few)) (omega (arith, ltb-false (length lent) n room)) put-again
              ∙ ap (λ (l : Bytes). t ++ drop (length t) l) kept ∙ sym (ap (λ (b : Bool). pick b out (t ++ drop (length t) out)) e);
        }

-- A part of no bytes that was lent to count a text and came back leaves the buffer as it is.
pub nothing_lent : (l out : Bytes) → length l ≡ 0 → l ++ drop 0 out ≡ out
nothing_lent [] out h = refl
nothing_lent (x ∷ l) out h = absurd (omega arith)
