-- Laws of texts by number, one behind another: they grow at their end, and are put one by one. Assumes nothing.
use Prim.Native.Nat.{ℕ, zero, suc, ◌+◌, ◌<◌}
use mathlib.Core.Path.{◌≡◌, refl, sym, ap, ◌∙◌}
use mathlib.Core.List.{[], ◌++◌}
use native.Mathlib.Numerals.{add-one}
use native.Mathlib.Omega.{arith}
use Rattle.model.specs.Bytes.{Bytes}
use Rattle.model.specs.Lists.{joined}
use Rattle.model.proofs.Places.{joined_end}
use Rattle.book_tables.specs.Listed.{listed}
use Rattle.putting.specs.Putting.{Puts}
use Rattle.putting.proofs.PuttingLaws.{puts_nothing, puts_then, puts_same}
use Rattle.tidy_text.specs.Pieces.{texts_below}

-- One text more.
texts_more : (f : ℕ → Bytes) (n : ℕ) → texts_below f (n + 1) ≡ texts_below f n ++ f n
unfolding texts_below
texts_more f n = rw add-one

-- Only the texts below n count.
pub texts_same : (f g : ℕ → Bytes) (n : ℕ) → ((i : ℕ) → i < n → f i ≡ g i) → texts_below f n ≡ texts_below g n
unfolding texts_below
texts_same f g zero h = refl
texts_same f g (suc n) h = rw (texts_same f g n (λ i l. h i (omega arith)), h n (omega arith))

-- Texts that all are empty.
pub texts_empty : (f : ℕ → Bytes) (n : ℕ) → ((i : ℕ) → f i ≡ []) → texts_below f n ≡ []
unfolding texts_below
texts_empty f zero h = refl
texts_empty f (suc n) h = rw (texts_empty f n h, h n)

-- The texts of the elements of a list.
pub texts_listed : {A : Type 0} (g : A → Bytes) (f : ℕ → A) (n : ℕ) → joined g (listed f n) ≡ texts_below (λ i. g (f i)) n
unfolding texts_below listed
texts_listed g f zero = unfold joined in refl
texts_listed g f (suc n) = joined_end g (listed f n) (f n) ∙ ap (λ t. t ++ g (f n)) (texts_listed g f n)

-- Putting the first texts, and one more.
pub puts_none : (f : ℕ → Bytes) (o : Bytes) (a : ℕ) → Puts o a (texts_below f 0) o a
unfolding texts_below
puts_none f o a = puts_nothing o a

pub puts_next : {o : Bytes} {a : ℕ} {o' : Bytes} {a' : ℕ} {o'' : Bytes} {a'' : ℕ} (f : ℕ → Bytes) (i : ℕ)
    → Puts o a (texts_below f i) o' a' → Puts o' a' (f i) o'' a'' → Puts o a (texts_below f (i + 1)) o'' a''
puts_next f i p q = puts_same (sym (texts_more f i)) (puts_then p q)
