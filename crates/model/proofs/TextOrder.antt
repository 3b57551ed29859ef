-- The byte order of texts is a total order: exactly one of less, equal and greater; equal means the same bytes; a proper beginning is less; it is transitive.
use Prim.Native.Nat.{ℕ, ◌<◌}
use mathlib.Core.Path.{◌≡◌, refl, sym, ap, ◌∙◌}
use mathlib.Core.Logic.{◌⊎◌, inl, inr, ⊎_elim, ◌↔◌}
use mathlib.Core.List.{[], ◌∷◌, ◌++◌}
use native.Mathlib.Omega.{arith}
use lib.Dec.{ltb, ltb→lt}
use borrow.Author.Tests.{lt-ltb, le-ltb, ltb-false}
use Rattle.model.specs.Bytes.{Bytes}
use Rattle.model.specs.TextOrder.{Order, less, equal, greater, byte_order}
use Rattle.model.proofs.Members.{test, is_false}

-- one text is a proper beginning of another
pub record Begins (a b : Bytes) : Type 0 where
  pub byte : ℕ
  pub rest : Bytes
  pub is : b ≡ a ++ (byte ∷ rest)

-- two texts are the same up to a byte that is lower in the first
pub record LowerByte (a b : Bytes) : Type 0 where
  pub front : Bytes
  pub low : ℕ
  pub high : ℕ
  pub behind_low : Bytes
  pub behind_high : Bytes
  pub first : a ≡ front ++ (low ∷ behind_low)
  pub second : b ≡ front ++ (high ∷ behind_high)
  pub lower : low < high

-- one text comes before another
abbrev pub ComesBefore : Bytes → Bytes → Type 0
ComesBefore a b = Begins a b ⊎ LowerByte a b

-- what an order says of three statements, of which exactly one holds
abbrev pub Tells : Order → Type 0 → Type 0 → Type 0 → Type 0
Tells less L E G = L × (E → ⊥) × (G → ⊥)
Tells equal L E G = (L → ⊥) × E × (G → ⊥)
Tells greater L E G = (L → ⊥) × (E → ⊥) × G

-- two numbers are in order, equal, or in the other order
pub three : (x y : ℕ) → (x < y) ⊎ (x ≡ y) ⊎ (y < x)
three x y = ⊎_elim (λ t. inl (ltb→lt x y t))
    (λ t. ⊎_elim (λ u. inr (inr (ltb→lt y x u)))
    (λ u. inr (inl (omega (arith, ltb-false x y (is_false _ t), ltb-false y x (is_false _ u))))) (test (ltb y x)))
    (test (ltb x y))

-- the first bytes decide where they differ, and else what is behind them
module _ (x y : ℕ) (a b : Bytes) where
  lower_less : x < y → byte_order (x ∷ a) (y ∷ b) ≡ less
  unfolding byte_order
  lower_less h = rw (lt-ltb x y h)

  higher_greater : y < x → byte_order (x ∷ a) (y ∷ b) ≡ greater
  unfolding byte_order
  higher_greater h = rw (le-ltb x y (omega arith), lt-ltb y x h)

  alike_behind : x ≡ y → byte_order (x ∷ a) (y ∷ b) ≡ byte_order a b
  unfolding byte_order
  alike_behind h = rw (le-ltb x y (omega arith), le-ltb y x (omega arith))

-- a proper beginning is less
pub beginning_less : (a : Bytes) (y : ℕ) (b : Bytes) → byte_order a (a ++ (y ∷ b)) ≡ less
unfolding byte_order
beginning_less [] y b = refl
beginning_less (x ∷ a) y b = alike_behind x x a (a ++ (y ∷ b)) refl ∙ beginning_less a y b

-- so the text of no bytes is less than every other
pub empty_least : (y : ℕ) (b : Bytes) → byte_order [] (y ∷ b) ≡ less
empty_least y b = beginning_less [] y b

-- a lower byte behind the same bytes is less
pub lower_byte_less : (p : Bytes) (x y : ℕ) (a b : Bytes) → x < y → byte_order (p ++ (x ∷ a)) (p ++ (y ∷ b)) ≡ less
lower_byte_less [] x y a b h = lower_less x y a b h
lower_byte_less (z ∷ p) x y a b h = alike_behind z z (p ++ (x ∷ a)) (p ++ (y ∷ b)) refl ∙ lower_byte_less p x y a b h

-- no order is another
less_not_equal : less ≡ equal → ⊥
less_not_equal e = let z : ◌≡◌ {A = ℕ} 0 1 = cc in omega arith

greater_not_equal : greater ≡ equal → ⊥
greater_not_equal e = let z : ◌≡◌ {A = ℕ} 0 1 = cc in omega arith

less_not_greater : less ≡ greater → ⊥
less_not_greater e = let z : ◌≡◌ {A = ℕ} 0 1 = cc in omega arith

-- equal means the same bytes
pub equal_itself : (a : Bytes) → byte_order a a ≡ equal
unfolding byte_order
equal_itself [] = refl
equal_itself (x ∷ a) = alike_behind x x a a refl ∙ equal_itself a

pub equal_same_bytes : (a b : Bytes) → byte_order a b ≡ equal → a ≡ b
unfolding byte_order
equal_same_bytes [] [] e = refl
equal_same_bytes [] (y ∷ b) e = absurd (less_not_equal e)
equal_same_bytes (x ∷ a) [] e = absurd (greater_not_equal e)
equal_same_bytes (x ∷ a) (y ∷ b) e = ⊎_elim (λ h. absurd (less_not_equal (sym (lower_less x y a b h) ∙ e)))
    (⊎_elim (λ h. let p = equal_same_bytes a b (sym (alike_behind x y a b h) ∙ e) in cc)
    (λ h. absurd (greater_not_equal (sym (higher_greater x y a b h) ∙ e))))
    (three x y)

-- a byte in front of both
before_with : (x y : ℕ) (a b : Bytes) → x ≡ y → ComesBefore a b → ComesBefore (x ∷ a) (y ∷ b)
before_with x y a b h (inl s) = inl (record { byte = s.byte; rest = s.rest; is = let p = s.is in cc })
before_with x y a b h (inr s) = inr (record {
  front = x ∷ s.front;
  low = s.low;
  high = s.high;
  behind_low = s.behind_low;
  behind_high = s.behind_high;
  first = let p = s.first in cc;
  second = let p = s.second in cc;
  lower = s.lower;
})

-- what is less comes before, by a proper beginning or by a lower byte
less_before : (a b : Bytes) → byte_order a b ≡ less → ComesBefore a b
unfolding byte_order
less_before [] [] e = absurd (less_not_equal (sym e))
less_before [] (y ∷ b) e = inl (record { byte = y; rest = b; is = refl })
less_before (x ∷ a) [] e = absurd (less_not_greater (sym e))
less_before (x ∷ a) (y ∷ b) e = ⊎_elim
    (λ h. inr (record { front = []; low = x; high = y; behind_low = a; behind_high = b; first = refl; second = refl; lower = h }))
    (⊎_elim (λ h. before_with x y a b h (less_before a b (sym (alike_behind x y a b h) ∙ e)))
    (λ h. absurd (less_not_greater (sym e ∙ higher_greater x y a b h))))
    (three x y)

-- less is exactly: a proper beginning, or a lower byte where they first differ
pub less_exactly : (a b : Bytes) → (byte_order a b ≡ less) ↔ ComesBefore a b
less_exactly a b = (
  less_before a b,
  ⊎_elim (λ s. rw s.is (beginning_less a s.byte s.rest))
      (λ s. rw (s.first, s.second) (lower_byte_less s.front s.low s.high s.behind_low s.behind_high s.lower)),
)

-- the other way round
abbrev turned : Order → Order
turned less = greater
turned equal = equal
turned greater = less

other_way : (a b : Bytes) → byte_order b a ≡ turned (byte_order a b)
unfolding byte_order
other_way [] [] = refl
other_way [] (y ∷ b) = refl
other_way (x ∷ a) [] = refl
other_way (x ∷ a) (y ∷ b) = ⊎_elim (λ h. higher_greater y x b a h ∙ sym (ap turned (lower_less x y a b h)))
    (⊎_elim (λ h. alike_behind y x b a (sym h) ∙ other_way a b ∙ sym (ap turned (alike_behind x y a b h)))
    (λ h. lower_less y x b a h ∙ sym (ap turned (higher_greater x y a b h))))
    (three x y)

-- of two texts exactly one holds, and the order says which: the first comes before, they are the same bytes, the second comes before
pub exactly_one : (a b : Bytes) → Tells (byte_order a b) (ComesBefore a b) (a ≡ b) (ComesBefore b a)
exactly_one a b = go (byte_order a b) refl
  where
    before : {o : Order} → byte_order a b ≡ o → ComesBefore a b → o ≡ less
    before e s = sym e ∙ (less_exactly a b).1 s

    alike : {o : Order} → byte_order a b ≡ o → a ≡ b → o ≡ equal
    alike e s = sym e ∙ rw s (equal_itself b)

    after : {o : Order} → byte_order a b ≡ o → ComesBefore b a → o ≡ greater
    after e s = sym e ∙ other_way b a ∙ ap turned ((less_exactly b a).1 s)

    go : (o : Order) → byte_order a b ≡ o → Tells o (ComesBefore a b) (a ≡ b) (ComesBefore b a)
    go less e = ((less_exactly a b).0 e, λ s. less_not_equal (alike e s), λ s. less_not_greater (after e s))
    go equal e = (λ s. less_not_equal (sym (before e s)), equal_same_bytes a b e, λ s. greater_not_equal (sym (after e s)))
    go greater e =
        (λ s. less_not_greater (sym (before e s)), λ s. greater_not_equal (alike e s), (less_exactly b a).0 (other_way a b ∙ ap turned e))

-- what is less by two texts with a first byte
less_firsts : (x y : ℕ) (a b : Bytes) → byte_order (x ∷ a) (y ∷ b) ≡ less → (x < y) ⊎ ((x ≡ y) × (byte_order a b ≡ less))
less_firsts x y a b e = ⊎_elim inl
    (⊎_elim (λ h. inr (h, sym (alike_behind x y a b h) ∙ e)) (λ h. absurd (less_not_greater (sym e ∙ higher_greater x y a b h)))) (three x y)

-- what is less than a text that is less than a third is less than the third
pub transitive : (a b c : Bytes) → byte_order a b ≡ less → byte_order b c ≡ less → byte_order a c ≡ less
unfolding byte_order
transitive a [] [] p q = absurd (less_not_equal (sym q))
transitive a (y ∷ b) [] p q = absurd (less_not_greater (sym q))
transitive [] b (z ∷ c) p q = refl
transitive (x ∷ a) [] (z ∷ c) p q = absurd (less_not_greater (sym p))
transitive (x ∷ a) (y ∷ b) (z ∷ c) p q = ⊎_elim
    (λ h. ⊎_elim (λ k. lower_less x z a c (omega (arith, h, k))) (λ k. lower_less x z a c (omega (arith, h, k.0))) (less_firsts y z b c q))
    (λ h. ⊎_elim (λ k. lower_less x z a c (omega (arith, h.0, k)))
    (λ k. alike_behind x z a c (h.0 ∙ k.0) ∙ transitive a b c h.1 k.1) (less_firsts y z b c q))
    (less_firsts x y a b p)
