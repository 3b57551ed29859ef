-- Laws of whole numbers.
use Prim.Native.Nat.{ℕ, ◌+◌, ◌-◌, ◌*◌, ◌^◌, ◌≤◌, ◌<◌}
use mathlib.Core.Path.{◌≡◌, refl, ap}
use mathlib.Core.Logic.{⊎_elim}
use mathlib.Core.List.{[], ◌∷◌}
use mathlib.Core.Bool.{Bool, true, false, ◌&&◌}
use native.Mathlib.Omega.{arith}
use lib.ListN.{length, get_or, drop}
use lib.Dec.{leb}
use borrow.Author.Tests.{le-leb, lt-leb, leb-true, leb-false, ne_eqb}
use Rattle.std.specs.Prelude.{Option, Some, None}
use Rattle.model.specs.Bytes.{Bytes}
use Rattle.model.specs.Choice.{pick, Maybe, nothing, just}
use Rattle.model.specs.Lists.{is_nil}
use Rattle.model.specs.Words.{Got, run, is_digit, between, biased, decimal, plain_digits, is_whole, digits_at, whole_at}
use Rattle.text.specs.Places.{peek_at, past, number_of, digits_of, whole_to}
use Rattle.text.proofs.PlaceLaws.{below_or_not, drop_peek, drop_end, peek_end, get_or_any, test_in, past_step}

and_left : (t u : Bool) → (t && u) ≡ true → t ≡ true
and_left true u h = refl
and_left false u h = h

and_right : (t u : Bool) → (t && u) ≡ true → u ≡ true
and_right true u h = h
and_right false true h = refl
and_right false false h = h

-- what a digit at a place says
pub record DigitAt (s : Bytes) (i : ℕ) : Type 0 where
  pub inside : i < length s
  pub low : 48 ≤ get_or s i 0
  pub high : get_or s i 0 ≤ 57
  pub onward : past is_digit s i ≡ past is_digit s (i + 1)

module _ (s : Bytes) (i : ℕ) (h : is_digit (peek_at s i) ≡ true) where
  pub digit_at : DigitAt s i
  unfolding is_digit between
  digit_at =
      let l : i < length s = test_in is_digit s i refl h in
      let e : get_or s i 0 ≡ peek_at s i = get_or_any s i 0 256 l in
      let a : 48 ≤ peek_at s i = leb-true 48 (peek_at s i) (and_left _ _ h) in
      let b : peek_at s i ≤ 57 = leb-true (peek_at s i) 57 (and_right (leb 48 (peek_at s i)) _ h) in
      record { inside = l; low = omega arith; high = omega arith; onward = past_step is_digit s i refl h }

  pub decimal_step : (v : ℕ) → decimal v (run is_digit (drop i s)) ≡ decimal (v * 10 + (get_or s i 0 - 48)) (run is_digit (drop (i + 1) s))
  unfolding decimal run
  decimal_step v =
      let e : peek_at s i ≡ get_or s i 0 = get_or_any s i 256 0 digit_at.inside in
      rw (drop_peek s i digit_at.inside, h, e)

-- no digit at a place: the run is empty
pub no_digit : (s : Bytes) (i : ℕ) → is_digit (peek_at s i) ≡ false → run is_digit (drop i s) ≡ []
unfolding run
no_digit s i h = ⊎_elim (λ l. rw (drop_peek s i l, h)) (λ g. rw (drop_end s i g)) (below_or_not i (length s))

-- the number never falls as digits are read
pub decimal_least : (v : ℕ) (ds : Bytes) → v ≤ decimal v ds
unfolding decimal
decimal_least v [] = omega arith
decimal_least v (d ∷ ds) = omega (arith, decimal_least (v * 10 + (d - 48)) ds)

module _ (s : Bytes) (from : ℕ) where
  pub digits_large : 2 ^ 63 < decimal 0 (run is_digit (drop from s)) → None ≡ digits_of s from
  unfolding digits_of
  digits_large h = rw (lt-leb (decimal 0 (run is_digit (drop from s))) (2 ^ 63) h)

  pub digits_value : (v q : ℕ) → v ≡ decimal 0 (run is_digit (drop from s)) → q ≡ past is_digit s from → v ≤ 2 ^ 63 → Some (v, q) ≡ digits_of s from
  unfolding digits_of past
  digits_value v q e w h = rw (← e, ← w, le-leb v (2 ^ 63) h)

-- what digits say that write v and end at q
pub record Told (s : Bytes) (from v q : ℕ) : Type 0 where
  pub value : v ≡ decimal 0 (run is_digit (drop from s))
  pub end : q ≡ from + length (run is_digit (drop from s))
  pub small : v ≤ 2 ^ 63

module _ (s : Bytes) (from : ℕ) where
  pub told : (v q : ℕ) → digits_of s from ≡ Some (v, q) → Told s from v q
  unfolding digits_of
  told v q e = go (leb (decimal 0 (run is_digit (drop from s))) (2 ^ 63)) refl e
    where
      go : (x : Bool) → leb (decimal 0 (run is_digit (drop from s))) (2 ^ 63) ≡ x
          → pick {A = Option (ℕ × ℕ)} x (Some (decimal 0 (run is_digit (drop from s)), from + length (run is_digit (drop from s)))) None ≡ Some (v, q) → Told s from v q
      go true h e =
          let p : ◌≡◌ {A = ℕ × ℕ} (v, q) (decimal 0 (run is_digit (drop from s)), from + length (run is_digit (drop from s))) = cc in
          let a : v ≡ decimal 0 (run is_digit (drop from s)) = ap (λ (z : ℕ × ℕ). z.0) p in
          record {
            value = a;
            end = ap (λ (z : ℕ × ℕ). z.1) p;
            small = omega (arith, leb-true (decimal 0 (run is_digit (drop from s))) (2 ^ 63) h);
          }
      go false h e = let z : ◌≡◌ {A = ℕ} 0 1 = cc in absurd (omega arith)

  pub untold : digits_of s from ≡ None → 2 ^ 63 < decimal 0 (run is_digit (drop from s))
  unfolding digits_of
  untold e = go (leb (decimal 0 (run is_digit (drop from s))) (2 ^ 63)) refl e
    where
      go : (x : Bool) → leb (decimal 0 (run is_digit (drop from s))) (2 ^ 63) ≡ x
          → pick {A = Option (ℕ × ℕ)} x (Some (decimal 0 (run is_digit (drop from s)), from + length (run is_digit (drop from s)))) None ≡ None
          → 2 ^ 63 < decimal 0 (run is_digit (drop from s))
      go true h e = let z : ◌≡◌ {A = ℕ} 0 1 = cc in absurd (omega arith)
      go false h e = leb-false (decimal 0 (run is_digit (drop from s))) (2 ^ 63) h

-- which digits write a whole number
and_false : (t u : Bool) → u ≡ false → (t && u) ≡ false
and_false true u h = h
and_false false u h = refl

pub large_not_whole : (m : Bool) (ds : Bytes) → 2 ^ 63 < decimal 0 ds → is_whole m ds ≡ false
unfolding is_whole
large_not_whole true ds h = and_false (plain_digits true ds) _ (lt-leb (decimal 0 ds) (2 ^ 63) h)
large_not_whole false ds h = and_false (plain_digits false ds) _ (lt-leb (decimal 0 ds) (2 ^ 63 - 1) (omega arith))

pub none_not_whole : (m : Bool) (ds : Bytes) → length ds ≡ 0 → is_whole m ds ≡ false
unfolding is_whole plain_digits
none_not_whole m [] h = refl
none_not_whole m (d ∷ ds) h = absurd (omega arith)

-- 0 alone
pub zero_whole : (ds : Bytes) → get_or ds 0 256 ≡ 48 → length ds ≡ 1 → is_whole false ds ≡ true
unfolding is_whole plain_digits decimal is_nil
zero_whole [] e h = absurd (omega arith)
zero_whole (d ∷ []) e h = rw e
zero_whole (d ∷ (c ∷ ds)) e h = absurd (omega arith)

pub zero_value : (ds : Bytes) → get_or ds 0 256 ≡ 48 → length ds ≡ 1 → decimal 0 ds ≡ 0
unfolding decimal
zero_value [] e h = absurd (omega arith)
zero_value (d ∷ []) e h = rw e
zero_value (d ∷ (c ∷ ds)) e h = absurd (omega arith)

-- a leading 0
pub zeros_not_whole : (ds : Bytes) → get_or ds 0 256 ≡ 48 → (length ds ≡ 1 → ⊥) → is_whole false ds ≡ false
unfolding is_whole plain_digits is_nil
zeros_not_whole [] e h = refl
zeros_not_whole (d ∷ []) e h = absurd (h refl)
zeros_not_whole (d ∷ (c ∷ ds)) e h = rw e

pub minus_zero_not_whole : (ds : Bytes) → get_or ds 0 256 ≡ 48 → is_whole true ds ≡ false
unfolding is_whole plain_digits
minus_zero_not_whole [] e = refl
minus_zero_not_whole (d ∷ ds) e = rw e (go (is_nil ds))
  where
    go : (x : Bool) → (x && false && leb (decimal 0 (48 ∷ ds)) (2 ^ 63)) ≡ false
    go true = refl
    go false = refl

-- no leading 0: the size decides
pub whole_by_size : (m : Bool) (ds : Bytes) → (get_or ds 0 256 ≡ 48 → ⊥) → 0 < length ds → is_whole m ds ≡ leb (decimal 0 ds) (pick m (2 ^ 63) (2 ^ 63 - 1))
unfolding is_whole plain_digits
whole_by_size m [] n h = absurd (omega arith)
whole_by_size m (d ∷ ds) n h = rw (ne_eqb d 48 n)

-- from digits to the answer
module _ (m : Bool) (s : Bytes) (at from : ℕ) where
  pub not_number : is_whole m (run is_digit (drop from s)) ≡ false → None ≡ number_of at (digits_at m (drop from s))
  unfolding number_of digits_at
  not_number h = rw h

  pub is_number : (n q : ℕ) → is_whole m (run is_digit (drop from s)) ≡ true → n ≡ biased m (decimal 0 (run is_digit (drop from s)))
      → q ≡ at + (length (run is_digit (drop from s)) + pick m 1 0) → Some (n, q) ≡ number_of at (digits_at m (drop from s))
  unfolding number_of digits_at
  is_number n q h e w = rw h (rw (e, w))

-- a minus decides
module _ (s : Bytes) (at : ℕ) where
  pub whole_minus : peek_at s at ≡ 45 → number_of at (digits_at true (drop (at + 1) s)) ≡ number_of at (whole_at (drop at s))
  unfolding whole_at
  whole_minus h =
      let l : at < length s = ⊎_elim (λ l. l) (λ g. omega (arith, peek_end s at g)) (below_or_not at (length s)) in
      rw (drop_peek s at l, h)

  pub whole_plain : (peek_at s at ≡ 45 → ⊥) → number_of at (digits_at false (drop at s)) ≡ number_of at (whole_at (drop at s))
  unfolding whole_at digits_at is_whole plain_digits run
  whole_plain n =
      ⊎_elim (λ l. rw (drop_peek s at l, ne_eqb (peek_at s at) 45 n))
      (λ g. rw (drop_end s at g)) (below_or_not at (length s))

-- the number that an answer tells of
pub whole_read : (s : Bytes) (at : ℕ) → whole_at (drop at s) ≡ whole_to at (number_of at (whole_at (drop at s)))
unfolding whole_to number_of
whole_read s at = go (whole_at (drop at s))
  where
    go : (o : Maybe (Got ℕ)) → o ≡ whole_to at (number_of at o)
    go nothing = refl
    go (just g) = let e : at + g.size - at ≡ g.size = omega arith in rw e
