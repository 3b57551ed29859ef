-- Laws of places: the byte at a place, the text from a place on, and where a run of bytes ends.
use Prim.Native.Nat.{ℕ, zero, suc, ◌+◌, ◌-◌, ◌≤◌, ◌<◌}
use mathlib.Core.Path.{◌≡◌, refl, sym, ap, ◌∙◌}
use mathlib.Core.Logic.{⊎_elim}
use mathlib.Core.List.{[], ◌∷◌}
use mathlib.Core.Bool.{Bool, true, false, not}
use native.Mathlib.Numerals.{add-one}
use native.Mathlib.Omega.{arith}
use lib.ListN.{length, get_or, take, drop, drop_of_length-le, get_or-eq_default, length-drop}
use lib.Seq.{drop-cons, drop-drop, get_or-drop, take-nil, take-take, length-take-le}
use lib.Dec.{eqb}
pub use Rattle.logic.specs.Tests.{below_or_not}
pub use Rattle.logic.specs.Lists.{drop_at, drop_end}
use Rattle.logic.specs.Flags.{neither}
use Rattle.model.specs.Bytes.{Bytes}
use Rattle.model.specs.Choice.{pick}
use Rattle.model.specs.Words.{run}
use Rattle.model.specs.Answers.{part_of}
use Rattle.text.specs.Places.{peek_at, past, is_other, has_near}

pub peek_end : (s : Bytes) (i : ℕ) → length s ≤ i → peek_at s i ≡ 256
peek_end s i h = get_or-eq_default s 256 h

pub peek_in : (s : Bytes) (i : ℕ) → peek_at s i < 256 → i < length s
peek_in s i h = ⊎_elim (λ l. l) (λ g. omega (arith, peek_end s i g)) (below_or_not i (length s))

-- the default of an index within the list does not matter
pub get_or_any : (s : Bytes) (i d e : ℕ) → i < length s → get_or s i d ≡ get_or s i e
get_or_any [] i d e h = omega arith
get_or_any (b ∷ s) zero d e h = refl
get_or_any (b ∷ s) (suc i) d e h = get_or_any s i d e (omega arith)

-- the text from a place on is its byte and what follows
pub drop_peek : (s : Bytes) (i : ℕ) → i < length s → drop i s ≡ peek_at s i ∷ drop (i + 1) s
drop_peek s i h = rw add-one (drop-cons s i 256 h)

pub run_length : (p : ℕ → Bool) (t : Bytes) → length (run p t) ≤ length t
unfolding run
run_length p [] = omega arith
run_length p (b ∷ t) = go (p b) (run_length p t)
  where
    go : (x : Bool) → length (run p t) ≤ length t → length (pick x (b ∷ run p t) []) ≤ suc (length t)
    go true h = omega arith
    go false h = omega arith

-- the byte behind a run fails the test
pub run_stops : (p : ℕ → Bool) (t : Bytes) → p 256 ≡ false → p (get_or t (length (run p t)) 256) ≡ false
unfolding run
run_stops p [] e = e
run_stops p (b ∷ t) e = go (p b) refl (run_stops p t e)
  where
    go : (x : Bool) → p b ≡ x → p (get_or t (length (run p t)) 256) ≡ false → p (get_or (b ∷ t) (length (pick x (b ∷ run p t) [])) 256) ≡ false
    go true h r = r
    go false h r = h

run_stops_in : (p : ℕ → Bool) (t : Bytes) → length (run p t) < length t → p (get_or t (length (run p t)) 0) ≡ false
unfolding run
run_stops_in p [] l = absurd (omega arith)
run_stops_in p (b ∷ t) l = go (p b) refl l (run_stops_in p t)
  where
    go : (x : Bool) → p b ≡ x → length (pick x (b ∷ run p t) []) < suc (length t) → (length (run p t) < length t → p (get_or t (length (run p t)) 0) ≡ false)
        → p (get_or (b ∷ t) (length (pick x (b ∷ run p t) [])) 0) ≡ false
    go true h l r = r (omega arith)
    go false h l r = h

pub run_take : (p : ℕ → Bool) (t : Bytes) → take (length (run p t)) t ≡ run p t
unfolding run
run_take p [] = refl
run_take p (b ∷ t) = go (p b) (run_take p t)
  where
    go : (x : Bool) → take (length (run p t)) t ≡ run p t → take (length (pick x (b ∷ run p t) [])) (b ∷ t) ≡ pick x (b ∷ run p t) []
    go true r = ap (λ (l : Bytes). b ∷ l) r
    go false r = refl

pub peek_drop : (s : Bytes) (i k : ℕ) → get_or (drop i s) k 256 ≡ peek_at s (i + k)
peek_drop s i k = rw get_or-drop

run_first : (p : ℕ → Bool) (t : Bytes) → 0 < length (run p t) → get_or (run p t) 0 256 ≡ get_or t 0 256
unfolding run
run_first p [] h = refl
run_first p (b ∷ t) h = go (p b) h
  where
    go : (x : Bool) → 0 < length (pick x (b ∷ run p t) []) → get_or (pick x (b ∷ run p t) []) 0 256 ≡ b
    go true h = refl
    go false h = absurd (omega arith)

module _ (p : ℕ → Bool) (s : Bytes) (i : ℕ) where
  -- a byte that passes a test which the end fails
  pub test_in : p 256 ≡ false → p (peek_at s i) ≡ true → i < length s
  test_in e t =
      ⊎_elim (λ l. l) (λ g. let z : ◌≡◌ {A = ℕ} 0 1 = cc (ap p (peek_end s i g)) in omega arith) (below_or_not i (length s))

  pub past_step : p 256 ≡ false → p (peek_at s i) ≡ true → past p s i ≡ past p s (i + 1)
  unfolding past run
  past_step e t = rw (drop-cons s i 256 (test_in e t), t, add-one i) (omega arith)

  pub past_stop : p (peek_at s i) ≡ false → past p s i ≡ i
  unfolding past run
  past_stop t =
      ⊎_elim (λ l. rw (drop-cons s i 256 l, t) (omega arith)) (λ g. rw (drop_of_length-le s g) (omega arith)) (below_or_not i (length s))

  -- the same for a loop that asks for the end of the text by itself
  pub past_step_in : i < length s → p (get_or s i 0) ≡ true → past p s i ≡ past p s (i + 1)
  unfolding past run
  past_step_in l t = rw (drop-cons s i 0 l, t, add-one i) (omega arith)

  pub past_stop_in : i < length s → p (get_or s i 0) ≡ false → past p s i ≡ i
  unfolding past run
  past_stop_in l t = rw (drop-cons s i 0 l, t) (omega arith)

  pub past_end : length s ≤ i → past p s i ≡ i
  unfolding past run
  past_end g = rw (drop_of_length-le s g) (omega arith)

  -- a run that is not empty begins with the byte at the place
  pub run_head : 0 < length (run p (drop i s)) → get_or (run p (drop i s)) 0 256 ≡ peek_at s i
  run_head h = let e : i + 0 ≡ i = omega arith in run_first p (drop i s) h ∙ peek_drop s i 0 ∙ ap (peek_at s) e

  pub past_on : i ≤ past p s i
  unfolding past
  past_on = omega arith

  pub past_within : i ≤ length s → past p s i ≤ length s
  unfolding past
  past_within h = omega (arith, run_length p (drop i s), length-drop i s)

  pub past_test : p 256 ≡ false → p (peek_at s (past p s i)) ≡ false
  unfolding past
  past_test e = rw (← peek_drop s i (length (run p (drop i s)))) (run_stops p (drop i s) e)

  -- a run is the part of the text up to its end
  pub past_part : part_of s i (past p s i - i) ≡ run p (drop i s)
  unfolding past part_of
  past_part = let e : i + length (run p (drop i s)) - i ≡ length (run p (drop i s)) = omega arith in rw e (run_take p (drop i s))

  pub past_length : past p s i - i ≡ length (run p (drop i s))
  unfolding past
  past_length = omega arith

  pub part_length : length (part_of s i (past p s i - i)) ≡ past p s i - i
  part_length = ap length past_part ∙ sym past_length

  pub run_none : length s ≤ i → length (run p (drop i s)) ≡ 0
  unfolding run
  run_none g = rw (drop_of_length-le s g)

  -- within the text the byte behind a run fails the test
  pub past_stops : past p s i < length s → p (get_or s (past p s i) 0) ≡ false
  unfolding past
  past_stops h = rw (← get_or-drop) (run_stops_in p (drop i s) (omega (arith, length-drop i s)))

-- a run of other bytes goes on over bytes that are not the byte
pub past_none : (s : Bytes) (i byte n : ℕ) → i + n < length s → has_near s i byte n ≡ false → past (is_other byte) s i ≡ past (is_other byte) s (i + suc n)
unfolding is_other
past_none s i byte zero h e = past_step_in (is_other byte) s i (omega arith) (ap not e)
past_none s i byte (suc n) h e =
    let (f, g) = neither (has_near s i byte n) (eqb (get_or s (i + suc n) 0) byte) e in
    let z : i + suc n + 1 ≡ i + suc (suc n) = omega arith in
    past_none s i byte n (omega arith) f ∙ past_step_in (is_other byte) s (i + suc n) h (ap not g) ∙ ap (past (is_other byte) s) z

drop_take : (p n : ℕ) (t : Bytes) → drop p (take n t) ≡ take (n - p) (drop p t)
drop_take zero n t = let e : n ≡ n - 0 = omega arith in ap (λ (m : ℕ). take m t) e
drop_take (suc p) zero t = let e : 0 - suc p ≡ 0 = omega arith in rw e
drop_take (suc p) (suc n) [] = sym (take-nil (suc n - suc p))
drop_take (suc p) (suc n) (b ∷ t) = let e : suc n - suc p ≡ n - p = omega arith in rw e (drop_take p n t)

-- a part of a part is a part of the text
pub part_in_part : (s : Bytes) (a n p m : ℕ) → p + m ≤ n → part_of (part_of s a n) p m ≡ part_of s (a + p) m
unfolding part_of
part_in_part s a n p m h = ap (take m) (drop_take p n (drop a s)) ∙ take-take m (n - p) (drop p (drop a s)) (omega arith) ∙ ap (take m) (drop-drop p a s)

pub part_size : (s : Bytes) (a n : ℕ) → a + n ≤ length s → length (part_of s a n) ≡ n
unfolding part_of
part_size s a n h = length-take-le n (drop a s) (omega (arith, length-drop a s))
