-- Laws of lines, and of the bytes that are allowed.
use Prim.Native.Nat.{ℕ, suc, ◌+◌, ◌-◌, ◌≤◌, ◌<◌}
use mathlib.Core.Path.{◌≡◌, refl, sym, ap, ◌∙◌}
use mathlib.Core.Logic.{⊎_elim}
use mathlib.Core.List.{List, [], ◌∷◌}
use mathlib.Core.Bool.{Bool, true, false, not, ◌||◌}
use native.Mathlib.Omega.{arith}
use lib.ListN.{length, get_or, drop, length-drop}
use lib.Seq.{drop-drop}
use lib.Dec.{leb, ltb, eqb}
use borrow.Author.Tests.{lt-ltb, le-ltb, le-leb, lt-leb, eqb-true}
use Rattle.model.specs.Bytes.{Bytes}
use Rattle.model.specs.Choice.{pick, Maybe, nothing, just}
use Rattle.model.specs.Lists.{any}
use Rattle.model.specs.Words.{run}
use Rattle.model.specs.Answers.{part_of}
use Rattle.model.specs.Refusal.{Outcome, refusal}
use Rattle.model.specs.Lines.{is_allowed, bad_line, Line, add_byte, lines_of, refused_at, bytes_first}
use Rattle.std.specs.Prelude.{Err}
use Rattle.text.specs.declared.BytesFault.TheVariants.{TooLong}
use Rattle.text.specs.Places.{peek_at, past, is_other}
use Rattle.text.specs.Lines.{is_bad, is_in_line, feed_count, on_line, bytes_of, on_bytes}
use Rattle.text.proofs.PlaceLaws.{below_or_not, drop_at, drop_end, peek_drop, get_or_any, past_part, past_within, past_stops}

-- whether some byte is bad, byte by byte
module _ (s : Bytes) (i : ℕ) where
  pub any_step : i < length s → (x : Bool) → (x || any is_bad (drop i s)) ≡ ((x || is_bad (get_or s i 0)) || any is_bad (drop (i + 1) s))
  unfolding any
  any_step l x = rw (drop_at s i l) (go x (is_bad (get_or s i 0)))
    where
      go : (x y : Bool) → (x || pick y true (any is_bad (drop (i + 1) s))) ≡ ((x || y) || any is_bad (drop (i + 1) s))
      go true y = refl
      go false true = refl
      go false false = refl

  pub any_end : length s ≤ i → (x : Bool) → (x || any is_bad (drop i s)) ≡ x
  unfolding any
  any_end h x = rw (drop_end s i h) (go x)
    where
      go : (x : Bool) → (x || false) ≡ x
      go true = refl
      go false = refl

  pub bad_here : i < length s → (n : ℕ) → is_bad (get_or s i 0) ≡ true → bad_line n (drop i s) ≡ just n
  unfolding bad_line is_bad
  bad_here l n h = rw (drop_at s i l) (go (is_allowed (get_or s i 0)) h)
    where
      go : (x : Bool) → not x ≡ true → pick x (bad_line (n + pick (eqb (get_or s i 0) 10) 1 0) (drop (i + 1) s)) (just n) ≡ just n
      go true h = let z : ◌≡◌ {A = ℕ} 0 1 = cc in absurd (omega arith)
      go false h = refl

  pub bad_onward : i < length s → (n : ℕ) → is_bad (get_or s i 0) ≡ false → bad_line n (drop i s) ≡ bad_line (n + feed_count (get_or s i 0)) (drop (i + 1) s)
  unfolding bad_line is_bad feed_count
  bad_onward l n h = rw (drop_at s i l) (go (is_allowed (get_or s i 0)) h)
    where
      go : (x : Bool) → not x ≡ false → pick x (bad_line (n + pick (eqb (get_or s i 0) 10) 1 0) (drop (i + 1) s)) (just n)
          ≡ bad_line (n + pick (eqb (get_or s i 0) 10) 1 0) (drop (i + 1) s)
      go true h = refl
      go false h = let z : ◌≡◌ {A = ℕ} 0 1 = cc in absurd (omega arith)

  pub bad_none : length s ≤ i → (n : ℕ) → bad_line n (drop i s) ≡ nothing
  unfolding bad_line
  bad_none h n = rw (drop_end s i h)

-- no bad byte, no line
pub none_bad : (n : ℕ) (s : Bytes) → any is_bad s ≡ false → bad_line n s ≡ nothing
unfolding bad_line any is_bad
none_bad n [] h = refl
none_bad n (b ∷ s) h = go (is_allowed b) h (none_bad (n + pick (eqb b 10) 1 0) s)
  where
    go : (x : Bool) → pick (not x) true (any is_bad s) ≡ false → (any is_bad s ≡ false → bad_line (n + pick (eqb b 10) 1 0) s ≡ nothing)
        → pick x (bad_line (n + pick (eqb b 10) 1 0) s) (just n) ≡ nothing
    go true h r = r h
    go false h r = let z : ◌≡◌ {A = ℕ} 0 1 = cc in absurd (omega arith)

-- the line is at most the count of bytes
pub bad_line_small : (n l : ℕ) (s : Bytes) → bad_line n s ≡ just l → l < n + length s
unfolding bad_line
bad_line_small n l [] e = let z : ◌≡◌ {A = ℕ} 0 1 = cc in absurd (omega arith)
bad_line_small n l (b ∷ s) e = go (is_allowed b) (eqb b 10) e (λ m. bad_line_small (n + m) l s)
  where
    go : (x y : Bool) → pick x (bad_line (n + pick y 1 0) s) (just n) ≡ just l → ((m : ℕ) → bad_line (n + m) s ≡ just l → l < n + m + length s)
        → l < n + suc (length s)
    go true true e r = omega (arith, r 1 e)
    go true false e r = omega (arith, r 0 e)
    go false y e r = let w : n ≡ l = cc in omega arith

-- refusals 1 and 2 by the code's answer
pub bytes_first_law : {A : Type 0} (t limit : ℕ) (line : ℕ → ℕ) (s : Bytes) (o : Outcome A) → bytes_first t limit line s o ≡ on_bytes (bytes_of limit s) t line o
unfolding bytes_first bytes_of on_bytes refused_at on_line
bytes_first_law t limit line s o = go (ltb limit (length s)) (bad_line 1 s)
  where
    go : (x : Bool) (m : Maybe ℕ) → pick x (refusal 1 t 0) (refused_at m t line o) ≡ on_bytes (pick x (Err TooLong) (on_line m)) t line o
    go true m = refl
    go false nothing = refl
    go false (just l) = refl

not_false : (x : Bool) → not x ≡ false → x ≡ true
not_false true h = refl
not_false false h = sym h

-- the first line of a text, up to its line feed
ended_line : (t : Bytes) → get_or t (length (run is_in_line t)) 256 ≡ 10
    → lines_of t ≡ record { bytes = run is_in_line t; ended = true } ∷ lines_of (drop (suc (length (run is_in_line t))) t)
unfolding lines_of run is_other add_byte
ended_line [] h = absurd (omega arith)
ended_line (b ∷ t) h = go (eqb b 10) h (ended_line t)
  where
    r : Bytes
    r = run is_in_line t

    go : (x : Bool) → get_or (b ∷ t) (length (pick (not x) (b ∷ r) [])) 256 ≡ 10
        → (get_or t (length r) 256 ≡ 10 → lines_of t ≡ record { bytes = r; ended = true } ∷ lines_of (drop (suc (length r)) t))
        → pick x (record { bytes = []; ended = true } ∷ lines_of t) (add_byte b (lines_of t))
        ≡ record { bytes = pick (not x) (b ∷ r) []; ended = true } ∷ lines_of (drop (suc (length (pick (not x) (b ∷ r) []))) (b ∷ t))
    go true h f = refl
    go false h f = rw (f h)

-- a last line without a line feed
last_line : (b : ℕ) (t : Bytes) → length (run is_in_line (b ∷ t)) ≡ suc (length t) → lines_of (b ∷ t) ≡ record { bytes = run is_in_line (b ∷ t); ended = false } ∷ []
unfolding lines_of run is_other add_byte
last_line b [] h = go (eqb b 10) h
  where
    go : (x : Bool) → length (pick {A = Bytes} (not x) (b ∷ []) []) ≡ 1
        → pick {A = List Line} x (record { bytes = []; ended = true } ∷ []) (record { bytes = b ∷ []; ended = false } ∷ [])
        ≡ record { bytes = pick (not x) (b ∷ []) []; ended = false } ∷ []
    go true h = absurd (omega arith)
    go false h = refl
last_line b (c ∷ t) h = go (eqb b 10) h (last_line c t)
  where
    r : Bytes
    r = run is_in_line (c ∷ t)

    go : (x : Bool) → length (pick (not x) (b ∷ r) []) ≡ suc (suc (length t))
        → (length r ≡ suc (length t) → lines_of (c ∷ t) ≡ record { bytes = r; ended = false } ∷ [])
        → pick x (record { bytes = []; ended = true } ∷ lines_of (c ∷ t)) (add_byte b (lines_of (c ∷ t)))
        ≡ record { bytes = pick (not x) (b ∷ r) []; ended = false } ∷ []
    go true h f = absurd (omega arith)
    go false h f = rw (f (omega arith))

-- the lines from a place on, by the place of the next line feed
module _ (s : Bytes) (i : ℕ) where
  pub lines_none : length s ≤ i → lines_of (drop i s) ≡ []
  unfolding lines_of
  lines_none h = rw (drop_end s i h)

  module _ (q : ℕ) (e : q ≡ past is_in_line s i) where
    pub lines_ended : q < length s → lines_of (drop i s) ≡ record { bytes = part_of s i (q - i); ended = true } ∷ lines_of (drop (q + 1) s)
    unfolding past is_other
    lines_ended l =
        let n : ℕ = length (run is_in_line (drop i s)) in
        let f : get_or s q 0 ≡ 10 = rw e (eqb-true (get_or s (past is_in_line s i) 0) 10 (not_false _ (past_stops is_in_line s i (omega arith)))) in
        let h : get_or (drop i s) n 256 ≡ 10 = peek_drop s i n ∙ ap (peek_at s) (sym e) ∙ get_or_any s q 256 0 l ∙ f in
        let a : run is_in_line (drop i s) ≡ part_of s i (q - i) = sym (past_part is_in_line s i) ∙ ap (λ (x : ℕ). part_of s i (x - i)) (sym e) in
        let k : i + suc n ≡ q + 1 = omega arith in
        let b : drop (suc n) (drop i s) ≡ drop (q + 1) s = drop-drop (suc n) i s ∙ ap (λ (m : ℕ). drop m s) k in
        ended_line (drop i s) h ∙ cc

    pub lines_last : i < length s → length s ≤ q → lines_of (drop i s) ≡ record { bytes = part_of s i (q - i); ended = false } ∷ []
    unfolding past
    lines_last l g =
        let a : run is_in_line (drop i s) ≡ part_of s i (q - i) = sym (past_part is_in_line s i) ∙ ap (λ (x : ℕ). part_of s i (x - i)) (sym e) in
        let d : drop i s ≡ get_or s i 0 ∷ drop (i + 1) s = drop_at s i l in
        let n : length (run is_in_line (get_or s i 0 ∷ drop (i + 1) s)) ≡ suc (length (drop (i + 1) s)) = rw (← d)
        (omega (arith, past_within is_in_line s i (omega arith), length-drop (i + 1) s)) in
        ap lines_of d ∙ last_line (get_or s i 0) (drop (i + 1) s) n ∙ rw (← d, a)

pub feed_count_small : (b : ℕ) → feed_count b ≤ 1
unfolding feed_count
feed_count_small b = go (eqb b 10)
  where
    go : (x : Bool) → pick x 1 0 ≤ 1
    go true = omega arith
    go false = omega arith

-- a byte above is not at most
pub over : (b n : ℕ) → ltb n b ≡ not (leb b n || false)
over b n = ⊎_elim (λ l. rw (lt-ltb n b l, lt-leb b n l)) (λ g. rw (le-ltb n b g, le-leb b n g)) (below_or_not n b)
