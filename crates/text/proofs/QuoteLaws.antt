-- Laws of text values and policy texts.
use Prim.Native.Nat.{ℕ, ◌+◌, ◌-◌, ◌≤◌, ◌<◌}
use mathlib.Core.Path.{◌≡◌, refl, ap, ◌∙◌}
use mathlib.Core.List.{[], ◌∷◌}
use mathlib.Core.Bool.{Bool, true, false, not, ◌&&◌, ◌||◌}
use native.Mathlib.Omega.{arith}
use lib.ListN.{length, get_or, drop}
use lib.Dec.{leb, eqb}
use borrow.Author.Tests.{le-leb, lt-leb, eq-eqb, ne_eqb}
use Rattle.std.specs.Prelude.{Some, None}
use Rattle.model.specs.Bytes.{Bytes}
use Rattle.model.specs.Choice.{pick, Maybe, nothing, just, and_then}
use Rattle.model.specs.Lists.{any}
use Rattle.model.specs.Words.{Got, run, before, is_text, text_at, quoted_at}
use Rattle.model.specs.Answers.{part_of}
use Rattle.text.specs.Places.{peek_at, past, is_other, is_in_text, is_in_quoted, end_of, text_to}
use Rattle.text.proofs.PlaceLaws.{peek_drop, drop_end, past_part, past_on, part_length}

-- a run that ends at a byte b, or nothing
up_to : (ℕ → Bool) → ℕ → Bytes → Maybe Bytes
up_to p b t = pick (eqb (get_or t (length (run p t)) 256) b) (just (run p t)) nothing

with_front : (b : ℕ) (x : Bool) (r : Bytes) → and_then (pick x (just r) nothing) (λ t. just (b ∷ t)) ≡ pick x (just (b ∷ r)) nothing
unfolding and_then
with_front b true r = refl
with_front b false r = refl

-- the bytes before the first double quote
before_quote : (t : Bytes) → before 34 t ≡ up_to is_in_quoted 34 t
unfolding before up_to run is_other
before_quote [] = refl
before_quote (b ∷ t) = go (eqb b 34) refl (before_quote t)
  where
    go : (x : Bool) → eqb b 34 ≡ x → before 34 t ≡ pick (eqb (get_or t (length (run is_in_quoted t)) 256) 34) (just (run is_in_quoted t)) nothing
        → pick x (just []) (and_then (before 34 t) (λ u. just (b ∷ u)))
        ≡ pick (eqb (get_or (b ∷ t) (length (pick (not x) (b ∷ run is_in_quoted t) [])) 256) 34) (just (pick (not x) (b ∷ run is_in_quoted t) [])) nothing
    go true e r = rw e
    go false e r = rw r (with_front b (eqb (get_or t (length (run is_in_quoted t)) 256) 34) (run is_in_quoted t))

bad : ℕ → Bool
bad b = eqb b 34 || eqb b 10

-- the bytes before the first apostrophe, if none of them is bad
clean : Maybe Bytes → Maybe Bytes
clean o = and_then o (λ t. pick (not (any bad t)) (just t) nothing)

clean_bad : (b : ℕ) (o : Maybe Bytes) → bad b ≡ true → clean (and_then o (λ u. just (b ∷ u))) ≡ nothing
unfolding clean and_then any
clean_bad b nothing h = refl
clean_bad b (just u) h = rw h

clean_good : (b : ℕ) (o : Maybe Bytes) → bad b ≡ false → clean (and_then o (λ u. just (b ∷ u))) ≡ and_then (clean o) (λ u. just (b ∷ u))
unfolding clean and_then any
clean_good b nothing h = refl
clean_good b (just u) h = rw h (go (not (any bad u)))
  where
    go : (x : Bool) → pick x (just (b ∷ u)) nothing ≡ and_then (pick x (just u) nothing) (λ u. just (b ∷ u))
    go true = refl
    go false = refl

clean_text : (t : Bytes) → clean (before 39 t) ≡ up_to is_in_text 39 t
unfolding before up_to run is_in_text clean any bad and_then
clean_text [] = refl
clean_text (b ∷ t) = go (eqb b 39) (bad b) refl refl (clean_text t)
  where
    r : Bytes
    r = run is_in_text t

    at : Bytes → ℕ
    at u = get_or (b ∷ t) (length u) 256

    here : Bool → Bool → Bytes
    here x y = pick (not x && not y) (b ∷ r) []

    go : (x y : Bool) → eqb b 39 ≡ x → bad b ≡ y → clean (before 39 t) ≡ pick (eqb (get_or t (length r) 256) 39) (just r) nothing
        → clean (pick x (just []) (and_then (before 39 t) (λ u. just (b ∷ u)))) ≡ pick (eqb (at (here x y)) 39) (just (here x y)) nothing
    go true y e f h = rw e
    go false true e f h = clean_bad b (before 39 t) f ∙ rw e
    go false false e f h =
        clean_good b (before 39 t) f ∙ ap (λ (o : Maybe Bytes). and_then o (λ u. just (b ∷ u))) h ∙ with_front b (eqb (get_or t (length r) 256) 39) r

-- a text value that is not too long
short : Bytes → Maybe (Got Bytes)
short u = pick (leb (length u) 40) (just (record { got = u; size = length u + 2 })) nothing

-- the length is tested after that
text_clean : (t : Bytes) → text_at t ≡ and_then (clean (before 39 t)) short
unfolding text_at is_text clean and_then bad short
text_clean t = go (before 39 t)
  where
    by : (u : Bytes) (x y : Bool) → pick {A = Maybe (Got Bytes)} (x && y) (just (record { got = u; size = length u + 2 })) nothing
        ≡ and_then {B = Got Bytes} (pick y (just u) nothing) (λ u. pick x (just (record { got = u; size = length u + 2 })) nothing)
    by u true true = refl
    by u true false = refl
    by u false true = refl
    by u false false = refl

    go : (o : Maybe Bytes) → and_then {B = Got Bytes} o (λ u. pick (is_text u) (just (record { got = u; size = length u + 2 })) nothing) ≡ and_then (clean o) short
    go nothing = refl
    go (just u) = go₂ (leb (length u) 40) (not (any (λ b. eqb b 34 || eqb b 10) u)) refl
      where
        go₂ : (x y : Bool) → leb (length u) 40 ≡ x
            → pick {A = Maybe (Got Bytes)} (x && y) (just (record { got = u; size = length u + 2 })) nothing ≡ and_then (pick y (just u) nothing) short
        go₂ true true e = rw e
        go₂ true false e = refl
        go₂ false true e = rw e
        go₂ false false e = refl

up_to_then : {B : Type 0} (x : Bool) (r : Bytes) (f : Bytes → Maybe B) → and_then (pick x (just r) nothing) f ≡ pick x (f r) nothing
unfolding and_then
up_to_then true r f = refl
up_to_then false r f = refl

module _ (s : Bytes) (from : ℕ) where
  stop_byte : (p : ℕ → Bool) → get_or (drop from s) (length (run p (drop from s))) 256 ≡ peek_at s (past p s from)
  unfolding past
  stop_byte p = peek_drop s from (length (run p (drop from s)))

  -- what the code asks: where the run ends, the byte there, and the length
  pub text_at_law : text_at (drop from s)
      ≡ pick (eqb (peek_at s (past is_in_text s from)) 39)
      (pick (leb (past is_in_text s from - from) 40)
      (just (record { got = part_of s from (past is_in_text s from - from); size = past is_in_text s from - from + 2 })) nothing) nothing
  unfolding up_to short
  text_at_law =
      text_clean (drop from s) ∙ ap (λ (o : Maybe Bytes). and_then o short) (clean_text (drop from s))
      ∙ rw (stop_byte is_in_text, ← past_part is_in_text s from)
      (up_to_then (eqb (peek_at s (past is_in_text s from)) 39) (part_of s from (past is_in_text s from - from)) short ∙ rw (part_length is_in_text s from))

  pub quoted_at_law : quoted_at (drop from s)
      ≡ pick (eqb (peek_at s (past is_in_quoted s from)) 34)
      (just (record { got = part_of s from (past is_in_quoted s from - from); size = past is_in_quoted s from - from + 2 })) nothing
  unfolding up_to quoted_at
  quoted_at_law =
      rw (before_quote (drop from s), stop_byte is_in_quoted, ← past_part is_in_quoted s from)
      (up_to_then (eqb (peek_at s (past is_in_quoted s from)) 34) (part_of s from (past is_in_quoted s from - from))
      (λ t. just (record { got = t; size = length t + 2 })) ∙ rw (part_length is_in_quoted s from))

module _ (s : Bytes) (at q : ℕ) where
  module _ (e : q ≡ past is_in_text s (at + 1)) where
    pub text_open : (peek_at s q ≡ 39 → ⊥) → None ≡ end_of at (text_at (drop (at + 1) s))
    unfolding end_of
    text_open n = rw (text_at_law s (at + 1), ← e, ne_eqb (peek_at s q) 39 n)

    pub text_fits : peek_at s q ≡ 39 → q - (at + 1) ≤ 40 → Some (q + 1) ≡ end_of at (text_at (drop (at + 1) s))
    unfolding end_of
    text_fits h l =
        let k : q + 1 ≡ at + (q - (at + 1) + 2) = omega (arith, past_on is_in_text s (at + 1)) in
        rw (text_at_law s (at + 1), ← e, eq-eqb (peek_at s q) 39 h, le-leb (q - (at + 1)) 40 l) (ap Some k)

    pub text_long : peek_at s q ≡ 39 → 40 < q - (at + 1) → None ≡ end_of at (text_at (drop (at + 1) s))
    unfolding end_of
    text_long h l = rw (text_at_law s (at + 1), ← e, eq-eqb (peek_at s q) 39 h, lt-leb (q - (at + 1)) 40 l)

  module _ (e : q ≡ past is_in_quoted s (at + 1)) where
    pub quoted_open : (peek_at s q ≡ 34 → ⊥) → None ≡ end_of at (quoted_at (drop (at + 1) s))
    unfolding end_of
    quoted_open n = rw (quoted_at_law s (at + 1), ← e, ne_eqb (peek_at s q) 34 n)

    pub quoted_shut : peek_at s q ≡ 34 → Some (q + 1) ≡ end_of at (quoted_at (drop (at + 1) s))
    unfolding end_of
    quoted_shut h =
        let k : q + 1 ≡ at + (q - (at + 1) + 2) = omega (arith, past_on is_in_quoted s (at + 1)) in
        rw (quoted_at_law s (at + 1), ← e, eq-eqb (peek_at s q) 34 h) (ap Some k)

-- past the end of the text there is neither
pub text_past : (s : Bytes) (at : ℕ) → length s ≤ at → None ≡ end_of at (text_at (drop (at + 1) s))
unfolding end_of text_at before and_then
text_past s at h = rw (drop_end s (at + 1) (omega arith))

pub quoted_past : (s : Bytes) (at : ℕ) → length s ≤ at → None ≡ end_of at (quoted_at (drop (at + 1) s))
unfolding end_of quoted_at before and_then
quoted_past s at h = rw (drop_end s (at + 1) (omega arith))

-- the text that an end tells of
module _ (s : Bytes) (at : ℕ) where
  told : (n : ℕ) → let o : Maybe (Got Bytes) = just (record { got = part_of s (at + 1) n; size = n + 2 }) in o ≡ text_to s at (end_of at o)
  unfolding end_of text_to
  told n =
      let e : at + (n + 2) - at ≡ n + 2 = omega arith in
      let f : n + 2 - 2 ≡ n = omega arith in
      rw (e, f)

  pub text_read : text_at (drop (at + 1) s) ≡ text_to s at (end_of at (text_at (drop (at + 1) s)))
  unfolding end_of text_to
  text_read = rw (text_at_law s (at + 1)) (go (eqb (peek_at s (past is_in_text s (at + 1))) 39) (leb n 40))
    where
      n : ℕ
      n = past is_in_text s (at + 1) - (at + 1)

      o : Bool → Bool → Maybe (Got Bytes)
      o x y = pick x (pick y (just (record { got = part_of s (at + 1) n; size = n + 2 })) nothing) nothing

      go : (x y : Bool) → o x y ≡ text_to s at (end_of at (o x y))
      go true true = told n
      go true false = refl
      go false y = refl

  pub quoted_read : quoted_at (drop (at + 1) s) ≡ text_to s at (end_of at (quoted_at (drop (at + 1) s)))
  unfolding end_of text_to
  quoted_read = rw (quoted_at_law s (at + 1)) (go (eqb (peek_at s (past is_in_quoted s (at + 1))) 34))
    where
      n : ℕ
      n = past is_in_quoted s (at + 1) - (at + 1)

      o : Bool → Maybe (Got Bytes)
      o x = pick x (just (record { got = part_of s (at + 1) n; size = n + 2 })) nothing

      go : (x : Bool) → o x ≡ text_to s at (end_of at (o x))
      go true = told n
      go false = refl
