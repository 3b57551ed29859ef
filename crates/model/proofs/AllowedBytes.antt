-- Texts of allowed bytes, and their parts.
use Prim.Native.Nat.{ℕ, zero, suc, ◌+◌, ◌≤◌}
use mathlib.Core.Path.{◌≡◌, refl, subst}
use mathlib.Core.Logic.{⊎_elim}
use mathlib.Core.List.{List, [], ◌∷◌, ◌++◌}
use mathlib.Core.Bool.{Bool, true, ◌&&◌, ◌||◌, false}
use native.Mathlib.Omega.{arith}
use lib.ListN.{drop}
use lib.Dec.{T, leb, eqb, leb→le, le→leb, eqb→eq}
use Rattle.model.specs.Bytes.{Bytes}
use Rattle.model.specs.Choice.{pick, Maybe, nothing, just}
use Rattle.model.specs.Lists.{all}
use Rattle.model.specs.Words.{between, is_letter, is_digit, is_word_byte, before}
use Rattle.model.specs.Lines.{is_allowed, bad_line, Line, add_byte, lines_of}
use Rattle.model.specs.Graph.{Each}
use Rattle.model.proofs.Decides.{and_iff, pick_iff, or_l, or_cases}
use Rattle.model.proofs.Members.{test, is_true, is_false}
use Rattle.model.proofs.Outcomes.{no_just, then_e}

-- bytes that pass a test pass a wider one
pub all_more : (p r : ℕ → Bool) → ((b : ℕ) → T (p b) → T (r b)) → (l : Bytes) → T (all p l) → T (all r l)
unfolding all
all_more p r h [] t = tt
all_more p r h (b ∷ l) t = let u = (pick_iff (p b) (all p l)).1 t in (pick_iff (r b) (all r l)).0 (h b u.0, all_more p r h l u.1)

-- two texts that pass a test pass it one after the other
pub all_append : (p : ℕ → Bool) (a b : Bytes) → T (all p a) → T (all p b) → T (all p (a ++ b))
unfolding all
all_append p [] b t u = u
all_append p (x ∷ a) b t u = let r = (pick_iff (p x) (all p a)).1 t in (pick_iff (p x) (all p (a ++ b))).0 (r.0, all_append p a b r.1 u)

-- what is left of a text that passes a test passes it
pub all_drop : (p : ℕ → Bool) (k : ℕ) (s : Bytes) → T (all p s) → T (all p (drop k s))
unfolding all
all_drop p zero s t = t
all_drop p (suc k) [] t = t
all_drop p (suc k) (b ∷ s) t = all_drop p k s ((pick_iff (p b) (all p s)).1 t).1

-- the part before a byte, of a text that passes a test, passes it
pub all_before : (p : ℕ → Bool) (q : ℕ) (s t : Bytes) → T (all p s) → before q s ≡ just t → T (all p t)
unfolding before all
all_before p q [] t h e = no_just t e
all_before p q (b ∷ s) t h e = let u = (pick_iff (p b) (all p s)).1 h in ⊎_elim
    (λ c. let f : ◌≡◌ {A = Maybe Bytes} (just []) (just t) = rw (is_true (eqb b q) c) at e in let d : ◌≡◌ {A = Bytes} [] t = cc in
    subst (λ z. T (all p z)) d tt)
    (λ c. let r = then_e (before q s) (λ w. just (b ∷ w)) t (rw (is_false (eqb b q) c) at e) in
    let f : ◌≡◌ {A = Maybe Bytes} (just (b ∷ r.0)) (just t) = r.2 in
    let d : ◌≡◌ {A = Bytes} (b ∷ r.0) t = cc in
    subst (λ z. T (all p z)) d ((pick_iff (p b) (all p r.0)).0 (u.0, all_before p q s r.0 u.1 r.1)))
    (test (eqb b q))

-- every byte of a text is allowed
abbrev pub Allowed : Bytes → Type 0
Allowed s = T (all is_allowed s)

-- a text of allowed bytes has no line with another
pub allowed_line : (n : ℕ) (s : Bytes) → Allowed s → bad_line n s ≡ nothing
unfolding bad_line all
allowed_line n [] h = refl
allowed_line n (b ∷ s) h = let u = (pick_iff (is_allowed b) (all is_allowed s)).1 h in
    rw (is_true (is_allowed b) u.0) (allowed_line (n + pick (eqb b 10) 1 0) s u.1)

-- a text that has no such line is of allowed bytes
pub line_allowed : (n : ℕ) (s : Bytes) → bad_line n s ≡ nothing → Allowed s
unfolding bad_line all
line_allowed n [] e = tt
line_allowed n (b ∷ s) e = ⊎_elim
    (λ t. (pick_iff (is_allowed b) (all is_allowed s)).0 (t, line_allowed (n + pick (eqb b 10) 1 0) s (rw (is_true (is_allowed b) t) at e)))
    (λ t. wrong (rw (is_false (is_allowed b) t) at e)) (test (is_allowed b))
  where
    wrong : {C : Type 0} → just n ≡ nothing → C
    wrong e = let z : ◌≡◌ {A = ℕ} 0 1 = cc in absurd (omega arith)

-- a byte that is allowed
pub allowed_i : (b : ℕ) → 32 ≤ b → b ≤ 126 → T (is_allowed b)
unfolding is_allowed
allowed_i b p q = or_l (leb 32 b && leb b 126) (eqb b 10) ((and_iff (leb 32 b) (leb b 126)).0 (le→leb 32 b p, le→leb b 126 q))

-- a byte between two
pub between_e : (l h b : ℕ) → T (between l h b) → (l ≤ b) × (b ≤ h)
unfolding between
between_e l h b t = let u = (and_iff (leb l b) (leb b h)).1 t in (leb→le l b u.0, leb→le b h u.1)

-- and back
pub between_i : (l h b : ℕ) → l ≤ b → b ≤ h → T (between l h b)
unfolding between
between_i l h b p q = (and_iff (leb l b) (leb b h)).0 (le→leb l b p, le→leb b h q)

-- a letter
pub letter_e : (b : ℕ) → T (is_letter b) → (65 ≤ b) × (b ≤ 122)
unfolding is_letter
letter_e b t = ⊎_elim (λ u. let r = between_e 65 90 b u in (r.0, omega arith)) (λ u. let r = between_e 97 122 b u in (omega arith, r.1))
    (or_cases (between 65 90 b) (between 97 122 b) t)

-- a digit
pub digit_e : (b : ℕ) → T (is_digit b) → (48 ≤ b) × (b ≤ 57)
unfolding is_digit
digit_e b t = between_e 48 57 b t

-- the bytes of words are allowed
pub word_byte_allowed : (b : ℕ) → T (is_word_byte b) → T (is_allowed b)
unfolding is_word_byte
word_byte_allowed b t = ⊎_elim
    (λ u. ⊎_elim (λ w. let r = letter_e b w in allowed_i b (omega arith) (omega arith))
    (λ w. let r = digit_e b w in allowed_i b (omega arith) (omega arith)) (or_cases (is_letter b) (is_digit b) u))
    (λ u. let r = eqb→eq b 95 u in allowed_i b (omega arith) (omega arith)) (or_cases (is_letter b || is_digit b) (eqb b 95) t)

-- the lines of a text of allowed bytes are of allowed bytes
pub lines_allowed : (s : Bytes) → Allowed s → Each (λ l. Allowed l.bytes) (lines_of s)
unfolding lines_of add_byte all
lines_allowed [] h = tt
lines_allowed (b ∷ s) h = let u = (pick_iff (is_allowed b) (all is_allowed s)).1 h in go (eqb b 10) (lines_of s) u.0 (lines_allowed s u.1)
  where
    longer : (ls : List Line) → T (is_allowed b) → Each (λ (l : Line). Allowed l.bytes) ls → Each (λ (l : Line). Allowed l.bytes) (add_byte b ls)
    longer [] t k = ((pick_iff (is_allowed b) true).0 (t, tt), tt)
    longer (l ∷ ls) t k = ((pick_iff (is_allowed b) (all is_allowed l.bytes)).0 (t, k.0), k.1)

    go : (c : Bool) (ls : List Line) → T (is_allowed b) → Each (λ (l : Line). Allowed l.bytes) ls
        → Each (λ (l : Line). Allowed l.bytes) (pick c (record { bytes = []; ended = true } ∷ ls) (add_byte b ls))
    go true ls t k = (tt, k)
    go false ls t k = longer ls t k
