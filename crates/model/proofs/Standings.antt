-- Laws of signs at their places: they are the signs of the text, and what stands there lies within it.
use Prim.Native.Nat.{ℕ, zero, suc, ◌+◌, ◌-◌, ◌<◌, ◌≤◌}
use mathlib.Core.Path.{◌≡◌, refl, ap, ◌∙◌, subst}
use mathlib.Core.List.{List, [], ◌∷◌, ◌++◌, map}
use mathlib.Core.Bool.{Bool, true, false, ◌&&◌, ◌||◌}
use native.Mathlib.Omega.{arith}
use lib.ListN.{length, drop}
use lib.Dec.{T, eqb, leb}
use Rattle.model.specs.Bytes.{Bytes}
use Rattle.model.specs.Choice.{pick, Maybe, nothing, just, and_then}
use Rattle.model.specs.Words.{Got, is_letter, is_digit, is_word_byte, run, before, word_at, whole_at, is_text, text_at}
use Rattle.model.specs.Signs.{Sign, word, whole, text, mark, broken, marks, begins, mark_at, or_broken, digit_next, sign_at, wordy, chain_behind, signs}
use Rattle.model.specs.Graph.{Each}
use Rattle.model.specs.Places.{Placed, placed, Bracket, none, round, square, bracket_of, Standing, vertex, edge, value, variable_at, standing_at, standings}

-- a sign at a place
abbrev here : Sign → ℕ → Placed
here t i = record { sign = t; at = i }

-- the signs at their places are the signs
pub placed_signs : (chain close : Bool) (k i : ℕ) (s : Bytes) → map (λ p. p.sign) (placed chain close k i s) ≡ signs chain close k s
unfolding placed signs
placed_signs chain close k i [] = refl
placed_signs chain close (suc k) i (b ∷ s) = placed_signs chain close k (i + 1) s
placed_signs chain close zero i (b ∷ s) =
    let g = sign_at chain b s in
    let rest = placed (chain_behind chain g.got) (wordy g.got) (g.size - 1) (i + 1) s in
    go (eqb b 32 || eqb b 10) (placed chain false 0 (i + 1) s) rest (pick (close && wordy g.got) broken g.got) (placed_signs chain false 0 (i + 1) s)
    (placed_signs (chain_behind chain g.got) (wordy g.got) (g.size - 1) (i + 1) s)
  where
    go : (x : Bool) (blanks rest : List Placed) (t : Sign) {bs ts : List Sign} → map (λ p. p.sign) blanks ≡ bs → map (λ p. p.sign) rest ≡ ts
        → map (λ p. p.sign) (pick x blanks (here t i ∷ rest)) ≡ pick x bs (t ∷ ts)
    go true blanks rest t e f = e
    go false blanks rest t e f = ap (λ l. t ∷ l) f

-- a text without signs has none at a place
pub none_placed : (chain close : Bool) (k i : ℕ) (s : Bytes) → signs chain close k s ≡ [] → placed chain close k i s ≡ []
none_placed chain close k i s e = go (placed chain close k i s) (placed_signs chain close k i s ∙ e)
  where
    go : (ps : List Placed) → map (λ p. p.sign) ps ≡ [] → ps ≡ []
    go [] h = refl
    go (p ∷ ps) h = cc

-- k bytes already read
pub placed_skip : (chain close : Bool) (k i : ℕ) (s : Bytes) → placed chain close k i s ≡ placed chain close 0 (i + k) (drop k s)
unfolding placed
placed_skip chain close zero i s = let e : i ≡ i + 0 = omega arith in ap (λ n. placed chain close 0 n s) e
placed_skip chain close (suc k) i [] = refl
placed_skip chain close (suc k) i (b ∷ s) = let e : i + 1 + k ≡ i + suc k = omega arith in
    placed_skip chain close k (i + 1) s ∙ ap (λ n. placed chain close 0 n (drop k s)) e

-- a sign has no more bytes than there are; a text value leaves its apostrophes
abbrev Fits : ℕ → Sign → Type 0
Fits n (word w) = length w ≤ n
Fits n (whole x) = T true
Fits n (text t) = length t + 1 < n
Fits n (mark m) = T true
Fits n broken = T true

run_fits : (p : ℕ → Bool) (s : Bytes) → length (run p s) ≤ length s
unfolding run
run_fits p [] = omega arith
run_fits p (b ∷ s) = go (p b) (run_fits p s)
  where
    go : (x : Bool) → length (run p s) ≤ length s → length (pick x (b ∷ run p s) []) ≤ suc (length s)
    go true h = omega arith
    go false h = omega arith

before_fits : (q : ℕ) (s t : Bytes) → before q s ≡ just t → length t < length s
unfolding before and_then
before_fits q [] t e = let z : ◌≡◌ {A = ℕ} 0 1 = cc in omega arith
before_fits q (b ∷ s) t e = go (eqb b q) (before q s) (λ u f. before_fits q s u f) e
  where
    go : (x : Bool) (m : Maybe Bytes) → ((u : Bytes) → m ≡ just u → length u < length s) → pick x (just []) (and_then m (λ t. just (b ∷ t))) ≡ just t
        → length t < suc (length s)
    go true m f e = let z : [] ≡ t = cc in rw (← z) (omega arith)
    go false nothing f e = let z : ◌≡◌ {A = ℕ} 0 1 = cc in omega arith
    go false (just u) f e = let z : (b ∷ u) ≡ t = cc in let l = f u refl in rw (← z) (omega arith)

word_fits : (s : Bytes) → Fits (length s) (or_broken word (word_at s)).got
unfolding or_broken word_at
word_fits s = go (leb (length (run is_word_byte s)) 24)
  where
    go : (x : Bool) → Fits (length s) (or_broken word (pick x (just (record { got = run is_word_byte s; size = length (run is_word_byte s) })) nothing)).got
    go true = run_fits is_word_byte s
    go false = tt

whole_fits : (n : ℕ) (m : Maybe (Got ℕ)) → Fits n (or_broken whole m).got
unfolding or_broken
whole_fits n nothing = tt
whole_fits n (just g) = tt

text_fits : (s : Bytes) → Fits (suc (length s)) (or_broken text (text_at s)).got
unfolding or_broken text_at and_then
text_fits s = go (before 39 s) refl
  where
    go : (m : Maybe Bytes) → before 39 s ≡ m
        → Fits (suc (length s)) (or_broken text (and_then m (λ t. pick (is_text t) (just (record { got = t; size = length t + 2 })) nothing))).got
    go nothing e = tt
    go (just t) e = some (is_text t)
      where
        some : (x : Bool) → Fits (suc (length s)) (or_broken text (pick x (just (record { got = t; size = length t + 2 })) nothing)).got
        some true = let l = before_fits 39 s t e in omega arith
        some false = tt

mark_fits : (n : ℕ) (ms : List Bytes) (s : Bytes) → Fits n (mark_at ms s).got
unfolding mark_at
mark_fits n [] s = tt
mark_fits n (m ∷ ms) s = go (begins m s) (mark_fits n ms s)
  where
    go : (x : Bool) → Fits n (mark_at ms s).got → Fits n (pick x (record { got = mark m; size = length m }) (mark_at ms s)).got
    go true h = tt
    go false h = h

sign_fits : (chain : Bool) (b : ℕ) (s : Bytes) → Fits (suc (length s)) (sign_at chain b s).got
unfolding sign_at
sign_fits chain b s = go (is_letter b) (is_digit b || eqb b 45 && digit_next s) (eqb b 39)
  where
    go : (x y z : Bool) → Fits (suc (length s))
        (pick x (or_broken word (word_at (b ∷ s)))
        (pick y (or_broken whole (whole_at (b ∷ s))) (pick z (or_broken text (text_at s)) (mark_at (marks chain) (b ∷ s))))).got
    go true y z = word_fits (b ∷ s)
    go false true z = whole_fits (suc (length s)) (whole_at (b ∷ s))
    go false false true = text_fits s
    go false false false = mark_fits (suc (length s)) (marks chain) (b ∷ s)

-- what stands in a text ends within so many bytes; a text value has its apostrophe behind it
abbrev pub EndsBy : ℕ → Standing → Type 0
EndsBy n (vertex p) = p.start + p.length ≤ n
EndsBy n (edge p) = p.start + p.length ≤ n
EndsBy n (value p) = p.start + p.length < n

each_more : {A : Type 0} (P : A → Type 0) (xs ys : List A) → Each P xs → Each P ys → Each P (xs ++ ys)
each_more P [] ys h g = g
each_more P (x ∷ xs) ys h g = (h.0, each_more P xs ys h.1 g)

sign_ends : (n i : ℕ) (t : Sign) (o : Bracket) → Fits n t → Each (EndsBy (i + n)) (standing_at t o i)
unfolding standing_at variable_at
sign_ends n i (word w) none h = tt
sign_ends n i (word w) round h = (omega arith, tt)
sign_ends n i (word w) square h = (omega arith, tt)
sign_ends n i (whole x) o h = tt
sign_ends n i (text t) o h = (omega arith, tt)
sign_ends n i (mark m) o h = tt
sign_ends n i broken o h = tt

-- all that stands in a text ends within it
pub standings_end : (chain close : Bool) (k i : ℕ) (s : Bytes) (o : Bracket) → Each (EndsBy (i + length s)) (standings o (placed chain close k i s))
unfolding placed standings
standings_end chain close k i [] o = tt
standings_end chain close (suc k) i (b ∷ s) o = let e : i + 1 + length s ≡ i + suc (length s) = omega arith in
    subst (λ n. Each (EndsBy n) (standings o (placed chain close k (i + 1) s))) e (standings_end chain close k (i + 1) s o)
standings_end chain close zero i (b ∷ s) o =
    let g = sign_at chain b s in
    let rest = placed (chain_behind chain g.got) (wordy g.got) (g.size - 1) (i + 1) s in
    go (eqb b 32 || eqb b 10) (close && wordy g.got) g.got (placed chain false 0 (i + 1) s) rest (sign_fits chain b s)
    (standings_end chain false 0 (i + 1) s o)
    (λ o. standings_end (chain_behind chain g.got) (wordy g.got) (g.size - 1) (i + 1) s o)
  where
    one : i + 1 + length s ≡ i + suc (length s)
    one = omega arith

    go : (x y : Bool) (t : Sign) (blanks rest : List Placed) → Fits (suc (length s)) t → Each (EndsBy (i + 1 + length s)) (standings o blanks)
        → ((o : Bracket) → Each (EndsBy (i + 1 + length s)) (standings o rest))
        → Each (EndsBy (i + suc (length s))) (standings o (pick x blanks (here (pick y broken t) i ∷ rest)))
    go true y t blanks rest h e f = rw one at e
    go false true t blanks rest h e f = each_more (EndsBy (i + suc (length s))) (standing_at broken o i) _ (sign_ends (suc (length s)) i broken o tt)
        (rw one at (f (bracket_of broken)))
    go false false t blanks rest h e f = each_more (EndsBy (i + suc (length s))) (standing_at t o i) _ (sign_ends (suc (length s)) i t o h)
        (rw one at (f (bracket_of t)))
