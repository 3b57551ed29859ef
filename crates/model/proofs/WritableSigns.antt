-- The signs of a text of allowed bytes are written as they are read.
use Prim.Native.Nat.{ℕ, zero, suc, ◌+◌, ◌-◌, ◌^◌, ◌<◌, ◌≤◌}
use mathlib.Core.Path.{◌≡◌, refl, sym, subst}
use mathlib.Core.Logic.{⊎_elim}
use mathlib.Core.List.{List, [], ◌∷◌}
use mathlib.Core.Bool.{Bool, true, false, not, ◌&&◌, ◌||◌}
use native.Mathlib.Omega.{arith}
use lib.ListN.{length}
use lib.Dec.{T, leb, eqb, leb→le, not_T}
use Rattle.model.specs.Bytes.{Bytes}
use Rattle.model.specs.Choice.{pick, Maybe, nothing, just, and_then}
use Rattle.model.specs.Lists.{all}
use Rattle.model.specs.Words.{Got, is_letter, is_digit, is_word_byte, run, before, word_at, biased, decimal, plain_digits, is_whole, digits_at, whole_at}
use Rattle.model.specs.Words.{is_text, text_at}
use Rattle.model.specs.Lines.{is_allowed}
use Rattle.model.specs.Values.{str}
use Rattle.model.specs.Signs.{Sign, word, whole, text, mark, broken, marks, begins, mark_at, or_broken, digit_next, sign_at, wordy, signs}
use Rattle.model.specs.Graph.{Each}
use Rattle.model.proofs.Decides.{and_iff, pick_iff, or_l}
use Rattle.model.proofs.Members.{test, is_true, is_false}
use Rattle.model.proofs.Outcomes.{no_just}
use Rattle.model.proofs.WrittenSigns.{Word}
use Rattle.model.proofs.WrittenConditions.{WritableValue}

-- what holds of whatever is there
abbrev pub IfThere : {A : Type 0} → (A → Type 0) → Maybe A → Type 0
IfThere P nothing = T true
IfThere P (just a) = P a

-- it holds of what is found there
pub there_e : {A : Type 0} (P : A → Type 0) (m : Maybe A) (a : A) → IfThere P m → m ≡ just a → P a
there_e P nothing a h e = no_just a e
there_e P (just x) a h e = let d : x ≡ a = cc in subst P d h

-- what holds of both sides of a choice holds of the choice
pub pick_case : {A : Type 0} (P : A → Type 0) (t : Bool) (x y : A) → (T t → P x) → P y → P (pick t x y)
pick_case P true x y f g = f tt
pick_case P false x y f g = g

-- what follows from what is there
pub then_case : {A B : Type 0} (P : A → Type 0) (Q : B → Type 0) (m : Maybe A) (f : A → Maybe B) → IfThere P m → ((a : A) → P a → IfThere Q (f a))
    → IfThere Q (and_then m f)
unfolding and_then
then_case P Q nothing f h k = tt
then_case P Q (just a) f h k = k a h

-- signs
abbrev pub WritableSign : Sign → Type 0
WritableSign (word w) = Word w
WritableSign (whole n) = n < 2 ^ 64
WritableSign (text t) = WritableValue (str t)
WritableSign (mark m) = T true
WritableSign broken = T true

-- what was read as a sign can be written
abbrev WritableGot : Got Sign → Type 0
WritableGot g = WritableSign g.got

or_broken_writable : {A : Type 0} (f : A → Sign) (m : Maybe (Got A)) → IfThere (λ g. WritableSign (f g.got)) m → WritableGot (or_broken f m)
unfolding or_broken
or_broken_writable f nothing h = tt
or_broken_writable f (just g) h = h

run_passes : (p : ℕ → Bool) (s : Bytes) → T (all p (run p s))
unfolding run all
run_passes p [] = tt
run_passes p (b ∷ s) = pick_case (λ w. T (all p w)) (p b) (b ∷ run p s) [] (λ t. (pick_iff (p b) (all p (run p s))).0 (t, run_passes p s)) tt

letter_word : (b : ℕ) → T (is_letter b) → T (is_word_byte b)
unfolding is_word_byte
letter_word b t = or_l (is_letter b || is_digit b) (eqb b 95) (or_l (is_letter b) (is_digit b) t)

letter_run : (b : ℕ) (s : Bytes) → T (is_letter b) → run is_word_byte (b ∷ s) ≡ b ∷ run is_word_byte s
unfolding run
letter_run b s t = rw (is_true (is_word_byte b) (letter_word b t)) refl

-- a word that was read can be written
pub word_writable : (b : ℕ) (s : Bytes) → T (is_letter b) → IfThere (λ (g : Got Bytes). WritableSign (word g.got)) (word_at (b ∷ s))
unfolding word_at
word_writable b s t = pick_case (IfThere (λ (g : Got Bytes). WritableSign (word g.got))) (leb (length (run is_word_byte (b ∷ s))) 24) _ nothing
    (λ u. letters (run is_word_byte (b ∷ s)) (letter_run b s t) (leb→le (length (run is_word_byte (b ∷ s))) 24 u)) tt
  where
    letters : (w : Bytes) → w ≡ b ∷ run is_word_byte s → length w ≤ 24 → Word w
    letters w e l = subst Word (sym e) (t, subst (λ z. T (all is_word_byte z)) (letter_run b s t) (run_passes is_word_byte (b ∷ s)), shorter (rw e at l))
      where
        shorter : suc (length (run is_word_byte s)) ≤ 24 → length (run is_word_byte s) ≤ 23
        shorter h = omega arith

biased_small : (minus : Bool) (n : ℕ) → n ≤ pick minus (2 ^ 63) (2 ^ 63 - 1) → biased minus n < 2 ^ 64
unfolding biased
biased_small true n h = omega arith
biased_small false n h = omega arith

digits_writable : (minus : Bool) (s : Bytes) → IfThere (λ (g : Got ℕ). WritableSign (whole g.got)) (digits_at minus s)
unfolding digits_at is_whole
digits_writable minus s =
    let ds = run is_digit s in
    pick_case (IfThere (λ (g : Got ℕ). WritableSign (whole g.got))) (plain_digits minus ds && leb (decimal 0 ds) (pick minus (2 ^ 63) (2 ^ 63 - 1))) _ nothing
    (λ u. biased_small minus (decimal 0 ds) (leb→le (decimal 0 ds) (pick minus (2 ^ 63) (2 ^ 63 - 1))
    ((and_iff (plain_digits minus ds) (leb (decimal 0 ds) (pick minus (2 ^ 63) (2 ^ 63 - 1)))).1 u).1)) tt

-- so can a whole number
pub whole_writable : (b : ℕ) (s : Bytes) → IfThere (λ (g : Got ℕ). WritableSign (whole g.got)) (whole_at (b ∷ s))
unfolding whole_at
whole_writable b s = pick_case (IfThere (λ (g : Got ℕ). WritableSign (whole g.got))) (eqb b 45) _ _ (λ t. digits_writable true s)
    (digits_writable false (b ∷ s))

-- allowed bytes without an apostrophe
abbrev NoApostrophe : Bytes → Type 0
NoApostrophe t = T (all (λ b. not (eqb b 39)) t) × T (all is_allowed t)

before_apostrophe : (s : Bytes) → T (all is_allowed s) → IfThere NoApostrophe (before 39 s)
unfolding before all
before_apostrophe [] h = tt
before_apostrophe (b ∷ s) h = ⊎_elim (λ t. rw (is_true (eqb b 39) t) (tt, tt))
    (λ t. let u = (pick_iff (is_allowed b) (all is_allowed s)).1 h in
    rw (is_false (eqb b 39) t) (then_case NoApostrophe NoApostrophe (before 39 s) (λ t. just (b ∷ t)) (before_apostrophe s u.1)
    (λ w k. (
      (pick_iff (not (eqb b 39)) (all (λ b. not (eqb b 39)) w)).0 (not_T (eqb b 39) t, k.0),
      (pick_iff (is_allowed b) (all is_allowed w)).0
          (u.0, k.1),
    )))) (test (eqb b 39))

-- and a text value, of allowed bytes
pub text_writable : (s : Bytes) → T (all is_allowed s) → IfThere (λ (g : Got Bytes). WritableSign (text g.got)) (text_at s)
unfolding text_at
text_writable s h = then_case NoApostrophe (λ (g : Got Bytes). WritableSign (text g.got)) (before 39 s)
    (λ t. pick (is_text t) (just (record { got = t; size = length t + 2 })) nothing) (before_apostrophe s h)
    (λ t k. pick_case (IfThere (λ (g : Got Bytes). WritableSign (text g.got))) (is_text t) _ nothing (λ u. (u, k.0, k.1)) tt)

mark_writable : (ms : List Bytes) (s : Bytes) → WritableGot (mark_at ms s)
unfolding mark_at
mark_writable [] s = tt
mark_writable (m ∷ ms) s = pick_case WritableGot (begins m s) _ _ (λ t. tt) (mark_writable ms s)

sign_writable : (c : Bool) (b : ℕ) (s : Bytes) → T (all is_allowed s) → WritableGot (sign_at c b s)
unfolding sign_at
sign_writable c b s h =
    pick_case WritableGot (is_letter b) _ _ (λ t. or_broken_writable word (word_at (b ∷ s)) (word_writable b s t))
    (pick_case WritableGot (is_digit b || eqb b 45 && digit_next s) _ _ (λ t. or_broken_writable whole (whole_at (b ∷ s)) (whole_writable b s))
    (pick_case WritableGot (eqb b 39) _ _ (λ t. or_broken_writable text (text_at s) (text_writable s h)) (mark_writable (marks c) (b ∷ s))))

-- every sign of a text of allowed bytes can be written
pub signs_writable : (c k : Bool) (n : ℕ) (s : Bytes) → T (all is_allowed s) → Each WritableSign (signs c k n s)
unfolding signs all
signs_writable c k n [] h = tt
signs_writable c k (suc n) (b ∷ s) h = signs_writable c k n s ((pick_iff (is_allowed b) (all is_allowed s)).1 h).1
signs_writable c k zero (b ∷ s) h =
    let u = ((pick_iff (is_allowed b) (all is_allowed s)).1 h).1 in
    let g = sign_at c b s in
    pick_case (Each WritableSign) (eqb b 32 || eqb b 10) _ _ (λ t. signs_writable c false 0 s u) (
      pick_case WritableSign (k && wordy g.got) broken g.got (λ t. tt) (sign_writable c b s u),
      signs_writable
          (Rattle.model.specs.Signs.chain_behind c g.got) (wordy g.got) (g.size - 1) s u,
    )
