-- The signs of a text, one sign after another: words, numbers and text values in front of what follows them.
use Prim.Native.Nat.{ℕ, zero, suc, ◌+◌, ◌-◌, ◌*◌, ◌^◌, ◌/◌, ◌%◌, ◌<◌, ◌≤◌}
use mathlib.Core.Path.{◌≡◌, refl, ap, ◌∙◌}
use mathlib.Core.Logic.{⊎_elim, ◌≢◌}
use mathlib.Core.List.{[], ◌∷◌, ◌++◌}
use mathlib.Core.Bool.{Bool, true, false, not, ◌&&◌, ◌||◌}
use native.Mathlib.Nat.{div-add-mod', mod-lt}
use native.Mathlib.Omega.{arith}
use lib.ListN.{length, drop}
use lib.Seq.{drop-append_seam, drop-append-add}
use lib.Dec.{T, leb, ltb, eqb, eqb→eq, leb→le, le→leb, ltb→lt, nltb→le, T_not, not_T, nleb→lt}
use Rattle.model.specs.Bytes.{Bytes}
use Rattle.model.specs.Choice.{pick, just, and_then}
use Rattle.model.specs.Lists.{is_nil, all}
use Rattle.model.specs.Words.{Got, between, is_letter, is_digit, is_word_byte, run, before, word_at, biased, decimal, plain_digits, is_whole, digits_at}
use Rattle.model.specs.Words.{whole_at, is_text, text_at}
use Rattle.model.specs.Signs.{Sign, word, whole, text, or_broken, digit_next, sign_at, is_word, wordy, chain_behind, signs}
use Rattle.model.specs.Writing.{digits, whole_text}
use Rattle.model.proofs.Decides.{and_iff, pick_iff}
use Rattle.model.proofs.Members.{test, is_true, is_false}
use Rattle.model.proofs.Skips.{signs_skip}
use Rattle.model.proofs.AllowedBytes.{all_more, all_append, between_i, letter_e, digit_e}

-- numbers that differ are not equal by test
pub eqb_no : (a b : ℕ) → a ≢ b → eqb a b ≡ false
eqb_no a b h = is_false (eqb a b) (λ t. h (eqb→eq a b t))

-- one sign of size n + 1
pub signs_step : (c k : Bool) (b : ℕ) (s : Bytes) (g : Sign) (n : ℕ) → (eqb b 32 || eqb b 10) ≡ false → sign_at c b s ≡ record { got = g; size = suc n }
    → (k && wordy g) ≡ false
    → signs c k 0 (b ∷ s) ≡ g ∷ signs (chain_behind c g) (wordy g) 0 (drop n s)
unfolding signs
signs_step c k b s g n e f d =
    let m : suc n - 1 ≡ n = omega arith in
    rw (e, f, d, m) (ap (λ r. g ∷ r) (signs_skip (chain_behind c g) (wordy g) n s))

-- a run of bytes that pass ends where the next does not
pub run_all : (p : ℕ → Bool) (w s : Bytes) → T (all p w) → run p s ≡ [] → run p (w ++ s) ≡ w
unfolding run all
run_all p [] s t e = e
run_all p (b ∷ w) s t e = let u = (pick_iff (p b) (all p w)).1 t in rw (is_true (p b) u.0) (ap (λ r. b ∷ r) (run_all p w s u.1 e))

-- a word as word_at reads it
abbrev pub Word : Bytes → Type 0
Word [] = ⊥
Word (b ∷ w) = T (is_letter b) × T (all is_word_byte (b ∷ w)) × (length w ≤ 23)

-- a byte that is no space and no line feed
pub no_blank : (b : ℕ) → b ≢ 32 → b ≢ 10 → (eqb b 32 || eqb b 10) ≡ false
no_blank b p q = rw (eqb_no b 32 p, eqb_no b 10 q)

word_sign : (c : Bool) (b : ℕ) (w s : Bytes) → Word (b ∷ w) → run is_word_byte s ≡ [] → sign_at c b (w ++ s) ≡ record { got = word (b ∷ w); size = suc (length w) }
unfolding sign_at word_at or_broken
word_sign c b w s h e =
    rw (is_true (is_letter b) h.0, run_all is_word_byte (b ∷ w) s h.1 e, is_true (leb (suc (length w)) 24) (le→leb (suc (length w)) 24 (omega arith))) refl

-- the sign of a word
pub lex_word : (c : Bool) (w s : Bytes) → Word w → run is_word_byte s ≡ [] → signs c false 0 (w ++ s) ≡ word w ∷ signs (chain_behind c (word w)) true 0 s
unfolding wordy
lex_word c [] s h e = absurd h
lex_word c (b ∷ w) s h e =
    let l = letter_e b h.0 in
    let p : b ≢ 32 = λ z. omega arith in
    let q : b ≢ 10 = λ z. omega arith in
    signs_step c false b (w ++ s) (word (b ∷ w)) (length w) (no_blank b p q) (word_sign c b w s h e) refl
    ∙ ap (λ r. word (b ∷ w) ∷ signs (chain_behind c (word (b ∷ w))) true 0 r) (drop-append_seam w s)

-- a text value
pub before_all : (q : ℕ) (t s : Bytes) → T (all (λ b. not (eqb b q)) t) → eqb q q ≡ true → before q (t ++ q ∷ s) ≡ just t
unfolding before all and_then
before_all q [] s h e = rw e
before_all q (b ∷ t) s h e =
    let u = (pick_iff (not (eqb b q)) (all (λ b. not (eqb b q)) t)).1 h in
    rw (is_false (eqb b q) (T_not (eqb b q) u.0), before_all q t s u.1 e) refl

text_sign : (t s : Bytes) → T (is_text t) → T (all (λ b. not (eqb b 39)) t) → sign_at false 39 (t ++ 39 ∷ s) ≡ record { got = text t; size = length t + 2 }
unfolding sign_at text_at or_broken is_letter is_digit between and_then
text_sign t s h a = rw (before_all 39 t s a refl, is_true (is_text t) h) refl

-- the sign of a text value
pub lex_text : (t s : Bytes) → T (is_text t) → T (all (λ b. not (eqb b 39)) t) → signs false false 0 (39 ∷ t ++ 39 ∷ s) ≡ text t ∷ signs false false 0 s
unfolding wordy chain_behind is_word
lex_text t s h a =
    let e : length t + 2 ≡ suc (length t + 1) = omega arith in
    signs_step false false 39 (t ++ 39 ∷ s) (text t) (length t + 1) refl (text_sign t s h a ∙ (λ i. record { got = text t; size = e i })) refl
    ∙ ap (λ r. text t ∷ signs false false 0 r) (drop-append-add t (39 ∷ s) 1)

-- powers of ten: k digits write every number below the kth
ten_to : ℕ → ℕ
ten_to zero = 1
ten_to (suc k) = 10 * ten_to k

-- the first digit is no zero
abbrev pub no_zero_first : Bytes → Bool
no_zero_first [] = false
no_zero_first (d ∷ ds) = not (eqb d 48)

-- digits that write n
pub record Digits (n : ℕ) (ds : Bytes) : Type 0 where
  pub every : T (all is_digit ds)
  pub reads : decimal 0 ds ≡ n
  pub first : 0 < n → T (no_zero_first ds)

decimal_end : (n : ℕ) (ds : Bytes) (d : ℕ) → decimal n (ds ++ (d ∷ [])) ≡ decimal n ds * 10 + (d - 48)
unfolding decimal
decimal_end n [] d = refl
decimal_end n (x ∷ ds) d = decimal_end (n * 10 + (x - 48)) ds d

no_zero_first_append : (a b : Bytes) → T (no_zero_first a) → T (no_zero_first (a ++ b))
no_zero_first_append [] b t = absurd t
no_zero_first_append (x ∷ a) b t = t

digit_i : (n : ℕ) → n < 10 → T (is_digit (48 + n))
unfolding is_digit
digit_i n h = between_i 48 57 (48 + n) (omega arith) (omega arith)

one_digit : (n : ℕ) → n < 10 → Digits n ((48 + n) ∷ [])
unfolding all decimal
one_digit n h = record {
  every = (pick_iff (is_digit (48 + n)) true).0 (digit_i n h, tt);
  reads = omega arith;
  first = λ p. let d : 48 + n ≢ 48 = λ z. omega arith in rw (eqb_no (48 + n) 48 d) tt;
}

digits_of_law : (k n : ℕ) → n < ten_to k → 0 < k → Digits n (digits k n)
unfolding digits ten_to
digits_of_law zero n h p = absurd (omega arith)
digits_of_law (suc k) n h p = ⊎_elim
    (λ t. let l = ltb→lt n 10 t in rw (is_true (ltb n 10) t) (one_digit n l))
    (λ t. let l : 10 ≤ n = nltb→le n 10 (not_T (ltb n 10) t) in rw (is_false (ltb n 10) t) (more k h l (digits_of_law k (n / 10)))) (test (ltb n 10))
  where
    more : (k : ℕ) → n < 10 * ten_to k → 10 ≤ n → (n / 10 < ten_to k → 0 < k → Digits (n / 10) (digits k (n / 10)))
        → Digits n (digits k (n / 10) ++ ((48 + n % 10) ∷ []))
    more zero h l ih = absurd (omega arith)
    more (suc k) h l ih = last (digits (suc k) (n / 10)) (ih (omega (arith, div-add-mod' n 10)) (omega arith)) l
      where
        last : (ds : Bytes) → Digits (n / 10) ds → 10 ≤ n → Digits n (ds ++ ((48 + n % 10) ∷ []))
        last ds r l = record {
          every = all_append is_digit ds ((48 + n % 10) ∷ []) r.every (one_digit (n % 10) (mod-lt n (omega arith))).every;
          reads = decimal_end 0 ds (48 + n % 10) ∙ omega (arith, div-add-mod' n 10, r.reads);
          first = λ p. no_zero_first_append ds _ (r.first (omega (arith, div-add-mod' n 10, mod-lt n {m = 10} (omega arith))));
        }

-- 20 digits are enough for a whole number, with a minus or without
pub whole_digits : (n : ℕ) → n ≤ 2 ^ 63 → Digits n (digits 20 n)
unfolding ten_to
whole_digits n h = digits_of_law 20 n (omega arith) (omega arith)

-- the digits of a number below 2^64, with what follows them no digit
pub digits_at_law : (minus : Bool) (n : ℕ) (ds s : Bytes) → Digits n ds → T (plain_digits minus ds) → n ≤ pick minus (2 ^ 63) (2 ^ 63 - 1) → run is_digit s ≡ []
    → digits_at minus (ds ++ s) ≡ just (record { got = biased minus n; size = length ds + pick minus 1 0 })
unfolding digits_at is_whole
digits_at_law minus n ds s r p h e =
    let a = (and_iff (plain_digits minus ds) (leb n (pick minus (2 ^ 63) (2 ^ 63 - 1)))).0 (p, le→leb n (pick minus (2 ^ 63) (2 ^ 63 - 1)) h) in
    rw (run_all is_digit ds s r.every e, r.reads, is_true (plain_digits minus ds && leb n (pick minus (2 ^ 63) (2 ^ 63 - 1))) a) refl

-- digits whose first is no zero, behind a minus or not
pub no_zero_first_plain : (minus : Bool) (ds : Bytes) → T (no_zero_first ds) → T (plain_digits minus ds)
unfolding plain_digits
no_zero_first_plain minus [] t = absurd t
no_zero_first_plain minus (d ∷ ds) t = rw (is_false (eqb d 48) (T_not (eqb d 48) t)) tt

-- the digits of a number without a minus
pub plain_digits_law : (n : ℕ) (ds : Bytes) → Digits n ds → (n ≡ 0 → ds ≡ 48 ∷ []) → T (plain_digits false ds)
unfolding plain_digits is_nil
plain_digits_law zero ds r z = rw (z refl) tt
plain_digits_law (suc n) ds r z = no_zero_first_plain false ds (r.first (omega arith))

-- 0 is one digit
pub zero_digits : (n : ℕ) → n ≡ 0 → digits 20 n ≡ 48 ∷ []
unfolding digits
zero_digits n e = rw e

-- a digit is no letter
pub digit_no_letter : (b : ℕ) → T (is_digit b) → is_letter b ≡ false
digit_no_letter b t = is_false (is_letter b) (λ u. let p = letter_e b u in let q = digit_e b t in omega arith)

-- a sign where a digit stands
digit_sign : (d : ℕ) (s : Bytes) (g : Got ℕ) → T (is_digit d) → digits_at false (d ∷ s) ≡ just g
    → sign_at false d s ≡ record { got = whole g.got; size = g.size }
unfolding sign_at whole_at or_broken
digit_sign d s g t e =
    let p = digit_e d t in
    let q : d ≢ 45 = λ z. omega arith in
    rw (digit_no_letter d t, is_true (is_digit d) t, eqb_no d 45 q, e) refl

minus_sign : (d : ℕ) (s : Bytes) (g : Got ℕ) → T (is_digit d) → digits_at true (d ∷ s) ≡ just g
    → sign_at false 45 (d ∷ s) ≡ record { got = whole g.got; size = g.size }
unfolding sign_at whole_at or_broken is_letter between digit_next is_digit
minus_sign d s g t e = rw (is_true (is_digit d) t, e) refl

lex_plus : (n : ℕ) (ds s : Bytes) → Digits n ds → (n ≡ 0 → ds ≡ 48 ∷ []) → n ≤ 2 ^ 63 - 1 → run is_digit s ≡ []
    → signs false false 0 (ds ++ s) ≡ whole (2 ^ 63 + n) ∷ signs false true 0 s
unfolding wordy chain_behind is_word biased plain_digits all
lex_plus n [] s r z h e = absurd (plain_digits_law n [] r z)
lex_plus n (d ∷ ds) s r z h e =
    let t = (pick_iff (is_digit d) (all is_digit ds)).1 r.every in
    let p = digit_e d t.0 in
    let q : d ≢ 32 = λ z. omega arith in
    let w : d ≢ 10 = λ z. omega arith in
    let m : suc (length ds) + 0 ≡ suc (length ds) = omega arith in
    signs_step false false d (ds ++ s) (whole (2 ^ 63 + n)) (length ds) (no_blank d q w)
    (digit_sign d (ds ++ s) (record { got = 2 ^ 63 + n; size = suc (length ds) + 0 }) t.0
    (digits_at_law false n (d ∷ ds) s r (plain_digits_law n (d ∷ ds) r z) h e) ∙ (λ i. record { got = whole (2 ^ 63 + n); size = m i })) refl
    ∙ ap (λ x. whole (2 ^ 63 + n) ∷ signs false true 0 x) (drop-append_seam ds s)

lex_minus : (n : ℕ) (ds s : Bytes) → Digits n ds → 0 < n → n ≤ 2 ^ 63 → run is_digit s ≡ []
    → signs false false 0 (45 ∷ ds ++ s) ≡ whole (2 ^ 63 - n) ∷ signs false true 0 s
unfolding wordy chain_behind is_word biased all
lex_minus n [] s r z h e = absurd (r.first z)
lex_minus n (d ∷ ds) s r z h e =
    let t = (pick_iff (is_digit d) (all is_digit ds)).1 r.every in
    let m : suc (length ds) + 1 ≡ suc (suc (length ds)) = omega arith in
    signs_step false false 45 (d ∷ ds ++ s) (whole (2 ^ 63 - n)) (suc (length ds)) refl
    (minus_sign d (ds ++ s) (record { got = 2 ^ 63 - n; size = suc (length ds) + 1 }) t.0
    (digits_at_law true n (d ∷ ds) s r (no_zero_first_plain true (d ∷ ds) (r.first z)) h e) ∙ (λ i. record { got = whole (2 ^ 63 - n); size = m i })) refl
    ∙ ap (λ x. whole (2 ^ 63 - n) ∷ signs false true 0 x) (drop-append_seam ds s)

-- a number is read as it is written
pub lex_whole : (n : ℕ) (s : Bytes) → n < 2 ^ 64 → run is_digit s ≡ [] → signs false false 0 (whole_text n ++ s) ≡ whole n ∷ signs false true 0 s
unfolding whole_text
lex_whole n s h e = ⊎_elim
    (λ t. let l = leb→le (2 ^ 63) n t in
    let z : 2 ^ 63 + (n - 2 ^ 63) ≡ n = omega arith in
    rw (is_true (leb (2 ^ 63) n) t) (lex_plus (n - 2 ^ 63) (digits 20 (n - 2 ^ 63)) s (whole_digits (n - 2 ^ 63) (omega arith))
    (zero_digits (n - 2 ^ 63)) (omega arith) e ∙ ap (λ x. whole x ∷ signs false true 0 s) z))
    (λ t. let l : n < 2 ^ 63 = nleb→lt (2 ^ 63) n (not_T (leb (2 ^ 63) n) t) in
    let z : 2 ^ 63 - (2 ^ 63 - n) ≡ n = omega arith in
    rw (is_false (leb (2 ^ 63) n) t) (lex_minus (2 ^ 63 - n) (digits 20 (2 ^ 63 - n)) s (whole_digits (2 ^ 63 - n) (omega arith))
    (omega arith) (omega arith) e ∙ ap (λ x. whole x ∷ signs false true 0 s) z))
    (test (leb (2 ^ 63) n))

-- the bytes of a written number
pub whole_bytes : (p : ℕ → Bool) → ((b : ℕ) → T (is_digit b) → T (p b)) → T (p 45) → (n : ℕ) → n < 2 ^ 64 → T (all p (whole_text n))
unfolding whole_text all
whole_bytes p h m n k = ⊎_elim
    (λ t. rw (is_true (leb (2 ^ 63) n) t) (all_more is_digit p h (digits 20 (n - 2 ^ 63)) (whole_digits (n - 2 ^ 63) (omega arith)).every))
    (λ t. let l : n < 2 ^ 63 = nleb→lt (2 ^ 63) n (not_T (leb (2 ^ 63) n) t) in
    rw (is_false (leb (2 ^ 63) n) t) ((pick_iff (p 45) (all p (digits 20 (2 ^ 63 - n)))).0
    (m, all_more is_digit p h (digits 20 (2 ^ 63 - n)) (whole_digits (2 ^ 63 - n) (omega arith)).every)))
    (test (leb (2 ^ 63) n))
