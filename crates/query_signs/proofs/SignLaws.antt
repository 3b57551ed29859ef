-- Laws of signs: blanks before a sign, and the sign at a place.
use Prim.Native.Nat.{ℕ, suc, ◌+◌, ◌-◌, ◌<◌, ◌≤◌}
use mathlib.Core.Path.{◌≡◌, refl, sym, ap, ◌∙◌}
use mathlib.Core.Logic.{⊎_elim}
use mathlib.Core.List.{List, [], ◌∷◌}
use mathlib.Core.Bool.{Bool, true, false, ◌&&◌, ◌||◌}
use native.Mathlib.Omega.{arith}
use lib.ListN.{length, drop}
use lib.Seq.{drop-drop}
use lib.Dec.{eqb, leb, ltb}
use borrow.Author.Tests.{eq-eqb, ne_eqb}
pub use Rattle.logic.specs.Flags.{and_false, and_true}
use Rattle.std.specs.Prelude.{Some, None}
use Rattle.model.specs.Bytes.{Bytes}
use Rattle.model.specs.Choice.{pick, Maybe, nothing, just, and_then}
use Rattle.model.specs.Lists.{is_nil}
use Rattle.model.specs.Words.{Got, is_letter, is_digit, is_word_byte, run, before, word_at, plain_digits, is_whole, digits_at, whole_at, is_text, text_at}
use Rattle.model.specs.Signs.{Sign, word, whole, text, mark, broken, marks, mark_at, or_broken, digit_next, sign_at, chain_behind, wordy, signs}
use Rattle.model.specs.Graph.{Each}
use Rattle.model.proofs.Skips.{signs_skip}
use Rattle.text.specs.Places.{peek_at, past}
use Rattle.text.proofs.PlaceLaws.{below_or_not, drop_peek, drop_end, peek_end, past_test}
use Rattle.model.specs.Answers.{name_at}
use Rattle.text.specs.Places.{end_of, number_of, word_to, text_to, whole_to}
use Rattle.text.proofs.WordLaws.{word_read}
use Rattle.text.proofs.NumberLaws.{whole_read}
use Rattle.text.proofs.QuoteLaws.{text_read}
use Rattle.query_signs.specs.Marks.{mark_got, mark_size}
use Rattle.query_signs.specs.declared.Sign.{Sign as SignData}
use Rattle.query_signs.specs.declared.Sign.TheVariants as sign
use Rattle.query_signs.specs.Reads.{is_blank, is_wordy, sign_of, got_of, signs_from, first, first_of}

-- blanks before a sign part it from a word or number before it
signs_blanks : (chain close : Bool) (t : Bytes) → signs chain close 0 t ≡ signs chain (close && is_nil (run is_blank t)) 0 (drop (length (run is_blank t)) t)
unfolding signs run is_blank is_nil
signs_blanks chain close [] = refl
signs_blanks chain close (b ∷ t) = go (eqb b 32 || eqb b 10) refl (signs_blanks chain false t)
  where
    go : (x : Bool) → (eqb b 32 || eqb b 10) ≡ x → signs chain false 0 t ≡ signs chain false 0 (drop (length (run is_blank t)) t)
        → signs chain close 0 (b ∷ t) ≡ signs chain (close && is_nil (pick x (b ∷ run is_blank t) [])) 0 (drop (length (pick x (b ∷ run is_blank t) [])) (b ∷ t))
    go true e h = rw (e, and_false close) h
    go false e h = rw (and_true close)

pub nil_length : (t : Bytes) (n : ℕ) → is_nil t ≡ eqb (n + length t) n
unfolding is_nil
nil_length [] n = sym (eq-eqb (n + 0) n (omega arith))
nil_length (b ∷ t) n = sym (ne_eqb (n + suc (length t)) n (λ z. omega arith))

-- every sign has a byte
letter_word : (b : ℕ) (t : Bytes) → is_letter b ≡ true → 0 < length (run is_word_byte (b ∷ t))
unfolding run is_word_byte
letter_word b t e = rw e (omega arith)

or_broken_size : {A : Type 0} (f : A → Sign) (m : Maybe (Got A)) → ((g : Got A) → m ≡ just g → 0 < g.size) → 0 < (or_broken f m).size
unfolding or_broken
or_broken_size f nothing h = omega arith
or_broken_size f (just g) h = h g refl

word_size : (b : ℕ) (t : Bytes) → is_letter b ≡ true → (g : Got Bytes) → word_at (b ∷ t) ≡ just g → 0 < g.size
unfolding word_at
word_size b t e g h = go (leb (length (run is_word_byte (b ∷ t))) 24) h
  where
    go : (x : Bool) → pick x (just (record { got = run is_word_byte (b ∷ t); size = length (run is_word_byte (b ∷ t)) })) nothing ≡ just g → 0 < g.size
    go true h = let z : length (run is_word_byte (b ∷ t)) ≡ g.size = cc in omega (arith, letter_word b t e)
    go false h = let z : ◌≡◌ {A = ℕ} 0 1 = cc in omega arith

digits_size : (minus : Bool) (t : Bytes) (g : Got ℕ) → digits_at minus t ≡ just g → 0 < g.size
unfolding digits_at is_whole plain_digits
digits_size minus t g h = go (run is_digit t) h
  where
    go : (ds : Bytes) → pick (is_whole minus ds)
        (just (record { got = Rattle.model.specs.Words.biased minus (Rattle.model.specs.Words.decimal 0 ds); size = length ds + pick minus 1 0 })) nothing
        ≡ just g → 0 < g.size
    go [] h = let z : ◌≡◌ {A = ℕ} 0 1 = cc in omega arith
    go (d ∷ ds) h = some (is_whole minus (d ∷ ds)) h
      where
        some : (x : Bool) → pick x (just (record
            { got = Rattle.model.specs.Words.biased minus (Rattle.model.specs.Words.decimal 0 (d ∷ ds)); size = suc (length ds) + pick minus 1 0 }))
            nothing ≡ just g → 0 < g.size
        some true h = let z : suc (length ds) + pick minus 1 0 ≡ g.size = cc in omega arith
        some false h = let z : ◌≡◌ {A = ℕ} 0 1 = cc in omega arith

whole_size : (t : Bytes) (g : Got ℕ) → whole_at t ≡ just g → 0 < g.size
unfolding whole_at
whole_size [] g h = let z : ◌≡◌ {A = ℕ} 0 1 = cc in omega arith
whole_size (b ∷ t) g h = go (eqb b 45) h
  where
    go : (x : Bool) → pick x (digits_at true t) (digits_at false (b ∷ t)) ≡ just g → 0 < g.size
    go true h = digits_size true t g h
    go false h = digits_size false (b ∷ t) g h

text_size : (t : Bytes) (g : Got Bytes) → text_at t ≡ just g → 1 < g.size
unfolding text_at and_then
text_size t g h = go (before 39 t) h
  where
    go : (m : Maybe Bytes) → and_then m (λ t. pick (is_text t) (just (record { got = t; size = length t + 2 })) nothing) ≡ just g → 1 < g.size
    go nothing h = let z : ◌≡◌ {A = ℕ} 0 1 = cc in omega arith
    go (just u) h = some (is_text u) h
      where
        some : (x : Bool) → pick x (just (record { got = u; size = length u + 2 })) nothing ≡ just g → 1 < g.size
        some true h = let z : length u + 2 ≡ g.size = cc in omega arith
        some false h = let z : ◌≡◌ {A = ℕ} 0 1 = cc in omega arith

mark_size_law : (ms : List Bytes) (t : Bytes) → Each (λ m. 0 < length m) ms → 0 < (mark_at ms t).size
unfolding mark_at
mark_size_law [] t h = omega arith
mark_size_law (m ∷ ms) t h = go (Rattle.model.specs.Signs.begins m t) (mark_size_law ms t h.1)
  where
    go : (x : Bool) → 0 < (mark_at ms t).size → 0 < (pick x (record { got = mark m; size = length m }) (mark_at ms t)).size
    go true k = h.0
    go false k = k

all_marks : (chain : Bool) → Each (λ m. 0 < length m) (marks chain)
unfolding marks
all_marks true = omega arith
all_marks false = omega arith

pub sign_size : (chain : Bool) (b : ℕ) (t : Bytes) → 0 < (sign_at chain b t).size
unfolding sign_at
sign_size chain b t = go (is_letter b) refl (is_digit b || eqb b 45 && digit_next t) (eqb b 39)
  where
    go : (x : Bool) → is_letter b ≡ x → (y z : Bool)
        → 0 < (pick x (or_broken word (word_at (b ∷ t)))
        (pick y (or_broken whole (whole_at (b ∷ t))) (pick z (or_broken text (text_at t)) (mark_at (marks chain) (b ∷ t))))).size
    go true e y z = or_broken_size word (word_at (b ∷ t)) (word_size b t e)
    go false e true z = or_broken_size whole (whole_at (b ∷ t)) (whole_size (b ∷ t))
    go false e false true = or_broken_size text (text_at t) (λ g h. omega (arith, text_size t g h))
    go false e false false = mark_size_law (marks chain) (b ∷ t) (all_marks chain)

-- a sign of the code is no broken one
first_sign : (s : Bytes) (t : SignData) (ts : List Sign) → first (sign_of s t ∷ ts) ≡ just (record { sign = sign_of s t; rest = ts })
unfolding first sign_of
first_sign s (sign.Word p) ts = refl
first_sign s (sign.Whole n) ts = refl
first_sign s (sign.Text p) ts = refl
first_sign s (sign.Mark c) ts = refl

pub wordy_sign : (s : Bytes) (t : SignData) → wordy (sign_of s t) ≡ is_wordy t
unfolding wordy sign_of is_wordy
wordy_sign s (sign.Word p) = refl
wordy_sign s (sign.Whole n) = refl
wordy_sign s (sign.Text p) = refl
wordy_sign s (sign.Mark c) = refl

module _ (chain close : Bool) (s : Bytes) (from at : ℕ) (p : at ≡ past is_blank s from) where
  abbrev near : Bool
  near = close && eqb at from

  blanks_at : signs_from chain close s from ≡ signs_from chain near s at
  unfolding past
  blanks_at = signs_blanks chain close (drop from s)
      ∙ rw (p, nil_length (run is_blank (drop from s)) from, drop-drop (length (run is_blank (drop from s))) from s)

  pub none_left : length s ≤ at → first (signs_from chain close s from) ≡ nothing
  unfolding signs first
  none_left h = rw (blanks_at, drop_end s at h)

  pub no_signs : length s ≤ at → signs_from chain close s from ≡ []
  unfolding signs
  no_signs h = rw (blanks_at, drop_end s at h)

  module _ (l : at < length s) where
    pub no_blank : (eqb (peek_at s at) 32 || eqb (peek_at s at) 10) ≡ false
    unfolding is_blank
    no_blank = rw p (past_test is_blank s from refl)

    pub sign_at_law : signs_from chain close s from ≡ (let g = sign_at chain (peek_at s at) (drop (at + 1) s) in
        pick (near && wordy g.got) broken g.got ∷ signs (chain_behind chain g.got) (wordy g.got) (g.size - 1) (drop (at + 1) s))
    unfolding signs
    sign_at_law = rw (blanks_at, drop_peek s at l, no_blank)

    pub some_sign : (t : Sign) × (ts : List Sign) × (signs_from chain close s from ≡ t ∷ ts)
    some_sign = (_, _, sign_at_law)

    pub sign_none : got_of s at None ≡ sign_at chain (peek_at s at) (drop (at + 1) s) → first (signs_from chain close s from) ≡ nothing
    unfolding got_of first wordy
    sign_none e = rw (sign_at_law, ← e, and_false near)

    sign_found : (t : SignData) (q : ℕ) → got_of s at (Some (t, q)) ≡ sign_at chain (peek_at s at) (drop (at + 1) s)
        → signs_from chain close s from ≡ pick (near && is_wordy t) broken (sign_of s t) ∷ signs (chain_behind chain (sign_of s t)) (wordy (sign_of s t))
        (q - at - 1) (drop (at + 1) s)
    unfolding got_of
    sign_found t q e = rw (sign_at_law, ← e, wordy_sign s t)

    pub sign_close : (t : SignData) (q : ℕ) → got_of s at (Some (t, q)) ≡ sign_at chain (peek_at s at) (drop (at + 1) s) → (near && is_wordy t) ≡ true
        → first (signs_from chain close s from) ≡ nothing
    unfolding first
    sign_close t q e h = rw (sign_found t q e, h)

    pub sign_behind : (t : SignData) (q : ℕ) → got_of s at (Some (t, q)) ≡ sign_at chain (peek_at s at) (drop (at + 1) s) → at < q
    unfolding got_of
    sign_behind t q e = let z : 0 < q - at = rw (← e) at (sign_size chain (peek_at s at) (drop (at + 1) s)) in omega arith

    pub sign_first : (t : SignData) (q : ℕ) → got_of s at (Some (t, q)) ≡ sign_at chain (peek_at s at) (drop (at + 1) s) → (near && is_wordy t) ≡ false
        → first (signs_from chain close s from) ≡ first_of chain s (Some (t, q))
    unfolding first_of
    sign_first t q e h =
        let l = sign_behind t q e in
        let d : at + 1 + (q - at - 1) ≡ q = omega arith in
        rw (sign_found t q e, h) (first_sign s t _ ∙ ap (λ r. just (record { sign = sign_of s t; rest = r }))
        (signs_skip (chain_behind chain (sign_of s t)) (wordy (sign_of s t)) (q - at - 1) (drop (at + 1) s)
        ∙ ap (signs (chain_behind chain (sign_of s t)) (wordy (sign_of s t)) 0) (drop-drop (q - at - 1) (at + 1) s ∙ ap (λ n. drop n s) d)))

-- what the leaf readers say
pub end_behind : {A : Type 0} (at q : ℕ) (m : Maybe (Got A)) → Some q ≡ end_of at m → at ≤ q
unfolding end_of
end_behind at q nothing e = let z : ◌≡◌ {A = ℕ} 0 1 = cc in omega arith
end_behind at q (just g) e = let z : q ≡ at + g.size = cc in omega arith

module _ (s : Bytes) (at : ℕ) where
  pub word_found : (q : ℕ) → Some q ≡ end_of at (word_at (drop at s))
      → got_of s at (Some (sign.Word (record { start = at; length = q - at }), q)) ≡ or_broken word (word_at (drop at s))
  unfolding got_of or_broken word_to sign_of name_at
  word_found q e = let w : word_at (drop at s) ≡ word_to s at (Some q) = word_read s at ∙ ap (word_to s at) (sym e) in rw w

  pub word_none : None ≡ end_of at (word_at (drop at s)) → got_of s at None ≡ or_broken word (word_at (drop at s))
  unfolding got_of or_broken word_to
  word_none e = let w : word_at (drop at s) ≡ word_to s at None = word_read s at ∙ ap (word_to s at) (sym e) in rw w

  pub whole_found : (n q : ℕ) → Some (n, q) ≡ number_of at (whole_at (drop at s))
      → got_of s at (Some (sign.Whole n, q)) ≡ or_broken whole (whole_at (drop at s))
  unfolding got_of or_broken whole_to sign_of
  whole_found n q e = let w : whole_at (drop at s) ≡ whole_to at (Some (n, q)) = whole_read s at ∙ ap (whole_to at) (sym e) in rw w

  pub whole_none : None ≡ number_of at (whole_at (drop at s)) → got_of s at None ≡ or_broken whole (whole_at (drop at s))
  unfolding got_of or_broken whole_to
  whole_none e = let w : whole_at (drop at s) ≡ whole_to at None = whole_read s at ∙ ap (whole_to at) (sym e) in rw w

  pub text_found : (q : ℕ) → Some q ≡ end_of at (text_at (drop (at + 1) s))
      → got_of s at (Some (sign.Text (record { start = at + 1; length = q - at - 2 }), q)) ≡ or_broken text (text_at (drop (at + 1) s))
  unfolding got_of or_broken text_to sign_of name_at
  text_found q e = let w : text_at (drop (at + 1) s) ≡ text_to s at (Some q) = text_read s at ∙ ap (text_to s at) (sym e) in rw w

  pub text_none : None ≡ end_of at (text_at (drop (at + 1) s)) → got_of s at None ≡ or_broken text (text_at (drop (at + 1) s))
  unfolding got_of or_broken text_to
  text_none e = let w : text_at (drop (at + 1) s) ≡ text_to s at None = text_read s at ∙ ap (text_to s at) (sym e) in rw w

  pub text_behind : (q : ℕ) → Some q ≡ end_of at (text_at (drop (at + 1) s)) → at + 2 ≤ q
  unfolding text_to end_of
  text_behind q e = go (text_at (drop (at + 1) s)) refl e
    where
      go : (m : Maybe (Got Bytes)) → text_at (drop (at + 1) s) ≡ m → Some q ≡ end_of at m → at + 2 ≤ q
      go nothing f e = let z : ◌≡◌ {A = ℕ} 0 1 = cc in omega arith
      go (just g) f e = let z : q ≡ at + g.size = cc in omega (arith, text_size (drop (at + 1) s) g f)

  pub mark_found : (chain : Bool) (m n : ℕ) → mark_got m ≡ mark_at (marks chain) (drop at s) → n ≡ mark_size m → (m ≡ 0 → ⊥)
      → got_of s at (Some (sign.Mark m, at + n)) ≡ mark_at (marks chain) (drop at s)
  unfolding got_of mark_got sign_of
  mark_found chain m n e f h = let d : at + n - at ≡ n = omega arith in rw (d, f) ((rw (ne_eqb m 0 h) at e))

  pub mark_missing : (chain : Bool) → mark_got 0 ≡ mark_at (marks chain) (drop at s) → got_of s at None ≡ mark_at (marks chain) (drop at s)
  unfolding got_of mark_got
  mark_missing chain e = e

  module _ (chain : Bool) (l : at < length s) where
    pub sign_word : (g : Got Sign) → is_letter (peek_at s at) ≡ true → g ≡ or_broken word (word_at (drop at s)) → g ≡ sign_at chain (peek_at s at) (drop (at + 1) s)
    unfolding sign_at
    sign_word g h e = e ∙ rw (h, drop_peek s at l)

    pub sign_whole : (g : Got Sign) → is_letter (peek_at s at) ≡ false → (is_digit (peek_at s at) || eqb (peek_at s at) 45 && digit_next (drop (at + 1) s)) ≡ true
        → g ≡ or_broken whole (whole_at (drop at s)) → g ≡ sign_at chain (peek_at s at) (drop (at + 1) s)
    unfolding sign_at
    sign_whole g h k e = e ∙ rw (h, k, drop_peek s at l)

    pub sign_text : (g : Got Sign) → is_letter (peek_at s at) ≡ false
        → (is_digit (peek_at s at) || eqb (peek_at s at) 45 && digit_next (drop (at + 1) s)) ≡ false → peek_at s at ≡ 39
        → g ≡ or_broken text (text_at (drop (at + 1) s)) → g ≡ sign_at chain (peek_at s at) (drop (at + 1) s)
    unfolding sign_at
    sign_text g h k m e = e ∙ rw (h, k, eq-eqb (peek_at s at) 39 m)

    pub sign_mark : (g : Got Sign) → is_letter (peek_at s at) ≡ false
        → (is_digit (peek_at s at) || eqb (peek_at s at) 45 && digit_next (drop (at + 1) s)) ≡ false → (peek_at s at ≡ 39 → ⊥)
        → g ≡ mark_at (marks chain) (drop at s) → g ≡ sign_at chain (peek_at s at) (drop (at + 1) s)
    unfolding sign_at
    sign_mark g h k m e = e ∙ rw (h, k, ne_eqb (peek_at s at) 39 m, drop_peek s at l)

pub mark_small : (m : ℕ) → mark_size m ≤ 2
unfolding mark_size
mark_small m = go (ltb m 256)
  where
    go : (t : Bool) → pick t 1 2 ≤ 2
    go true = omega arith
    go false = omega arith

-- where a number begins
digit_next_law : (s : Bytes) (i : ℕ) → digit_next (drop i s) ≡ is_digit (peek_at s i)
unfolding digit_next is_digit Rattle.model.specs.Words.between
digit_next_law s i = ⊎_elim (λ l. rw (drop_peek s i l)) (λ g. rw (drop_end s i g, peek_end s i g)) (below_or_not i (length s))

module _ (s : Bytes) (at b : ℕ) (e : b ≡ peek_at s at) where
  pub number_digit : is_digit b ≡ true → true ≡ (is_digit (peek_at s at) || eqb (peek_at s at) 45 && digit_next (drop (at + 1) s))
  number_digit h = rw (← e, h)

  pub number_none : is_digit b ≡ false → (b ≡ 45 → ⊥) → false ≡ (is_digit (peek_at s at) || eqb (peek_at s at) 45 && digit_next (drop (at + 1) s))
  number_none h k = rw (← e, h, ne_eqb b 45 k)

  pub number_minus : is_digit b ≡ false → b ≡ 45 → (d : ℕ) → d ≡ peek_at s (at + 1) → (r : Bool) → r ≡ is_digit d
      → r ≡ (is_digit (peek_at s at) || eqb (peek_at s at) 45 && digit_next (drop (at + 1) s))
  number_minus h k d f r g = rw (← e, h, eq-eqb b 45 k, digit_next_law s (at + 1), ← f) g
