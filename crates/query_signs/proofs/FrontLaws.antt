-- What the first bytes of the next sign say of a mark or a name that is expected.
use Prim.Native.Nat.{ℕ, ◌+◌, ◌-◌, ◌≤◌, ◌<◌}
use mathlib.Core.Path.{◌≡◌, refl, sym, ap, ◌∙◌}
use mathlib.Core.Logic.{⊎_elim}
use mathlib.Core.List.{List, [], ◌∷◌}
use mathlib.Core.Bool.{Bool, true, false, not, ◌&&◌, ◌||◌}
use native.Mathlib.Omega.{arith}
use lib.ListN.{length, drop, length-drop}
use lib.Dec.{eqb, leb}
use borrow.Author.Tests.{ne_eqb, eqb-true, not-true, not-false}
use Rattle.std.specs.Prelude.{Some, None}
use Rattle.model.specs.Bytes.{Bytes}
use Rattle.model.specs.Choice.{pick, Maybe, nothing, just, and_then}
use Rattle.model.specs.Lists.{all}
use Rattle.model.specs.Names.{mem}
use Rattle.model.specs.Forms.{never_names}
use Rattle.model.specs.Answers.{part_of, name_at}
use Rattle.model.specs.Words.{Got, is_letter, is_digit, between, is_word_byte, run, word_at, whole_at, text_at}
use Rattle.model.specs.Signs.{Sign, word, whole, text, mark, broken, is_mark, marks, begins, mark_at, or_broken, digit_next, sign_at, sign_name, next, expect}
use Rattle.text.specs.Places.{peek_at, past, end_of}
use Rattle.text.proofs.PlaceLaws.{below_or_not, drop_peek, run_length, test_in}
use Rattle.query_signs.specs.declared.Sign.TheVariants as sign
use Rattle.query_signs.specs.Marks.{mark_bytes, mark_got, mark_size}
use Rattle.query_signs.specs.Reads.{is_blank, is_wordy, NextSign}
use Rattle.query_signs.specs.Expected.{behind_mark, MarkNext, behind_name, NameNext}
use Rattle.query_signs.proofs.MarkLaws.{same_marks, no_sign}
use Rattle.query_signs.proofs.SignLaws.{and_false, and_true, none_left, sign_at_law, sign_none, sign_close, word_found, word_none, mark_found, sign_word}
use Rattle.query_signs.proofs.PlacedLaws.{word_part, next_found}
use Rattle.query_signs.proofs.ExpectLaws.{mark_met, name_end, name_met_law, name_never}

-- the first byte of a mark fails a test
opens_not : (ℕ → Bool) → Bytes → Bool
opens_not w [] = false
opens_not w (x ∷ m) = not (w x)

-- where a byte passes a test that the first byte of every mark fails, no mark stands
unmarked : (w : ℕ → Bool) (b : ℕ) (t : Bytes) (ms : List Bytes) → w b ≡ true → all (opens_not w) ms ≡ true → mark_at ms (b ∷ t) ≡ no_sign
unfolding mark_at begins all opens_not
unmarked w b t [] h k = refl
unmarked w b t ([] ∷ ms) h k = cc
unmarked w b t ((x ∷ m) ∷ ms) h k = go (eqb x b) refl (w x) refl k (unmarked w b t ms h)
  where
    go : (e : Bool) → eqb x b ≡ e → (v : Bool) → w x ≡ v → pick (not v) (all (opens_not w) ms) false ≡ true
        → (all (opens_not w) ms ≡ true → mark_at ms (b ∷ t) ≡ no_sign)
        → pick (pick e (begins m t) false) (record { got = mark (x ∷ m); size = length (x ∷ m) }) (mark_at ms (b ∷ t)) ≡ no_sign
    go e i true j k f = cc
    go true i false j k f = let z = eqb-true x b i in cc
    go false i false j k f = f k

-- no letter and no apostrophe begins a mark
not_front : ℕ → Bool
not_front b = is_letter b || eqb b 39

fronts : (chain : Bool) → all (opens_not not_front) (marks chain) ≡ true
unfolding all opens_not not_front marks is_letter between
fronts true = refl
fronts false = refl

-- the sign at a place, by a reading of each kind
module _ {B : Type 0} (r : Sign → B) (n : B) (k : r broken ≡ n) where
  or_broken_law : {A : Type 0} (f : A → Sign) (o : Maybe (Got A)) → ((a : A) → r (f a) ≡ n) → r (or_broken f o).got ≡ n
  unfolding or_broken
  or_broken_law f nothing h = k
  or_broken_law f (just g) h = h g.got

  each_kind : (chain : Bool) (b : ℕ) (t : Bytes) → (is_letter b ≡ true → (a : Bytes) → r (word a) ≡ n) → ((a : ℕ) → r (whole a) ≡ n)
      → ((a : Bytes) → r (text a) ≡ n)
      → ((is_digit b || eqb b 45 && digit_next t) ≡ false → r (mark_at (marks chain) (b ∷ t)).got ≡ n) → r (sign_at chain b t).got ≡ n
  unfolding sign_at
  each_kind chain b t u v w m = go (is_letter b) refl (is_digit b || eqb b 45 && digit_next t) refl (eqb b 39)
    where
      go : (x : Bool) → is_letter b ≡ x → (y : Bool) → (is_digit b || eqb b 45 && digit_next t) ≡ y → (z : Bool)
          → r (pick x (or_broken word (word_at (b ∷ t)))
          (pick y (or_broken whole (whole_at (b ∷ t))) (pick z (or_broken text (text_at t)) (mark_at (marks chain) (b ∷ t))))).got ≡ n
      go true e y f z = or_broken_law word (word_at (b ∷ t)) (u e)
      go false e true f z = or_broken_law whole (whole_at (b ∷ t)) v
      go false e false f true = or_broken_law text (text_at t) w
      go false e false f false = m f

  or_close : (x : Bool) (g : Sign) → r g ≡ n → r (pick x broken g) ≡ n
  or_close true g h = k
  or_close false g h = h

-- a mark is no name
nameless : (ms : List Bytes) (t : Bytes) → sign_name (mark_at ms t).got ≡ nothing
unfolding mark_at sign_name
nameless [] t = refl
nameless (m ∷ ms) t = go (begins m t) (nameless ms t)
  where
    go : (x : Bool) → sign_name (mark_at ms t).got ≡ nothing → sign_name (pick x (record { got = mark m; size = length m }) (mark_at ms t)).got ≡ nothing
    go true h = refl
    go false h = h

-- a mark of another code is another mark
other_code : (m c : ℕ) → (m ≡ c → ⊥) → is_mark (mark_bytes c) (mark_got m).got ≡ false
unfolding mark_got is_mark
other_code m c h = go (eqb m 0)
  where
    go : (x : Bool) → is_mark (mark_bytes c) (pick x no_sign (record { got = mark (mark_bytes m); size = mark_size m })).got ≡ false
    go true = refl
    go false = same_marks m c ∙ ne_eqb m c h

some_mark : (c : ℕ) → 0 < c → mark_got c ≡ no_sign → ⊥
unfolding mark_got
some_mark c h e = let z : mark (mark_bytes c) ≡ broken = ap (λ (g : Got Sign). g.got) (rw (ne_eqb c 0 (λ z. omega arith)) at e) in
    let y : ◌≡◌ {A = ℕ} 0 1 = cc in omega arith

-- the sign where a mark stands that is no number
marked : (chain : Bool) (b c : ℕ) (t : Bytes) → 0 < c → mark_got c ≡ mark_at (marks chain) (b ∷ t) → (is_digit b || eqb b 45 && digit_next t) ≡ false
    → mark_at (marks chain) (b ∷ t) ≡ sign_at chain b t
unfolding sign_at not_front
marked chain b c t h e n = rw n (go (is_letter b) refl (eqb b 39) refl)
  where
    go : (x : Bool) → is_letter b ≡ x → (y : Bool) → eqb b 39 ≡ y
        → mark_at (marks chain) (b ∷ t) ≡ pick x (or_broken word (word_at (b ∷ t))) (pick y (or_broken text (text_at t)) (mark_at (marks chain) (b ∷ t)))
    go true i y j = absurd (some_mark c h (e ∙ unmarked not_front b t (marks chain) (rw i) (fronts chain)))
    go false i true j = absurd (some_mark c h (e ∙ unmarked not_front b t (marks chain) (rw (i, j)) (fronts chain)))
    go false i false j = refl

module _ (chain close : Bool) (s : Bytes) (from at : ℕ) (p : at ≡ past is_blank s from) where
  -- another sign than the mark
  module _ (l : at < length s) (c : ℕ) where
    unlike : ((is_digit (peek_at s at) || eqb (peek_at s at) 45 && digit_next (drop (at + 1) s)) ≡ false
        → is_mark (mark_bytes c) (mark_at (marks chain) (drop at s)).got ≡ false) → MarkNext chain close s from c None
    unfolding expect behind_mark is_mark
    unlike h =
        let k = each_kind (is_mark (mark_bytes c)) false refl chain (peek_at s at) (drop (at + 1) s) (λ i a. refl) (λ a. refl) (λ a. refl)
        (λ n. rw (← drop_peek s at l) (h n)) in
        record { reads = rw (sign_at_law chain close s from at p l, or_close (is_mark (mark_bytes c)) false refl _ _ k); moves = tt; stands = λ o. tt }

    pub mark_other : (m : ℕ) → mark_got m ≡ mark_at (marks chain) (drop at s) → (m ≡ c → ⊥) → MarkNext chain close s from c None
    mark_other m e h = unlike (λ n. rw (← e) (other_code m c h))

    pub mark_number : (is_digit (peek_at s at) || eqb (peek_at s at) 45 && digit_next (drop (at + 1) s)) ≡ true → MarkNext chain close s from c None
    mark_number h = unlike (λ n. let z : true ≡ false = sym h ∙ n in cc)

    pub mark_next : 0 < c → (n : ℕ) → mark_got c ≡ mark_at (marks chain) (drop at s)
        → (is_digit (peek_at s at) || eqb (peek_at s at) 45 && digit_next (drop (at + 1) s)) ≡ false → n ≡ mark_size c
        → MarkNext chain close s from c (Some (at + n))
    unfolding is_wordy
    mark_next h n e f z = mark_met chain close s from c (at + n) (next_found chain close s from at p l (sign.Mark c) (at + n)
        (mark_found s at chain c n e z (λ z. omega arith)
        ∙ rw (drop_peek s at l) (marked chain (peek_at s at) c (drop (at + 1) s) h (rw (← drop_peek s at l) e) f)) (and_false (close && eqb at from)) tt)

  -- no word
  pub name_other : is_letter (peek_at s at) ≡ false → NameNext chain close s from None
  unfolding next and_then behind_name sign_name
  name_other h = ⊎_elim some (λ g. name_end chain close s from (none_left chain close s from at p g)) (below_or_not at (length s))
    where
      unnamed : sign_name (sign_at chain (peek_at s at) (drop (at + 1) s)).got ≡ nothing
      unnamed = each_kind sign_name nothing refl chain (peek_at s at) (drop (at + 1) s) (λ i a. let z : true ≡ false = sym i ∙ h in cc) (λ a. refl)
          (λ a. refl) (λ n. nameless (marks chain) _)

      some : at < length s → NameNext chain close s from None
      some l = record { reads = rw (sign_at_law chain close s from at p l, or_close sign_name nothing refl _ _ unnamed); moves = tt; inside = tt; stands = λ o. tt }

  -- a word, if it is not too long and does not stand right behind another
  module _ (h : is_letter (peek_at s at) ≡ true) where
    inside : at < length s
    unfolding is_letter between
    inside = test_in is_letter s at refl h

    pub name_long : None ≡ end_of at (word_at (drop at s)) → NameNext chain close s from None
    name_long e = name_end chain close s from (sign_none chain close s from at p inside (sign_word s at chain inside _ h (word_none s at e)))

    module _ (q : ℕ) (e : Some q ≡ end_of at (word_at (drop at s))) where
      pub name_within : (at ≤ q) × (q ≤ length s)
      unfolding word_at end_of
      name_within = go (leb (length (run is_word_byte (drop at s))) 24) e
        where
          go : (x : Bool) → Some q ≡ end_of at (pick x (just (record { got = run is_word_byte (drop at s); size = length (run is_word_byte (drop at s)) }))
              nothing) → (at ≤ q) × (q ≤ length s)
          go true e = let z : q ≡ at + length (run is_word_byte (drop at s)) = cc in
              (omega arith, omega (arith, inside, run_length is_word_byte (drop at s), length-drop at s))
          go false e = let z : ◌≡◌ {A = ℕ} 0 1 = cc in absurd (omega arith)

      pub name_close : (close && eqb at from) ≡ true → NameNext chain close s from None
      unfolding is_wordy
      name_close k = name_end chain close s from
          (sign_close chain close s from at p inside _ q (sign_word s at chain inside _ h (word_found s at q e)) (and_true _ ∙ k))

      module _ (k : (close && eqb at from) ≡ false) where
        word_next_law : NextSign chain close s from (Some (sign.Word (record { start = at; length = q - at }), q))
        unfolding is_wordy
        word_next_law = next_found chain close s from at p inside _ q (sign_word s at chain inside _ h (word_found s at q e)) (and_true _ ∙ k) (word_part s at q e)

        pub name_found : not (mem (part_of s at (q - at)) never_names) ≡ true
            → NameNext chain close s from (Some (record { start = at; length = q - at }, q))
        unfolding name_at
        name_found i = name_met_law chain close s from _ q word_next_law (not-true _ i)

        pub name_reserved : not (mem (part_of s at (q - at)) never_names) ≡ false → NameNext chain close s from None
        unfolding name_at
        name_reserved i = name_never chain close s from _ q word_next_law (not-false _ i)
