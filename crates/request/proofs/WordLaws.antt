-- The words of a text: runs of word bytes, spaces, and an item that is a word.
use Prim.Native.Nat.{ℕ, zero, suc, ◌+◌, ◌<◌}
use mathlib.Core.Path.{◌≡◌, refl, ap, ◌∙◌}
use mathlib.Core.List.{List, [], ◌∷◌, ◌++◌}
use mathlib.Core.Bool.{Bool, true, false, not, ◌&&◌, ◌||◌}
use native.Mathlib.Omega.{arith}
use lib.ListN.{length, drop}
use lib.Dec.{leb, eqb}
use borrow.Author.Tests.{eqb-true}
use Rattle.std.specs.Prelude.{Some}
use Rattle.model.specs.Bytes.{Bytes}
use Rattle.model.specs.Choice.{pick, Maybe, nothing, just}
use Rattle.model.specs.Words.{Got, between, is_letter, is_digit, is_word_byte, run, word_at, whole_at, text_at, quoted_at, read_as}
use Rattle.model.specs.Items.{Item, word, whole, text, quoted, list, Items, opens, plain_at, list_at, as_list, item_at}
use Rattle.model.specs.RequestPlaces.{words_from}
use Rattle.model.specs.declared.Part.{Part}
use Rattle.text.specs.Places.{is_space}
use Rattle.items.specs.declared.ItemEnd.TheVariants.{Word}
use Rattle.items.specs.Reads.{kind_at, read_of}

-- a byte that is no word byte begins no word
pub no_word : (inside : Bool) (at b : ℕ) (t : Bytes) → is_word_byte b ≡ false → words_from inside at (b ∷ t) ≡ words_from false (at + 1) t
unfolding words_from
no_word inside at b t e = rw e

-- behind the first byte of a word the next word begins behind its run
behind_run : (at : ℕ) (t : Bytes) → words_from true at t ≡ words_from false (at + length (run is_word_byte t)) (drop (length (run is_word_byte t)) t)
unfolding words_from run
behind_run at [] = refl
behind_run at (b ∷ t) = go (is_word_byte b) refl (behind_run (at + 1) t)
  where
    n : ℕ
    n = length (run is_word_byte t)

    go : (x : Bool) → is_word_byte b ≡ x → words_from true (at + 1) t ≡ words_from false (at + 1 + n) (drop n t)
        → words_from true at (b ∷ t) ≡ words_from false (at + length (run is_word_byte (b ∷ t))) (drop (length (run is_word_byte (b ∷ t))) (b ∷ t))
    go true e r = let z : at + 1 + n ≡ at + suc n = omega arith in rw e (r ∙ ap (λ (m : ℕ). words_from false m (drop n t)) z)
    go false e r = let z : at + 1 ≡ at + 0 + 1 = omega arith in rw (e, e) (ap (λ (m : ℕ). words_from false m t) z)

-- a run of word bytes is a word
pub words_run : (at : ℕ) (t : Bytes) → 0 < length (run is_word_byte t)
    → words_from false at t ≡ record { start = at; length = length (run is_word_byte t) } ∷ words_from false (at + length (run is_word_byte t))
    (drop (length (run is_word_byte t)) t)
unfolding words_from run
words_run at [] h = absurd (omega arith)
words_run at (b ∷ t) h = go (is_word_byte b) refl h
  where
    n : ℕ
    n = length (run is_word_byte t)

    go : (x : Bool) → is_word_byte b ≡ x → 0 < length (pick x (b ∷ run is_word_byte t) [])
        → words_from false at (b ∷ t) ≡ record { start = at; length = length (run is_word_byte (b ∷ t)) } ∷ words_from false
        (at + length (run is_word_byte (b ∷ t))) (drop (length (run is_word_byte (b ∷ t))) (b ∷ t))
    go true e h =
        let z : at + 1 + n ≡ at + suc n = omega arith in
        rw e (ap (λ (l : List Part). record { start = at; length = suc n } ∷ l) (behind_run (at + 1) t ∙ ap (λ (m : ℕ). words_from false m (drop n t)) z))
    go false e h = absurd (omega arith)

-- spaces have no words
pub words_spaces : (at : ℕ) (t : Bytes) → words_from false at t ≡ words_from false (at + length (run is_space t)) (drop (length (run is_space t)) t)
unfolding run is_space is_word_byte is_letter is_digit between
words_spaces at [] = let z : at ≡ at + 0 = omega arith in ap (λ (m : ℕ). words_from false m []) z
words_spaces at (b ∷ t) = go (eqb b 32) refl (words_spaces (at + 1) t)
  where
    n : ℕ
    n = length (run is_space t)

    go : (x : Bool) → eqb b 32 ≡ x → words_from false (at + 1) t ≡ words_from false (at + 1 + n) (drop n t)
        → words_from false at (b ∷ t) ≡ words_from false (at + length (pick x (b ∷ run is_space t) [])) (drop (length (pick x (b ∷ run is_space t) [])) (b ∷ t))
    go true e r =
        let z : at + 1 + n ≡ at + suc n = omega arith in
        no_word false at b t (ap is_word_byte (eqb-true b 32 e)) ∙ r ∙ ap (λ (m : ℕ). words_from false m (drop n t)) z
    go false e r = let z : at ≡ at + 0 = omega arith in ap (λ (m : ℕ). words_from false m (b ∷ t)) z

-- an item that is a word is the run at the front
abbrev pub ByKind : Bytes → Item → ℕ → Type 0
ByKind t (word w) n = (n ≡ length (run is_word_byte t)) × (0 < n)
ByKind t (whole z) n = Unit {0}
ByKind t (text z) n = Unit {0}
ByKind t (quoted z) n = Unit {0}
ByKind t (list is) n = Unit {0}

abbrev pub IsRun : Bytes → Maybe (Got Item) → Type 0
IsRun t nothing = Unit {0}
IsRun t (just g) = ByKind t g.got g.size

run_or : (t : Bytes) (b : Bool) (x y : Maybe (Got Item)) → IsRun t x → IsRun t y → IsRun t (pick b x y)
run_or t true x y h k = h
run_or t false x y h k = k

word_run : (t : Bytes) → 0 < length (run is_word_byte t) → IsRun t (read_as word (word_at t))
unfolding word_at read_as
word_run t h = go (leb (length (run is_word_byte t)) 24)
  where
    go : (b : Bool) → IsRun t (read_as word (pick b (just (record { got = run is_word_byte t; size = length (run is_word_byte t) })) nothing))
    go true = (refl, h)
    go false = tt

letter_run : (b : ℕ) (t : Bytes) → is_letter b ≡ true → 0 < length (run is_word_byte (b ∷ t))
unfolding run is_word_byte
letter_run b t e = rw e (omega arith)

other_run : {A : Type 0} (t : Bytes) (f : A → Item) (o : Maybe (Got A)) → ((a : A) (n : ℕ) → ByKind t (f a) n) → IsRun t (read_as f o)
unfolding read_as
other_run t f nothing h = tt
other_run t f (just g) h = h g.got g.size

plain_run : (t : Bytes) → IsRun t (plain_at t)
unfolding plain_at
plain_run [] = tt
plain_run (b ∷ s) = go (is_letter b) refl
  where
    go : (x : Bool) → is_letter b ≡ x → IsRun (b ∷ s)
        (pick x (read_as word (word_at (b ∷ s))) (pick (is_digit b || eqb b 45) (read_as whole (whole_at (b ∷ s)))
        (pick (eqb b 39) (read_as text (text_at s)) (pick (eqb b 34) (read_as quoted (quoted_at s)) nothing))))
    go true e = word_run (b ∷ s) (letter_run b s e)
    go false e =
        run_or (b ∷ s) (is_digit b || eqb b 45) (read_as whole (whole_at (b ∷ s))) _ (other_run (b ∷ s) whole (whole_at (b ∷ s)) (λ a n. tt))
        (run_or (b ∷ s) (eqb b 39) (read_as text (text_at s)) _ (other_run (b ∷ s) text (text_at s) (λ a n. tt))
        (run_or (b ∷ s) (eqb b 34) (read_as quoted (quoted_at s)) nothing (other_run (b ∷ s) quoted (quoted_at s) (λ a n. tt)) tt))

list_run : (t : Bytes) (o : Maybe (Got Items)) → IsRun t (as_list o)
unfolding as_list
list_run t nothing = tt
list_run t (just g) = tt

pub item_run : (d : ℕ) (t : Bytes) → IsRun t (item_at d t)
unfolding item_at
item_run zero t = run_or t (opens t) nothing (plain_at t) tt (plain_run t)
item_run (suc d) t = run_or t (opens t) _ (plain_at t) (list_run t (list_at (item_at d) true 0 (drop 1 t))) (plain_run t)

pub read_run : (t : Bytes) (p q : ℕ) (o : Maybe (Got Item)) → IsRun t o → read_of p o ≡ Some (Word q)
    → (q ≡ p + length (run is_word_byte t)) × (0 < length (run is_word_byte t))
unfolding read_of kind_at
read_run t p q nothing h e = let z : ◌≡◌ {A = ℕ} 0 1 = cc in absurd (omega arith)
read_run t p q (just g) h e = go g.got h e
  where
    go : (x : Item) → ByKind t x g.size → Some (kind_at x (p + g.size)) ≡ Some (Word q) → (q ≡ p + length (run is_word_byte t)) × (0 < length (run is_word_byte t))
    go (word w) h e = let z : p + g.size ≡ q = cc in (omega (arith, h.0), omega (arith, h.0, h.1))
    go (whole n) h e = let z : ◌≡◌ {A = ℕ} 0 1 = cc in absurd (omega arith)
    go (text n) h e = let z : ◌≡◌ {A = ℕ} 0 1 = cc in absurd (omega arith)
    go (quoted n) h e = let z : ◌≡◌ {A = ℕ} 0 1 = cc in absurd (omega arith)
    go (list n) h e = let z : ◌≡◌ {A = ℕ} 0 1 = cc in absurd (omega arith)

-- a line feed behind a line adds no word
run_fed : (t : Bytes) → run is_word_byte (t ++ (10 ∷ [])) ≡ run is_word_byte t
unfolding run is_word_byte is_letter is_digit between
run_fed [] = refl
run_fed (b ∷ t) = ap (λ (r : Bytes). pick (is_word_byte b) (b ∷ r) []) (run_fed t)

words_on : (inside : Bool) (at : ℕ) (t : Bytes) → words_from inside at (t ++ (10 ∷ [])) ≡ words_from inside at t
unfolding words_from is_word_byte is_letter is_digit between
words_on inside at [] = refl
words_on inside at (b ∷ t) =
    λ i. pick (is_word_byte b && not inside) (record { start = at; length = length (run_fed (b ∷ t) i) } ∷ words_on (is_word_byte b) (at + 1) t i)
    (words_on (is_word_byte b) (at + 1) t i)

pub words_fed : (s : Bytes) → words_from false 0 (s ++ (10 ∷ [])) ≡ words_from false 0 s
words_fed s = words_on false 0 s
