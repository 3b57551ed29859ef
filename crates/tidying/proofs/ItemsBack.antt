-- Items as they are written are read back: words, numbers and text values, and lists of items with one space between two.
use Prim.Native.Nat.{ℕ, zero, suc, ◌+◌, ◌-◌, ◌^◌, ◌≤◌, ◌<◌}
use mathlib.Core.Path.{◌≡◌, refl, ap, subst, ◌∙◌}
use mathlib.Core.Logic.{⊎_elim, ◌≢◌}
use mathlib.Core.List.{List, [], ◌∷◌, ◌++◌, append_assoc}
use mathlib.Core.Bool.{Bool, true, false, not}
use native.Mathlib.Omega.{arith}
use lib.ListN.{length, length-append}
use lib.Seq.{drop-append_seam}
use lib.Dec.{T, leb, eqb, leb→le, nleb→lt, not_T}
use Rattle.model.specs.Bytes.{Bytes, bytes_of}
use Rattle.model.specs.Choice.{and_then}
use Rattle.model.specs.Lists.{all}
use Rattle.model.specs.Values.{Value, int, str, bool}
use Rattle.model.specs.Words.{between, is_letter, is_digit, is_word_byte, run, biased, plain_digits, whole_at, is_text, text_at, read_as}
use Rattle.model.specs.Items.{Item, word, whole, text, list, Items, none, more, plain_at, is_list, onward, onward_with, list_at, as_list, opens, item_at}
use Rattle.model.specs.Writing.{each_behind, join_by, digits, whole_text, value_text}
use Rattle.model.specs.Tidy.{list_text}
use Rattle.model.proofs.Decides.{pick_iff}
use Rattle.model.proofs.Members.{test, is_true, is_false}
use Rattle.model.proofs.AllowedBytes.{letter_e, digit_e}
use Rattle.model.proofs.Skips.{further, list_skip}
use Rattle.model.proofs.WrittenSigns.{eqb_no, Word, before_all, Digits, whole_digits, digits_at_law, no_zero_first_plain, plain_digits_law, zero_digits, digit_no_letter}
use Rattle.model.proofs.WrittenConditions.{WritableValue}
use Rattle.renaming.proofs.RenamedWords.{sized, plain_of_word}

-- what follows an item: nothing, a space or a closing bracket
pub data Ends : Bytes → Type 0 where
  nil : Ends []
  space : {s : Bytes} → Ends (32 ∷ s)
  bracket : {s : Bytes} → Ends (41 ∷ s)

-- no word goes on there
ends_word : {s : Bytes} → Ends s → run is_word_byte s ≡ []
unfolding run is_word_byte is_letter is_digit between
ends_word nil = refl
ends_word space = refl
ends_word bracket = refl

-- and no number
ends_digit : {s : Bytes} → Ends s → run is_digit s ≡ []
unfolding run is_digit between
ends_digit nil = refl
ends_digit space = refl
ends_digit bracket = refl

-- a text begins with no space and no closing bracket
abbrev Apart : Bytes → Type 0
Apart [] = ⊥
Apart (b ∷ t) = (b ≢ 32) × (b ≢ 41)

-- nor with an opening one
abbrev Shut : Bytes → Type 0
Shut [] = ⊥
Shut (b ∷ t) = b ≢ 40

-- a text is read as an item, where d lists may still be opened
pub record ItemText (d : ℕ) (t : Bytes) (i : Item) : Type 0 where
  pub apart : Apart t
  pub reads : (s : Bytes) → Ends s → item_at d (t ++ s) ≡ sized i (length t)

-- a text is read as an item that is no list
record PlainText (t : Bytes) (i : Item) : Type 0 where
  apart : Apart t
  shut : Shut t
  reads : (s : Bytes) → Ends s → plain_at (t ++ s) ≡ sized i (length t)

-- a text that opens no list is read as such an item
not_opened : (d : ℕ) (t s : Bytes) → Shut t → item_at d (t ++ s) ≡ plain_at (t ++ s)
unfolding item_at opens
not_opened d [] s h = absurd h
not_opened zero (b ∷ t) s h = rw (eqb_no b 40 h) refl
not_opened (suc d) (b ∷ t) s h = rw (eqb_no b 40 h) refl

-- so it is an item, wherever it stands
plain_item : (d : ℕ) {t : Bytes} {i : Item} → PlainText t i → ItemText d t i
plain_item d {t} h = record { apart = h.apart; reads = λ s e. not_opened d t s h.shut ∙ h.reads s e }

-- a word
word_text : (w : Bytes) → Word w → PlainText w (word w)
word_text [] h = absurd h
word_text (b ∷ w) h =
    let l = letter_e b h.0 in
    record {
      apart = (λ z. omega arith, λ z. omega arith);
      shut = λ z. omega arith;
      reads = λ s e. plain_of_word b w s h (ends_word e);
    }

-- a whole number without a minus
plus_text : (n : ℕ) (ds : Bytes) → Digits n ds → (n ≡ 0 → ds ≡ 48 ∷ []) → n ≤ 2 ^ 63 - 1 → PlainText ds (whole (2 ^ 63 + n))
unfolding plain_at whole_at read_as biased plain_digits all
plus_text n [] r z h = absurd (plain_digits_law n [] r z)
plus_text n (d ∷ ds) r z h =
    let t = (pick_iff (is_digit d) (all is_digit ds)).1 r.every in
    let p = digit_e d t.0 in
    let q : d ≢ 45 = λ z. omega arith in
    let m : suc (length ds) + 0 ≡ suc (length ds) = omega arith in
    record {
      apart = (λ z. omega arith, λ z. omega arith);
      shut = λ z. omega arith;
      reads = λ s e. rw (
        digit_no_letter d t.0,
        is_true (is_digit d) t.0,
        eqb_no d 45 q,
        digits_at_law false n (d ∷ ds) s r (plain_digits_law n (d ∷ ds) r z) h (ends_digit e),
        m,
      ) refl;
    }

-- a whole number with one
minus_text : (n : ℕ) (ds : Bytes) → Digits n ds → 0 < n → n ≤ 2 ^ 63 → PlainText (45 ∷ ds) (whole (2 ^ 63 - n))
unfolding plain_at whole_at read_as biased is_letter is_digit between
minus_text n ds r z h =
    let m : length ds + 1 ≡ suc (length ds) = omega arith in
    record {
      apart = (λ z. omega arith, λ z. omega arith);
      shut = λ z. omega arith;
      reads = λ s e. rw (digits_at_law true n ds s r (no_zero_first_plain true ds (r.first z)) h (ends_digit e), m) refl;
    }

-- a whole number
whole_text_law : (n : ℕ) → n < 2 ^ 64 → PlainText (whole_text n) (whole n)
unfolding whole_text
whole_text_law n h = ⊎_elim
    (λ t. let l = leb→le (2 ^ 63) n t in
    let z : 2 ^ 63 + (n - 2 ^ 63) ≡ n = omega arith in
    rw (is_true (leb (2 ^ 63) n) t) (subst (λ k. PlainText (digits 20 (n - 2 ^ 63)) (whole k)) z
    (plus_text (n - 2 ^ 63) (digits 20 (n - 2 ^ 63)) (whole_digits (n - 2 ^ 63) (omega arith)) (zero_digits (n - 2 ^ 63)) (omega arith))))
    (λ t. let l : n < 2 ^ 63 = nleb→lt (2 ^ 63) n (not_T (leb (2 ^ 63) n) t) in
    let z : 2 ^ 63 - (2 ^ 63 - n) ≡ n = omega arith in
    rw (is_false (leb (2 ^ 63) n) t) (subst (λ k. PlainText (45 ∷ digits 20 (2 ^ 63 - n)) (whole k)) z
    (minus_text (2 ^ 63 - n) (digits 20 (2 ^ 63 - n)) (whole_digits (2 ^ 63 - n) (omega arith)) (omega arith) (omega arith))))
    (test (leb (2 ^ 63) n))

-- a text value, between its apostrophes
string_text : (t : Bytes) → T (is_text t) → T (all (λ b. not (eqb b 39)) t) → PlainText (39 ∷ t ++ (39 ∷ [])) (text t)
unfolding plain_at text_at read_as is_letter is_digit between and_then
string_text t h a =
    let n : length t + 2 ≡ suc (length (t ++ (39 ∷ []))) = omega (arith, length-append t (39 ∷ [])) in
    record {
      apart = (λ z. omega arith, λ z. omega arith);
      shut = λ z. omega arith;
      reads = λ s e. rw (append_assoc t (39 ∷ []) s, before_all 39 t s a refl, is_true (is_text t) h, n) refl;
    }

-- a value as an item
abbrev pub value_item : Value → Item
value_item (int n) = whole n
value_item (str t) = text t
value_item (bool true) = word (bytes_of "true")
value_item (bool false) = word (bytes_of "false")

-- a value is read as it
value_text_law : (v : Value) → WritableValue v → PlainText (value_text v) (value_item v)
unfolding value_text is_letter is_word_byte is_digit between all
value_text_law (int n) h = whole_text_law n h
value_text_law (str t) h = string_text t h.0 h.1
value_text_law (bool true) h = word_text (bytes_of "true") (tt, tt, omega arith)
value_text_law (bool false) h = word_text (bytes_of "false") (tt, tt, omega arith)

-- a word is read wherever it stands
pub word_item : (d : ℕ) (w : Bytes) → Word w → ItemText d w (word w)
word_item d w h = plain_item d (word_text w h)

-- and so is a value
pub value_item_law : (d : ℕ) (v : Value) → WritableValue v → ItemText d (value_text v) (value_item v)
value_item_law d v h = plain_item d (value_text_law v h)

-- texts are read as items, one by one
abbrev pub ItemTexts : ℕ → List Bytes → Items → Type 0
ItemTexts d [] none = Unit {0}
ItemTexts d [] (more i is) = ⊥
ItemTexts d (t ∷ ts) none = ⊥
ItemTexts d (t ∷ ts) (more i is) = ItemText d t i × ItemTexts d ts is

-- an item before the rest of its list
item_before : (d : ℕ) (t : Bytes) (i : Item) (s : Bytes) (is : Items) (n : ℕ) → ItemText d t i → Ends s → list_at (item_at d) (is_list i) 0 s ≡ sized is n
    → list_at (item_at d) true 0 (t ++ s) ≡ sized (more i is) (length t + n)
unfolding list_at onward_with further and_then
item_before d [] i s is n h e r = absurd h.apart
item_before d (b ∷ t) i s is n h e r =
    let m : suc (length t) - 1 ≡ length t = omega arith in
    let k : n + length t + 1 ≡ suc (length t) + n = omega arith in
    let g : list_at (item_at d) (is_list i) (length t) (t ++ s) ≡ sized is (n + length t) =
    list_skip (item_at d) (is_list i) (length t) (t ++ s) ∙ ap (λ x. further (length t) (list_at (item_at d) (is_list i) 0 x)) (drop-append_seam t s)
    ∙ ap (further (length t)) r in
    rw (eqb_no b 32 h.apart.0, eqb_no b 41 h.apart.1, h.reads s e, m, g, k) refl

-- items, each behind a space
abbrev spaced : List Bytes → Bytes
spaced ts = each_behind (bytes_of " ") ts

-- what follows an item of a list is a space or the closing bracket
spaced_ends : (ts : List Bytes) (s : Bytes) → Ends (spaced ts ++ 41 ∷ s)
unfolding each_behind
spaced_ends [] s = bracket
spaced_ends (t ∷ ts) s = space

-- an item before items behind spaces, up to the closing bracket
item_spaced : (d : ℕ) (t : Bytes) (i : Item) (ts : List Bytes) (is : Items) (s : Bytes) → ItemText d t i
    → list_at (item_at d) (is_list i) 0 (spaced ts ++ 41 ∷ s) ≡ sized is (suc (length (spaced ts)))
    → list_at (item_at d) true 0 (t ++ spaced ts ++ 41 ∷ s) ≡ sized (more i is) (suc (length (t ++ spaced ts)))
item_spaced d t i ts is s h r =
    let n : length t + suc (length (spaced ts)) ≡ suc (length (t ++ spaced ts)) = omega (arith, length-append t (spaced ts)) in
    ap (list_at (item_at d) true 0) (append_assoc t (spaced ts) (41 ∷ s)) ∙ item_before d t i (spaced ts ++ 41 ∷ s) is _ h (spaced_ends ts s) r
    ∙ ap (sized (more i is)) n

-- items behind spaces, up to the closing bracket
spaced_list : (d : ℕ) (free : Bool) (ts : List Bytes) (is : Items) (s : Bytes) → ItemTexts d ts is
    → list_at (item_at d) free 0 (spaced ts ++ 41 ∷ s) ≡ sized is (suc (length (spaced ts)))
unfolding list_at each_behind onward
spaced_list d free [] none s h = refl
spaced_list d free [] (more i is) s h = absurd h
spaced_list d free (t ∷ ts) none s h = absurd h
spaced_list d free (t ∷ ts) (more i is) s h =
    let n : suc (length (t ++ spaced ts)) + 1 ≡ suc (suc (length (t ++ spaced ts))) = omega arith in
    rw (item_spaced d t i ts is s h.0 (spaced_list d (is_list i) ts is s h.1), n) refl

-- items with a space between two, up to the closing bracket
joined_list : (d : ℕ) (ts : List Bytes) (is : Items) (s : Bytes) → ItemTexts d ts is
    → list_at (item_at d) true 0 (join_by (bytes_of " ") ts ++ 41 ∷ s) ≡ sized is (suc (length (join_by (bytes_of " ") ts)))
unfolding list_at join_by
joined_list d [] none s h = refl
joined_list d [] (more i is) s h = absurd h
joined_list d (t ∷ ts) none s h = absurd h
joined_list d (t ∷ ts) (more i is) s h = item_spaced d t i ts is s h.0 (spaced_list d (is_list i) ts is s h.1)

-- a list of such items
pub list_item : (d : ℕ) (ts : List Bytes) (is : Items) → ItemTexts d ts is → ItemText (suc d) (list_text ts) (list is)
unfolding list_text item_at as_list opens
list_item d ts is h =
    let j = join_by (bytes_of " ") ts in
    let n : suc (length j) + 1 ≡ suc (length (j ++ (41 ∷ []))) = omega (arith, length-append j (41 ∷ [])) in
    record {
      apart = (λ z. omega arith, λ z. omega arith);
      reads = λ s e. rw (append_assoc j (41 ∷ []) s, joined_list d ts is s h, n) refl;
    }
