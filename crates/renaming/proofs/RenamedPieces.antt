-- The pieces that the renaming makes of a line: the words that it looks at, what the new line is behind each, and that the old bytes all stay.
use Prim.Native.Nat.{ℕ, zero, suc, ◌+◌}
use mathlib.Core.Path.{◌≡◌, refl, ap, ◌∙◌}
use mathlib.Core.List.{List, [], ◌∷◌, ◌++◌, append_assoc, append-nil}
use mathlib.Core.Bool.{Bool, true, false, not, ◌&&◌}
use native.Mathlib.Omega.{arith}
use lib.ListN.{length, take, drop, take-append-drop}
use lib.Seq.{take-append-add, take-append_seam, drop-append_seam, drop-append-add}
use lib.Dec.{T}
use Rattle.model.specs.Bytes.{Bytes}
use Rattle.model.specs.Choice.{pick}
use Rattle.model.specs.Lists.{all, any, joined}
use Rattle.model.specs.Names.{Name, mem}
use Rattle.model.specs.Words.{is_word_byte, run}
use Rattle.model.specs.Renaming.{suffix, added, before_word, first_word, behind_word, after_word, node_words, pieces_of, line_pieces, piece_bytes}
use Rattle.model.specs.Renaming.{old_bytes, new_name}
use Rattle.model.proofs.Decides.{pick_iff}
use Rattle.model.proofs.Members.{is_true}
use Rattle.model.proofs.AllowedBytes.{all_append, all_drop}
use Rattle.model.proofs.WrittenSigns.{Word, run_all}

-- a byte of no word
abbrev pub no_word_byte : ℕ → Bool
no_word_byte b = not (is_word_byte b)

-- the first word of a text and where it stands: no byte of a word is before it, and what stands behind it does not go on with it
pub record FirstIs (p w t : Bytes) : Type 0 where
  pub before : before_word (p ++ (w ++ t)) ≡ length p
  pub here : first_word (p ++ (w ++ t)) ≡ w
  pub behind : behind_word (p ++ (w ++ t)) ≡ length p + length w
  pub after : after_word (p ++ (w ++ t)) ≡ t

-- a word behind bytes of no word is the first
pub first_is : (p w t : Bytes) → T (all no_word_byte p) → Word w → run is_word_byte t ≡ [] → FirstIs p w t
unfolding before_word first_word behind_word after_word run all
first_is p [] t a h e = absurd h
first_is p (b ∷ w) t a h e =
    let u = (pick_iff (is_word_byte b) (all is_word_byte w)).1 h.1 in
    let n : run no_word_byte (b ∷ w ++ t) ≡ [] = rw (is_true (is_word_byte b) u.0) refl in
    let f : before_word (p ++ (b ∷ w ++ t)) ≡ length p = ap length (run_all no_word_byte p (b ∷ w ++ t) a n) in
    let g : first_word (p ++ (b ∷ w ++ t)) ≡ b ∷ w =
    ap (λ k. run is_word_byte (drop k (p ++ (b ∷ w ++ t)))) f ∙ ap (run is_word_byte) (drop-append_seam p (b ∷ w ++ t)) ∙ run_all is_word_byte (b ∷ w) t h.1 e in
    let k : behind_word (p ++ (b ∷ w ++ t)) ≡ length p + suc (length w) = cc in
    record {
      before = f;
      here = g;
      behind = k;
      after = ap (λ n. drop n (p ++ (b ∷ w ++ t))) k ∙ drop-append-add p (b ∷ w ++ t) (suc (length w)) ∙ drop-append_seam (b ∷ w) t;
    }

-- the new bytes of words one after another
abbrev pub words_anew : List Name → List Bool → Bytes → Bytes
words_anew later ms s = joined piece_bytes (pieces_of later ms s)

-- a word of the new line, told whether it names a node
abbrev pub new_word : Bool → List Name → Bytes → Bytes
new_word true later w = new_name later w
new_word false later w = w

-- a word, and then the others: `_b` stands behind it if it names a node and is a later name
pub words_anew_law : (later : List Name) (m : Bool) (ms : List Bool) (p w t : Bytes) → T (all no_word_byte p) → Word w → run is_word_byte t ≡ []
    → words_anew later (m ∷ ms) (p ++ (w ++ t)) ≡ p ++ (new_word m later w ++ words_anew later ms t)
unfolding pieces_of joined piece_bytes new_name
words_anew_law later m ms p w t a h e =
    let f = first_is p w t a h e in
    rw (f.here, f.behind, f.after, take-append-add p (w ++ t) (length w), take-append_seam w t) (kinds m)
  where
    go : (c : Bool) → p ++ w ++ joined piece_bytes (pick c (added ∷ pieces_of later ms t) (pieces_of later ms t))
        ≡ p ++ (pick c (w ++ suffix) w ++ words_anew later ms t)
    go true = simp append_assoc
    go false = append_assoc p w (words_anew later ms t)

    kinds : (m : Bool) → p ++ w ++ joined piece_bytes (pick (m && mem w later) (added ∷ pieces_of later ms t) (pieces_of later ms t))
        ≡ p ++ (new_word m later w ++ words_anew later ms t)
    kinds true = go (mem w later)
    kinds false = go false

-- bytes of no word before a text change neither its words nor what the renaming does with them
pub record Before (later : List Name) (p s : Bytes) : Type 0 where
  pub first : first_word (p ++ s) ≡ first_word s
  pub after : after_word (p ++ s) ≡ after_word s
  pub anew : (m : Bool) (ms : List Bool) → words_anew later (m ∷ ms) (p ++ s) ≡ p ++ words_anew later (m ∷ ms) s

-- one such byte
byte_before : (b : ℕ) (s : Bytes) → T (no_word_byte b)
    → (first_word (b ∷ s) ≡ first_word s) × (behind_word (b ∷ s) ≡ suc (behind_word s)) × (after_word (b ∷ s) ≡ after_word s)
unfolding before_word first_word behind_word after_word run
byte_before b s a =
    let f : before_word (b ∷ s) ≡ suc (before_word s) = rw (is_true (no_word_byte b) a) refl in
    let g : first_word (b ∷ s) ≡ first_word s = ap (λ k. run is_word_byte (drop k (b ∷ s))) f in
    let h : length (first_word (b ∷ s)) ≡ length (first_word s) = ap length g in
    let k : behind_word (b ∷ s) ≡ suc (behind_word s) = omega arith in
    (g, k, ap (λ n. drop n (b ∷ s)) k)

-- all such bytes
pub before_words : (later : List Name) (p s : Bytes) → T (all no_word_byte p) → Before later p s
unfolding all pieces_of joined piece_bytes
before_words later [] s a = record { first = refl; after = refl; anew = λ m ms. refl }
before_words later (b ∷ p) s a =
    let u = (pick_iff (no_word_byte b) (all no_word_byte p)).1 a in
    let k = byte_before b (p ++ s) u.0 in
    let r = before_words later p s u.1 in
    record {
      first = k.0 ∙ r.first;
      after = k.2 ∙ r.after;
      anew = λ m ms. rw (k.0, k.1, k.2) (ap (λ x. b ∷ x) (r.anew m ms));
    }

-- the first bytes of a text that passes a test pass it
all_take : (q : ℕ → Bool) (k : ℕ) (s : Bytes) → T (all q s) → T (all q (take k s))
unfolding all
all_take q zero s t = tt
all_take q (suc k) [] t = t
all_take q (suc k) (b ∷ s) t = let u = (pick_iff (q b) (all q s)).1 t in (pick_iff (q b) (all q (take k s))).0 (u.0, all_take q k s u.1)

-- nor does what stands after the first word fail it
all_after : (q : ℕ → Bool) (s : Bytes) → T (all q s) → T (all q (after_word s))
unfolding after_word
all_after q s t = all_drop q (behind_word s) s t

-- a test that the old bytes and `_b` pass is passed by the new ones
pub words_pass : (q : ℕ → Bool) → T (all q suffix) → (later : List Name) (ms : List Bool) (s : Bytes) → T (all q s) → T (all q (words_anew later ms s))
unfolding pieces_of joined piece_bytes
words_pass q a later [] s t = rw (append-nil s) t
words_pass q a later (m ∷ ms) s t = all_append q (take (behind_word s) s) _ (all_take q (behind_word s) s t)
    (go (m && mem (first_word s) later) (words_pass q a later ms (after_word s) (all_after q s t)))
  where
    go : (c : Bool) → T (all q (words_anew later ms (after_word s)))
        → T (all q (joined piece_bytes (pick c (added ∷ pieces_of later ms (after_word s)) (pieces_of later ms (after_word s)))))
    go true k = all_append q suffix (words_anew later ms (after_word s)) a k
    go false k = k

-- a text is what stands up to behind its first word, and what stands after it
word_split : (s : Bytes) → take (behind_word s) s ++ after_word s ≡ s
unfolding after_word
word_split s = take-append-drop (behind_word s) s

-- the old bytes all stay
pub words_kept : (later : List Name) (ms : List Bool) (s : Bytes) → joined old_bytes (pieces_of later ms s) ≡ s
unfolding pieces_of joined old_bytes
words_kept later [] s = append-nil s
words_kept later (m ∷ ms) s = go (m && mem (first_word s) later) (words_kept later ms (after_word s))
  where
    go : (c : Bool) → joined old_bytes (pieces_of later ms (after_word s)) ≡ after_word s
        → take (behind_word s) s ++ joined old_bytes (pick c (added ∷ pieces_of later ms (after_word s)) (pieces_of later ms (after_word s))) ≡ s
    go true ih = ap (λ r. take (behind_word s) s ++ r) ih ∙ word_split s
    go false ih = ap (λ r. take (behind_word s) s ++ r) ih ∙ word_split s

-- without later names nothing is added
pub words_same : (ms : List Bool) (s : Bytes) → words_anew [] ms s ≡ s
unfolding pieces_of joined piece_bytes mem any
words_same [] s = append-nil s
words_same (true ∷ ms) s = ap (λ r. take (behind_word s) s ++ r) (words_same ms (after_word s)) ∙ word_split s
words_same (false ∷ ms) s = ap (λ r. take (behind_word s) s ++ r) (words_same ms (after_word s)) ∙ word_split s

-- nor where no word names a node
pub no_node_word : (later : List Name) (s : Bytes) → node_words (first_word s) ≡ [] → joined piece_bytes (line_pieces later s) ≡ s
unfolding line_pieces pieces_of joined piece_bytes
no_node_word later s e = rw e (rw (append-nil (after_word s)) (word_split s))
