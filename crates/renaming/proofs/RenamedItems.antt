-- The list that a line is, with new words: a word with `_b` behind it is read as one, the rest as before; and how many bytes that makes.
use Prim.Native.Nat.{ℕ, suc, ◌+◌, ◌*◌, ◌≤◌}
use mathlib.Core.Path.{◌≡◌, refl, sym, ap, subst, ◌∙◌}
use mathlib.Core.Logic.{⊎_elim}
use mathlib.Core.List.{List, [], ◌∷◌, ◌++◌}
use mathlib.Core.Bool.{Bool, true, false}
use native.Mathlib.Omega.{arith}
use lib.ListN.{length, drop, length-append}
use lib.Seq.{drop-append_seam}
use lib.Dec.{T, eqb, eqb→eq, T_not}
use Rattle.model.specs.Bytes.{Bytes}
use Rattle.model.specs.Choice.{pick, Maybe, nothing, just, and_then}
use Rattle.model.specs.Lists.{all}
use Rattle.model.specs.Names.{Name, mem}
use Rattle.model.specs.Items.{Item, word, whole, text, quoted, list, Items, none, more, plain_at, list_at, as_list}
use Rattle.model.specs.Items.{opens, item_at, item_list, items_of, line_items}
use Rattle.model.specs.Words.{Got, between, is_letter, is_digit, is_word_byte, run, word_at}
use Rattle.model.specs.Renaming.{suffix, first_word, after_word, new_name}
use Rattle.model.proofs.Members.{test, is_true, is_false}
use Rattle.model.proofs.Outcomes.{no_just, then_e}
use Rattle.model.proofs.AllowedBytes.{all_more, all_append}
use Rattle.model.proofs.WrittenSigns.{Word, run_all}
use Rattle.renaming.proofs.RenamedParts.{marked}
use Rattle.renaming.proofs.RenamedWords.{Rest, is_space, read_e, Valued, plain_kinds, WordFirst, word_first, word_put, run_split, run_passes}
use Rattle.renaming.proofs.RenamedPieces.{no_word_byte, words_anew, words_anew_law, new_word, first_is}

-- a byte that is one of these is of no word
space_no_word : (b : ℕ) → T (is_space b) → T (no_word_byte b)
unfolding is_word_byte is_letter is_digit between
space_no_word b t = rw (eqb→eq b 32 t) tt

-- so spaces are bytes of no word
pub spaces_no_word : (p : Bytes) → T (all is_space p) → T (all no_word_byte p)
spaces_no_word p t = all_more is_space no_word_byte space_no_word p t

-- a text that begins with such a byte does not go on with a word
no_run : (b : ℕ) (s : Bytes) → T (no_word_byte b) → run is_word_byte (b ∷ s) ≡ []
unfolding run
no_run b s t = rw (is_false (is_word_byte b) (T_not (is_word_byte b) t)) refl

-- where no item may begin the rest of a list begins with no byte of a word
rest_ends : (d : ℕ) (s : Bytes) (is : Items) (behind : Bytes) → Rest d false s is behind → run is_word_byte s ≡ []
unfolding list_at is_word_byte is_letter is_digit between
rest_ends d [] is behind r = no_just _ r.reads
rest_ends d (b ∷ s) is behind r = ⊎_elim (λ t. no_run b s (space_no_word b t))
    (λ t. ⊎_elim (λ u. no_run b s (rw (eqb→eq b 41 u) tt))
    (λ u. ⊎_elim (λ v. no_run b s (rw (eqb→eq b 40 v) tt))
    (λ v. no_just _ (rw (is_false (eqb b 32) t, is_false (eqb b 41) u, is_false (eqb b 40) v) at r.reads))
    (test (eqb b 40))) (test (eqb b 41))) (test (eqb b 32))

-- the word that a list begins with is its first word
pub word_places : (free : Bool) (s w t : Bytes) → WordFirst free s w t → (first_word s ≡ w) × (after_word s ≡ t)
word_places free s w t h =
    let f = first_is h.spaces w t (spaces_no_word h.spaces h.blank) h.is_word h.ends in
    (ap first_word h.whole ∙ f.here, ap after_word h.whole ∙ f.after)

-- `_b` can stand in a word
suffix_in_word : T (all is_word_byte suffix)
unfolding all is_word_byte is_letter is_digit between
suffix_in_word = tt

-- a new word is one, if it is not too long
new_word_law : (m : Bool) (later : List Name) (w : Bytes) → Word w → length (new_word m later w) ≤ 24 → Word (new_word m later w)
unfolding new_name
new_word_law m later [] h l = absurd h
new_word_law false later (b ∷ w) h l = h
new_word_law true later (b ∷ w) h l = go (mem (b ∷ w) later) l
  where
    go : (c : Bool) → length (pick c (b ∷ w ++ suffix) (b ∷ w)) ≤ 24 → Word (pick c (b ∷ w ++ suffix) (b ∷ w))
    go true l = (h.0, all_append is_word_byte (b ∷ w) suffix h.1 suffix_in_word, omega (arith, l))
    go false l = h

-- its length
new_length : (m : Bool) (later : List Name) (w : Bytes) → length (new_word m later w) ≡ length w + 2 * pick m (marked later w) 0
unfolding new_name marked
new_length false later w = omega arith
new_length true later w = go (mem w later)
  where
    go : (c : Bool) → length (pick c (w ++ suffix) w) ≡ length w + 2 * pick c 1 0
    go true = length-append w suffix
    go false = omega arith

module _ (later : List Name) (m : Bool) (ms : List Bool) (free : Bool) (s w t : Bytes) (h : WordFirst free s w t) where
  -- what the new list is
  step : words_anew later (m ∷ ms) s ≡ h.spaces ++ (new_word m later w ++ words_anew later ms t)
  step = rw h.whole (words_anew_law later m ms h.spaces w t (spaces_no_word h.spaces h.blank) h.is_word h.ends)

  -- a list that begins with a word, with a new word there
  pub word_anew : (d : ℕ) (is : Items) (behind : Bytes) → length (new_word m later w) ≤ 24 → Rest d false (words_anew later ms t) is behind
      → Rest d free (words_anew later (m ∷ ms) s) (more (word (new_word m later w)) is) behind
  word_anew d is behind l r = rw step (word_put d free h.spaces (new_word m later w) (words_anew later ms t) is behind h.blank h.apart
      (new_word_law m later w h.is_word l) (rest_ends d (words_anew later ms t) is behind r) r)

  -- its length: 2 bytes for a later name, and what the words behind it get
  pub word_counted : length (words_anew later (m ∷ ms) s) + length t ≡ length s + 2 * pick m (marked later w) 0 + length (words_anew later ms t)
  word_counted =
      let a = ap length step ∙ length-append h.spaces (new_word m later w ++ words_anew later ms t) in
      let b = length-append (new_word m later w) (words_anew later ms t) in
      let c = ap length h.whole ∙ length-append h.spaces (w ++ t) in
      omega (arith, length-append w t, new_length m later w)

-- the items of a list from its first item on
items_cons : (is : Items) (i : Item) (js : List Item) → item_list is ≡ i ∷ js → (ks : Items) × (is ≡ more i ks) × (item_list ks ≡ js)
unfolding item_list
items_cons none i js e = let z : ◌≡◌ {A = ℕ} 0 1 = cc in absurd (omega arith)
items_cons (more j ks) i js e = let f : j ≡ i = cc in (ks, ap (λ x. more x ks) f, cc)

-- a list, or the rest of one, whose first item is a word, taken apart
pub record Begins (free : Bool) (s w : Bytes) (js : List Item) (behind : Bytes) : Type 0 where
  pub after : Bytes
  pub first : WordFirst free s w after
  pub items : Items
  pub listed : item_list items ≡ js
  pub rest : Rest 3 false after items behind

-- its words and items are found
pub begins : (free : Bool) (s w : Bytes) (is : Items) (js : List Item) (behind : Bytes) → item_list is ≡ word w ∷ js → Rest 3 free s is behind
    → Begins free s w js behind
begins free s w is js behind e r =
    let k = items_cons is (word w) js e in
    let f = word_first 3 free s w k.0 behind (rw k.1 at r) in
    record { after = f.0; first = f.1; items = k.0; listed = k.2; rest = f.2 }

-- a line that is one list: spaces, a bracket, the list, spaces
pub record OneList (s u : Bytes) (is : Items) : Type 0 where
  pub front : Bytes
  pub blank : T (all is_space front)
  pub whole : s ≡ front ++ (40 ∷ u)
  pub behind : Bytes
  pub spaces : T (all is_space behind)
  pub rest : Rest 3 true u is behind

-- its items are those of the list
pub one_list_read : (s u : Bytes) (is : Items) → OneList s u is → line_items s ≡ just (item_list is)
unfolding line_items item_at as_list opens items_of and_then run
one_list_read s u is h =
    let e : run is_space s ≡ h.front = rw h.whole (run_all is_space h.front (40 ∷ u) h.blank refl) in
    let f : drop (length (run is_space s)) s ≡ 40 ∷ u = rw e (rw h.whole (drop-append_seam h.front (40 ∷ u))) in
    let n : h.rest.size + 1 ≡ suc h.rest.size = omega arith in
    rw (f, h.rest.reads, n, h.rest.left, is_true (all is_space h.behind) h.spaces) refl

-- an item that is no list
plain_no_list : {C : Type 0} (s : Bytes) (i : Got Item) (is : Items) → plain_at s ≡ just i → i.got ≡ list is → C
unfolding plain_at
plain_no_list [] i is e h = no_just i e
plain_no_list (b ∷ s) i is e h = ⊎_elim
    (λ k. let r = read_e word (word_at (b ∷ s)) i k.1 in let z : ◌≡◌ {A = ℕ} 0 1 = cc r.1 in absurd (omega arith))
    (λ k. absurd (subst Valued h k)) (plain_kinds b s i e)

-- a list that was read as an item
as_list_e : (m : Maybe (Got Items)) (i : Got Item) (is : Items) → as_list m ≡ just i → i.got ≡ list is
    → (k : ℕ) × (i.size ≡ suc k) × (m ≡ just (record { got = is; size = k }))
unfolding as_list
as_list_e nothing i is e h = no_just i e
as_list_e (just a) i is e h =
    let d : ◌≡◌ {A = Got Item} (record { got = list a.got; size = a.size + 1 }) i = cc in
    let f : a.size + 1 ≡ i.size = ap (λ z. z.size) d in
    let g : list a.got ≡ list is = ap (λ z. z.got) d ∙ h in
    let c : a.got ≡ is = cc in
    (a.size, omega arith, λ j. just (record { got = c j; size = a.size }))

-- an item that is a list is a bracket and the list
item_list_law : (d : ℕ) (t : Bytes) (i : Got Item) (is : Items) → item_at (suc d) t ≡ just i → i.got ≡ list is
    → (u : Bytes) × (t ≡ 40 ∷ u) × Rest d true u is (drop i.size t)
unfolding item_at opens
item_list_law d [] i is e h = plain_no_list [] i is e h
item_list_law d (b ∷ s) i is e h = ⊎_elim
    (λ c. let r = as_list_e (list_at (item_at d) true 0 s) i is (rw (is_true (eqb b 40) c) at e) h in
    (s, ap (λ x. x ∷ s) (eqb→eq b 40 c), record { size = r.0; reads = r.2; left = ap (λ n. drop n (b ∷ s)) (sym r.1) }))
    (λ c. plain_no_list (b ∷ s) i is (rw (is_false (eqb b 40) c) at e) h) (test (eqb b 40))

-- an item that has items is a list
items_of_e : (i : Item) (js : List Item) → items_of i ≡ just js → (is : Items) × (i ≡ list is) × (item_list is ≡ js)
unfolding items_of
items_of_e (word w) js e = no_just js e
items_of_e (whole n) js e = no_just js e
items_of_e (text t) js e = no_just js e
items_of_e (quoted t) js e = no_just js e
items_of_e (list is) js e = (is, refl, cc)

-- and a line that has items is such a line
pub one_list : (s : Bytes) (js : List Item) → line_items s ≡ just js → (u : Bytes) × (is : Items) × OneList s u is × (item_list is ≡ js)
unfolding line_items
one_list s js e =
    let q = run is_space s in
    let t = drop (length q) s in
    let r = then_e (item_at 4 t) (λ g. pick (all is_space (drop g.size t)) (items_of g.got) nothing) js e in
    let i : Got Item = r.0 in
    ⊎_elim (λ a. let k = items_of_e i.got js (rw (is_true (all is_space (drop i.size t)) a) at r.2) in
    let l = item_list_law 3 t i k.0 r.1 k.1 in (
      l.0,
      k.0,
      record {
        front = q;
        blank = run_passes is_space s;
        whole = run_split is_space s ∙ ap (λ x. q ++ x) l.1;
        behind = drop i.size t;
        spaces = a;
        rest = l.2;
      },
      k.2,
    ))
    (λ a. no_just js (rw (is_false (all is_space (drop i.size t)) a) at r.2)) (test (all is_space (drop i.size t)))
