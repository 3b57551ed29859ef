-- A word of a list: what stands before it, the word, what stands behind it; a list whose first item is a word is read so, and another word there too.
use Prim.Native.Nat.{ℕ, zero, suc, ◌+◌, ◌-◌, ◌≤◌}
use mathlib.Core.Path.{◌≡◌, refl, sym, ap, subst, ◌∙◌}
use mathlib.Core.Logic.{◌⊎◌, inl, inr, ⊎_elim}
use mathlib.Core.List.{[], ◌∷◌, ◌++◌}
use mathlib.Core.Bool.{Bool, true, false, not, ◌||◌}
use native.Mathlib.Omega.{arith}
use lib.ListN.{length, drop}
use lib.Seq.{drop-append_seam, drop-append-add, drop-drop}
use lib.Dec.{T, leb, eqb, leb→le, le→leb}
use Rattle.model.specs.Bytes.{Bytes}
use Rattle.model.specs.Choice.{pick, Maybe, nothing, just, and_then}
use Rattle.model.specs.Lists.{all, is_nil}
use Rattle.model.specs.Items.{Item, word, whole, text, quoted, list, Items, none, more, plain_at, is_list, onward, onward_with, list_at, as_list}
use Rattle.model.specs.Items.{opens, item_at}
use Rattle.model.specs.Words.{Got, is_letter, is_digit, is_word_byte, run, word_at, whole_at, text_at, quoted_at, read_as}
use Rattle.model.proofs.Decides.{pick_iff, or_l, or_r}
use Rattle.model.proofs.Members.{test, is_true, is_false}
use Rattle.model.proofs.Outcomes.{no_just, then_e, pick_e}
use Rattle.model.proofs.AllowedBytes.{letter_e}
use Rattle.model.proofs.Skips.{further, list_skip}
use Rattle.model.proofs.WrittenSigns.{Word, run_all, eqb_no}

-- a run and what stands behind it
pub run_split : (p : ℕ → Bool) (s : Bytes) → s ≡ run p s ++ drop (length (run p s)) s
unfolding run
run_split p [] = refl
run_split p (b ∷ s) = go (p b) (run_split p s)
  where
    go : (t : Bool) → s ≡ run p s ++ drop (length (run p s)) s → b ∷ s ≡ pick t (b ∷ run p s) [] ++ drop (length (pick t (b ∷ run p s) [])) (b ∷ s)
    go true ih = ap (λ r. b ∷ r) ih
    go false ih = refl

-- the bytes of a run pass the test
pub run_passes : (p : ℕ → Bool) (s : Bytes) → T (all p (run p s))
unfolding run all
run_passes p [] = tt
run_passes p (b ∷ s) = ⊎_elim (λ t. rw (is_true (p b) t) (rw (is_true (p b) t) (run_passes p s))) (λ t. rw (is_false (p b) t) tt) (test (p b))

-- and no byte behind it goes on with it
pub run_ends : (p : ℕ → Bool) (s : Bytes) → run p (drop (length (run p s)) s) ≡ []
unfolding run
run_ends p [] = refl
run_ends p (b ∷ s) = ⊎_elim (λ t. rw (is_true (p b) t) (run_ends p s)) (λ t. rw (is_false (p b) t) (rw (is_false (p b) t) refl)) (test (p b))

-- the rest of a list: its items are read, and these bytes stand behind its bracket
pub record Rest (d : ℕ) (free : Bool) (s : Bytes) (is : Items) (behind : Bytes) : Type 0 where
  pub size : ℕ
  pub reads : list_at (item_at d) free 0 s ≡ just (record { got = is; size = size })
  pub left : drop size s ≡ behind

-- a space
abbrev pub is_space : ℕ → Bool
is_space b = eqb b 32

-- a list, or the rest of one, begins with a word: spaces, without which it may not begin if no space or bracket stands before, the word, the rest
pub record WordFirst (free : Bool) (s w t : Bytes) : Type 0 where
  pub spaces : Bytes
  pub blank : T (all is_space spaces)
  pub apart : T (free || not (is_nil spaces))
  pub is_word : Word w
  pub ends : run is_word_byte t ≡ []
  pub whole : s ≡ spaces ++ (w ++ t)

-- what was read, with its size
abbrev pub sized : {A : Type 0} → A → ℕ → Maybe (Got A)
sized a n = just (record { got = a; size = n })

-- what was read with a byte more before it was read without it; so too with an item before it, and with k bytes more
onward_e : (m : Maybe (Got Items)) (is : Items) (n : ℕ) → onward m ≡ sized is n → (k : ℕ) × (n ≡ suc k) × (m ≡ sized is k)
unfolding onward
onward_e nothing is n e = no_just _ e
onward_e (just a) is n e =
    let d : ◌≡◌ {A = Got Items} (record { got = a.got; size = a.size + 1 }) (record { got = is; size = n }) = cc in
    let f : a.size + 1 ≡ n = ap (λ z. z.size) d in let g : a.got ≡ is = ap (λ z. z.got) d in
    (a.size, omega arith, λ i. just (record { got = g i; size = a.size }))

onward_with_e : (i j : Item) (m : Maybe (Got Items)) (is : Items) (n : ℕ) → onward_with i m ≡ sized (more j is) n
    → (k : ℕ) × (i ≡ j) × (n ≡ suc k) × (m ≡ sized is k)
unfolding onward_with
onward_with_e i j nothing is n e = no_just _ e
onward_with_e i j (just a) is n e =
    let d : ◌≡◌ {A = Got Items} (record { got = more i a.got; size = a.size + 1 }) (record { got = more j is; size = n }) = cc in
    let f : a.size + 1 ≡ n = ap (λ z. z.size) d in
    let h : more i a.got ≡ more j is = ap (λ z. z.got) d in
    let g : a.got ≡ is = cc in let c : i ≡ j = cc in
    (a.size, c, omega arith, λ i. just (record { got = g i; size = a.size }))

further_e : (k : ℕ) (m : Maybe (Got Items)) (is : Items) (n : ℕ) → further k m ≡ sized is n → (j : ℕ) × (n ≡ k + j) × (m ≡ sized is j)
unfolding further
further_e k nothing is n e = no_just _ e
further_e k (just a) is n e =
    let d : ◌≡◌ {A = Got Items} (record { got = a.got; size = a.size + k }) (record { got = is; size = n }) = cc in
    let f : a.size + k ≡ n = ap (λ z. z.size) d in let g : a.got ≡ is = ap (λ z. z.got) d in
    (a.size, omega arith, λ i. just (record { got = g i; size = a.size }))

-- what a reader read, it read as its kind of item
pub read_e : {A : Type 0} (f : A → Item) (m : Maybe (Got A)) (i : Got Item) → read_as f m ≡ just i → (a : A) × (i.got ≡ f a)
unfolding read_as
read_e f nothing i e = no_just i e
read_e f (just a) i e = let d : ◌≡◌ {A = Got Item} (record { got = f a.got; size = a.size }) i = cc in (a.got, sym (ap (λ z. z.got) d))

-- an item that is neither a word nor a list
abbrev pub Valued : Item → Type 0
Valued (word w) = ⊥
Valued (whole n) = Unit {0}
Valued (text t) = Unit {0}
Valued (quoted t) = Unit {0}
Valued (list is) = ⊥

-- an item that is no list is a word, where a letter stands, or such an item
pub plain_kinds : (b : ℕ) (s : Bytes) (i : Got Item) → plain_at (b ∷ s) ≡ just i
    → (T (is_letter b) × (read_as word (word_at (b ∷ s)) ≡ just i)) ⊎ Valued i.got
unfolding plain_at
plain_kinds b s i e =
    let q = pick (eqb b 34) (read_as quoted (quoted_at s)) nothing in
    let t = pick (eqb b 39) (read_as text (text_at s)) q in
    let n = pick (is_digit b || eqb b 45) (read_as whole (whole_at (b ∷ s))) t in
    ⊎_elim (λ l. inl (l, rw (is_true (is_letter b) l) at e))
    (λ l. let f : n ≡ just i = rw (is_false (is_letter b) l) at e in
    ⊎_elim (λ k. inr (subst Valued (sym (read_e whole (whole_at (b ∷ s)) i k).1) tt))
    (λ k. ⊎_elim (λ u. inr (subst Valued (sym (read_e text (text_at s) i u).1) tt))
    (λ u. ⊎_elim (λ v. inr (subst Valued (sym (read_e quoted (quoted_at s) i v).1) tt)) (λ v. no_just i v)
    (pick_e (eqb b 34) (read_as quoted (quoted_at s)) nothing i u)) (pick_e (eqb b 39) (read_as text (text_at s)) q i k))
    (pick_e (is_digit b || eqb b 45) (read_as whole (whole_at (b ∷ s))) t i f)) (test (is_letter b))

-- the word at the front, and its size
record WordAt (b : ℕ) (s : Bytes) (i : Got Item) (w : Bytes) : Type 0 where
  letter : T (is_letter b)
  taken : w ≡ run is_word_byte (b ∷ s)
  long : i.size ≡ length w
  short : length w ≤ 24

-- a word that is read is that word
word_read : (b : ℕ) (s : Bytes) (i : Got Item) (w : Bytes) → T (is_letter b) → read_as word (word_at (b ∷ s)) ≡ just i → i.got ≡ word w → WordAt b s i w
unfolding read_as word_at
word_read b s i w l e h = let v = run is_word_byte (b ∷ s) in ⊎_elim
    (λ t. let f : ◌≡◌ {A = Maybe (Got Item)} (just (record { got = word v; size = length v })) (just i) = rw (is_true (leb (length v) 24) t) at e in
    let d : ◌≡◌ {A = Got Item} (record { got = word v; size = length v }) i = cc in
    let g : word v ≡ word w = ap (λ z. z.got) d ∙ h in
    let c : v ≡ w = cc in
    record { letter = l; taken = sym c; long = sym (ap (λ z. z.size) d) ∙ ap length c; short = subst (λ z. length z ≤ 24) c (leb→le (length v) 24 t) })
    (λ t. no_just i (rw (is_false (leb (length v) 24) t) at e)) (test (leb (length v) 24))

plain_word : (b : ℕ) (s : Bytes) (i : Got Item) (w : Bytes) → plain_at (b ∷ s) ≡ just i → i.got ≡ word w → WordAt b s i w
plain_word b s i w e h = ⊎_elim (λ k. word_read b s i w k.0 k.1 h) (λ k. absurd (subst Valued h k)) (plain_kinds b s i e)

-- an item that is a word is the word at the front
item_word : (d b : ℕ) (s : Bytes) (i : Got Item) (w : Bytes) → item_at d (b ∷ s) ≡ just i → i.got ≡ word w → WordAt b s i w
unfolding item_at as_list
item_word zero b s i w e h = ⊎_elim (λ k. no_just i k) (λ k. plain_word b s i w k h) (pick_e (opens (b ∷ s)) nothing (plain_at (b ∷ s)) i e)
item_word (suc d) b s i w e h = ⊎_elim (lists (list_at (item_at d) true 0 s)) (λ k. plain_word b s i w k h)
    (pick_e (opens (b ∷ s)) (as_list (list_at (item_at d) true 0 s)) (plain_at (b ∷ s)) i e)
  where
    lists : (m : Maybe (Got Items)) → as_list m ≡ just i → WordAt b s i w
    lists nothing k = no_just i k
    lists (just a) k =
        let c : ◌≡◌ {A = Got Item} (record { got = list a.got; size = a.size + 1 }) i = cc in
        let g : list a.got ≡ word w = ap (λ z. z.got) c ∙ h in
        let z : ◌≡◌ {A = ℕ} 0 1 = cc in absurd (omega arith)

-- a letter is a byte of a word
letter_in_word : (b : ℕ) → T (is_letter b) → T (is_word_byte b)
unfolding is_word_byte
letter_in_word b t = or_l (is_letter b || is_digit b) (eqb b 95) (or_l (is_letter b) (is_digit b) t)

-- it is no space and no bracket
letter_apart : (b n : ℕ) → n ≤ 41 → T (is_letter b) → eqb b n ≡ false
letter_apart b n h t = let l = letter_e b t in eqb_no b n (λ z. omega arith)

-- an item that is a word, and the rest of its list
word_taken : (d : ℕ) (free : Bool) (b : ℕ) (s w : Bytes) (is : Items) (k : ℕ) (i : Got Item) → T (free || eqb b 40) → i.got ≡ word w → WordAt b s i w
    → list_at (item_at d) (is_list i.got) (i.size - 1) s ≡ sized is k → (t : Bytes) × WordFirst free (b ∷ s) w t × Rest d false t is (drop k s)
unfolding is_list all is_nil run
word_taken d free b s w is k i h q a e =
    let v = run is_word_byte s in
    let c : w ≡ b ∷ v = rw (is_true (is_word_byte b) (letter_in_word b a.letter)) at a.taken in
    let z : length w ≡ suc (length v) = ap length c in
    let p : T (all is_word_byte (b ∷ v)) = (pick_iff (is_word_byte b) (all is_word_byte v)).0 (letter_in_word b a.letter, run_passes is_word_byte s) in
    let y : i.size - 1 ≡ length v = omega (arith, a.long) in
    let f : list_at (item_at d) false (length v) s ≡ sized is k = rw (q, y) at e in
    let t = drop (length v) s in
    let g = further_e (length v) (list_at (item_at d) false 0 t) is k (sym (list_skip (item_at d) false (length v) s) ∙ f) in (
      t,
      record {
        spaces = [];
        blank = tt;
        apart = rw (letter_apart b 40 (omega arith) a.letter) at h;
        is_word = rw c (a.letter, p, omega (arith, a.short));
        ends = run_ends is_word_byte s;
        whole = rw c (ap (λ x. b ∷ x) (run_split is_word_byte s));
      },
      record { size = g.0; reads = g.2; left = drop-drop g.0 (length v) s ∙ ap (λ n. drop n s) (sym g.1) },
    )

-- an item before the rest of its list, as the list is read
abbrev with_item : ℕ → Bytes → Got Item → Maybe (Got Items)
with_item d s g = onward_with g.got (list_at (item_at d) (is_list g.got) (g.size - 1) s)

-- a list that begins with an item that is a word
word_here : (d : ℕ) (free : Bool) (b : ℕ) (s w : Bytes) (is : Items) (n : ℕ) → T (free || eqb b 40)
    → and_then (item_at d (b ∷ s)) (with_item d s) ≡ sized (more (word w) is) n → (t : Bytes) × WordFirst free (b ∷ s) w t × Rest d false t is (drop n (b ∷ s))
word_here d free b s w is n h e =
    let r = then_e (item_at d (b ∷ s)) (with_item d s) (record { got = more (word w) is; size = n }) e in
    let i : Got Item = r.0 in
    let q = onward_with_e i.got (word w) (list_at (item_at d) (is_list i.got) (i.size - 1) s) is n r.2 in
    let a = word_taken d free b s w is q.0 i h q.1 (item_word d b s i w r.1 q.1) q.3 in
    (a.0, a.1, subst (λ m. Rest d false a.0 is (drop m (b ∷ s))) (sym q.2) a.2)

-- a list whose first item is a word is this word behind spaces, and the rest of the list
pub word_first : (d : ℕ) (free : Bool) (s w : Bytes) (is : Items) (behind : Bytes) → Rest d free s (more (word w) is) behind
    → (t : Bytes) × WordFirst free s w t × Rest d false t is behind
unfolding list_at all is_nil
word_first d free [] w is behind h = no_just _ h.reads
word_first d free (b ∷ s) w is behind h =
    let item = and_then (item_at d (b ∷ s)) (with_item d s) in
    let end : Maybe (Got Items) = just (record { got = none; size = 1 }) in
    let choice = pick (eqb b 41) end (pick (free || eqb b 40) item nothing) in
    let e : pick (eqb b 32) (onward (list_at (item_at d) true 0 s)) choice ≡ sized (more (word w) is) h.size = h.reads in
    ⊎_elim
    (λ c. let r = onward_e (list_at (item_at d) true 0 s) (more (word w) is) h.size (rw (is_true (eqb b 32) c) at e) in
    let k = word_first d true s w is behind (record { size = r.0; reads = r.2; left = rw r.1 at h.left }) in
    let x = k.1 in (
      k.0,
      record {
        spaces = b ∷ x.spaces;
        blank = (pick_iff (is_space b) (all is_space x.spaces)).0 (c, x.blank);
        apart = or_r free true tt;
        is_word = x.is_word;
        ends = x.ends;
        whole = ap (λ z. b ∷ z) x.whole;
      },
      k.2,
    ))
    (λ c. let f = rw (is_false (eqb b 32) c) at e in ⊎_elim
    (λ (k : end ≡ sized (more (word w) is) h.size).
    let g : ◌≡◌ {A = Got Items} (record { got = none; size = 1 }) (record { got = more (word w) is; size = h.size }) = cc in
    let x : none ≡ more (word w) is = ap (λ z. z.got) g in
    let z : ◌≡◌ {A = ℕ} 0 1 = cc in absurd (omega arith))
    (λ k. ⊎_elim (λ u. let y = word_here d free b s w is h.size u (rw (is_true (free || eqb b 40) u) at k) in
    (y.0, y.1, subst (Rest d false y.0 is) h.left y.2))
    (λ u. no_just _ (rw (is_false (free || eqb b 40) u) at k)) (test (free || eqb b 40)))
    (pick_e (eqb b 41) end (pick (free || eqb b 40) item nothing) _ f))
    (test (eqb b 32))

-- a word at the front is read
pub plain_of_word : (b : ℕ) (w t : Bytes) → Word (b ∷ w) → run is_word_byte t ≡ [] → plain_at (b ∷ w ++ t) ≡ sized (word (b ∷ w)) (suc (length w))
unfolding plain_at word_at read_as
plain_of_word b w t h e =
    let s : T (leb (suc (length w)) 24) = le→leb (suc (length w)) 24 (omega arith) in
    rw (is_true (is_letter b) h.0, run_all is_word_byte (b ∷ w) t h.1 e, is_true (leb (suc (length w)) 24) s) refl

item_of_word : (d b : ℕ) (w t : Bytes) → Word (b ∷ w) → run is_word_byte t ≡ [] → item_at d (b ∷ w ++ t) ≡ sized (word (b ∷ w)) (suc (length w))
unfolding item_at opens
item_of_word zero b w t h e = rw (letter_apart b 40 (omega arith) h.0) (plain_of_word b w t h e)
item_of_word (suc d) b w t h e = rw (letter_apart b 40 (omega arith) h.0) (plain_of_word b w t h e)

-- a space before the rest of a list
space_put : (d : ℕ) (free : Bool) (c : ℕ) (s : Bytes) (is : Items) (behind : Bytes) → T (is_space c) → Rest d true s is behind → Rest d free (c ∷ s) is behind
unfolding list_at onward
space_put d free c s is behind a k =
    let n : k.size + 1 ≡ suc k.size = omega arith in record { size = suc k.size; reads = rw (is_true (eqb c 32) a, k.reads, n) refl; left = k.left }

-- spaces, a word and the rest of a list are a list whose first item is the word
pub word_put : (d : ℕ) (free : Bool) (p w t : Bytes) (is : Items) (behind : Bytes) → T (all is_space p) → T (free || not (is_nil p)) → Word w
    → run is_word_byte t ≡ [] → Rest d false t is behind → Rest d free (p ++ (w ++ t)) (more (word w) is) behind
unfolding list_at all is_nil onward onward_with further is_list and_then
word_put d free p [] t is behind a f h e r = absurd h
word_put d true [] (b ∷ w) t is behind a f h e r =
    let m : suc (length w) - 1 ≡ length w = omega arith in
    let n : r.size + length w + 1 ≡ suc (length w + r.size) = omega arith in
    let g : list_at (item_at d) false (length w) (w ++ t) ≡ sized is (r.size + length w) =
    list_skip (item_at d) false (length w) (w ++ t) ∙ ap (λ x. further (length w) (list_at (item_at d) false 0 x)) (drop-append_seam w t)
    ∙ ap (further (length w)) r.reads in
    record {
      size = suc (length w + r.size);
      reads = rw (letter_apart b 32 (omega arith) h.0, letter_apart b 41 (omega arith) h.0, item_of_word d b w t h e, m, g, n) refl;
      left = drop-append-add w t r.size ∙ r.left;
    }
word_put d false [] (b ∷ w) t is behind a f h e r = absurd f
word_put d free (c ∷ p) (b ∷ w) t is behind a f h e r =
    let u = (pick_iff (is_space c) (all is_space p)).1 a in
    space_put d free c (p ++ (b ∷ w ++ t)) _ behind u.0 (word_put d true p (b ∷ w) t is behind u.1 tt h e r)
