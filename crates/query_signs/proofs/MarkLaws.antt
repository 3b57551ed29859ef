-- Laws of marks and their codes.
use Prim.Native.Nat.{zero, suc, ℕ, ◌+◌, ◌*◌, ◌/◌, ◌%◌, ◌<◌, ◌≤◌}
use mathlib.Core.Path.{◌≡◌, refl, sym, ap, ◌∙◌}
use mathlib.Core.Logic.{⊎_elim}
use mathlib.Core.List.{List, [], ◌∷◌, map}
use mathlib.Core.Bool.{Bool, true, false, ◌&&◌, ◌||◌}
use native.Mathlib.Omega.{arith}
use native.Mathlib.Nat.{div-add-mod'}
use lib.ListN.{length, get_or, drop}
use lib.Dec.{T, leb, eqb, leb→le}
use borrow.Author.Tests.{eq-eqb, ne_eqb, eqb-true, eqb-false, lt-ltb, le-ltb}
use Rattle.model.specs.Bytes.{Bytes, same}
use Rattle.model.specs.Choice.{pick}
use Rattle.model.specs.Lists.{any, all, memℕ, below}
use Rattle.model.specs.Words.{Got}
use Rattle.model.specs.Signs.{Sign, mark, broken, marks, begins, mark_at}
use Rattle.model.proofs.Decides.{each_all, and_iff}
use Rattle.model.proofs.Members.{each_e, below_i}
use Rattle.text.specs.Places.{peek_at}
use Rattle.text.proofs.PlaceLaws.{below_or_not, peek_end, get_or_any, drop_peek, drop_end}
use Rattle.query_signs.specs.Marks.{mark_bytes, mark_size, mark_got, is_single, is_pair, is_arrow}

-- a byte is below 256, and the end is 256
pub peek_bound : (s : Bytes) (i : ℕ) → get_or s i 0 < 256 → peek_at s i ≤ 256
peek_bound s i h = ⊎_elim (λ l. rw (get_or_any s i 256 0 l) (omega arith)) (λ g. rw (peek_end s i g) (omega arith)) (below_or_not i (length s))

test_same : (a b c d : ℕ) → (a ≡ b → c ≡ d) → (c ≡ d → a ≡ b) → eqb a b ≡ eqb c d
test_same a b c d f g = go (eqb a b) refl
  where
    go : (t : Bool) → eqb a b ≡ t → t ≡ eqb c d
    go true e = sym (eq-eqb c d (f (eqb-true a b e)))
    go false e = sym (ne_eqb c d (λ h. eqb-false a b e (g h)))

-- marks are the same where their codes are
pub same_marks : (c d : ℕ) → same (mark_bytes c) (mark_bytes d) ≡ eqb c d
unfolding mark_bytes same
same_marks c d = ⊎_elim
    (λ l. ⊎_elim
    (λ m. rw (lt-ltb c 256 l, lt-ltb d 256 m) (one (eqb c d)))
    (λ m. rw (lt-ltb c 256 l, le-ltb d 256 m, ne_eqb c d (λ e. omega arith)) (none (eqb c (d / 256))))
    (below_or_not d 256))
    (λ l. ⊎_elim
    (λ m. rw (le-ltb c 256 l, lt-ltb d 256 m, ne_eqb c d (λ e. omega arith)) (none (eqb (c / 256) d)))
    (λ m. rw (le-ltb c 256 l, le-ltb d 256 m) (both (eqb (c / 256) (d / 256)) refl))
    (below_or_not d 256))
    (below_or_not c 256)
  where
    one : (t : Bool) → pick t true false ≡ t
    one true = refl
    one false = refl

    none : (t : Bool) → pick t false false ≡ false
    none true = refl
    none false = refl

    both : (t : Bool) → eqb (c / 256) (d / 256) ≡ t → pick t (pick (eqb (c % 256) (d % 256)) true false) false ≡ eqb c d
    both true e = let h = eqb-true (c / 256) (d / 256) e in
        one (eqb (c % 256) (d % 256)) ∙ test_same (c % 256) (d % 256) c d (λ z. omega (arith, div-add-mod' c 256, div-add-mod' d 256))
        (λ z. ap (λ (n : ℕ). n % 256) z)
    both false e = sym (ne_eqb c d (λ z. eqb-false (c / 256) (d / 256) e (ap (λ (n : ℕ). n / 256) z)))

one_of : (t : Bool) → pick t true false ≡ t
one_of true = refl
one_of false = refl

none_of : (t : Bool) → pick t false false ≡ false
none_of true = refl
none_of false = refl

pair_test : (x y b c : ℕ) → 0 < y → y < 256 → c ≤ 256 → pick (eqb x b) (pick (eqb y c) true false) false ≡ eqb (b * 256 + c) (x * 256 + y)
pair_test x y b c p q h = go (eqb x b) refl
  where
    go : (t : Bool) → eqb x b ≡ t → pick t (pick (eqb y c) true false) false ≡ eqb (b * 256 + c) (x * 256 + y)
    go true e = let z = eqb-true x b e in one_of (eqb y c) ∙ test_same y c (b * 256 + c) (x * 256 + y) (λ w. omega arith) (λ w. omega arith)
    go false e = sym (ne_eqb (b * 256 + c) (x * 256 + y) (λ w. eqb-false x b e (omega arith)))

or_pick : {A : Type 0} (p q : Bool) (a e : A) → pick p a (pick q a e) ≡ pick (p || q) a e
or_pick true q a e = refl
or_pick false q a e = refl

code_known : (E : Got Sign) (c k : ℕ) (g : Got Sign) → mark_got k ≡ g → pick (eqb c k) g E ≡ pick (eqb c k) (mark_got c) E
code_known E c k g h = go (eqb c k) refl
  where
    go : (t : Bool) → eqb c k ≡ t → pick t g E ≡ pick t (mark_got c) E
    go true e = sym h ∙ ap mark_got (sym (eqb-true c k e))
    go false e = refl

-- ( ) , - . : < = > [ ] in the order of the model
abbrev singles : List ℕ
singles = 61 ∷ 60 ∷ 62 ∷ 40 ∷ 41 ∷ 91 ∷ 93 ∷ 58 ∷ 44 ∷ 46 ∷ 45 ∷ []

-- one test says both, computed for every byte
both_say : ℕ → Bool
both_say b = pick (is_single b) (memℕ b singles && leb 40 b) (pick (memℕ b singles) false true)

single_member : (b : ℕ) → b < 256 → T (both_say b)
unfolding both_say is_single memℕ any all Rattle.model.specs.Lists.up_to
single_member b h = each_e (λ n. T (both_say n)) (below 256) ((each_all (λ n. T (both_say n)) both_say (λ n. (λ z. z, λ z. z)) (below 256)).1 tt) b
    (below_i 256 b h)

mark_single : (b : ℕ) → b < 256 → is_single b ≡ true → mark_got b ≡ record { got = mark (b ∷ []); size = 1 }
unfolding mark_got mark_bytes mark_size both_say
mark_single b l e =
    let t : T (memℕ b singles && leb 40 b) = rw e at (single_member b l) in
    let m : 40 ≤ b = leb→le 40 b ((and_iff (memℕ b singles) (leb 40 b)).1 t).1 in
    rw (ne_eqb b 0 (λ z. omega arith), lt-ltb b 256 l)

abbrev pub no_sign : Got Sign
no_sign = record { got = broken; size = 1 }

singles_at : (b : ℕ) (t : Bytes) (ns : List ℕ) → mark_at (map (λ n. n ∷ []) ns) (b ∷ t) ≡ pick (memℕ b ns) (record { got = mark (b ∷ []); size = 1 }) no_sign
unfolding mark_at begins memℕ any
singles_at b t [] = refl
singles_at b t (n ∷ ns) = rw (singles_at b t ns, one_of (eqb n b), test_same n b b n (λ z. sym z) (λ z. sym z)) (go (eqb b n) refl)
  where
    go : (x : Bool) → eqb b n ≡ x → pick x (record { got = mark (n ∷ []); size = 1 }) (pick (memℕ b ns) (record { got = mark (b ∷ []); size = 1 }) no_sign)
        ≡ pick (pick x true (memℕ b ns)) (record { got = mark (b ∷ []); size = 1 }) no_sign
    go true e = let z = eqb-true b n e in rw z
    go false e = refl

abbrev everywhere : List Bytes
everywhere = (60 ∷ 62 ∷ []) ∷ (60 ∷ 61 ∷ []) ∷ (62 ∷ 61 ∷ []) ∷ map (λ n. n ∷ []) singles

-- two bytes at a place
module _ (s : Bytes) (at : ℕ) (l : at < length s) (h : peek_at s at < 256) (k : peek_at s (at + 1) ≤ 256) where
  abbrev pair_at : ℕ
  pair_at = peek_at s at * 256 + peek_at s (at + 1)

  begins_pair : (x y : ℕ) → 0 < y → y < 256 → begins (x ∷ y ∷ []) (drop at s) ≡ eqb pair_at (x * 256 + y)
  unfolding begins
  begins_pair x y p q = rw (drop_peek s at l) (⊎_elim
      (λ m. rw (drop_peek s (at + 1) m) (pair_test x y (peek_at s at) (peek_at s (at + 1)) p q k))
      (λ m. rw (drop_end s (at + 1) m, peek_end s (at + 1) m)
      (none_of (eqb x (peek_at s at)) ∙ sym (ne_eqb (peek_at s at * 256 + 256) (x * 256 + y) (λ z. omega arith))))
      (below_or_not (at + 1) (length s)))

  single_at : mark_at (map (λ n. n ∷ []) singles) (drop at s) ≡ pick (is_single (peek_at s at)) (mark_got (peek_at s at)) (mark_got 0)
  unfolding mark_got both_say
  single_at = rw (drop_peek s at l) (singles_at (peek_at s at) (drop (at + 1) s) singles ∙ go (is_single (peek_at s at)) refl (memℕ (peek_at s at) singles) refl)
    where
      go : (x : Bool) → is_single (peek_at s at) ≡ x → (y : Bool) → memℕ (peek_at s at) singles ≡ y
          → pick y (record { got = mark (peek_at s at ∷ []); size = 1 }) no_sign ≡ pick x (mark_got (peek_at s at)) no_sign
      go true e true f = sym (mark_single (peek_at s at) h e)
      go true e false f = absurd (rw (e, f) at (single_member (peek_at s at) h))
      go false e true f = absurd (rw (e, f) at (single_member (peek_at s at) h))
      go false e false f = refl

  pair_step : (x y : ℕ) (ms : List Bytes) → 0 < y → y < 256 → mark_got (x * 256 + y) ≡ record { got = mark (x ∷ y ∷ []); size = 2 }
      → mark_at ((x ∷ y ∷ []) ∷ ms) (drop at s) ≡ pick (eqb pair_at (x * 256 + y)) (mark_got pair_at) (mark_at ms (drop at s))
  unfolding mark_at
  pair_step x y ms p q e = rw (begins_pair x y p q) (code_known (mark_at ms (drop at s)) pair_at (x * 256 + y) (record { got = mark (x ∷ y ∷ []); size = 2 }) e)

  pairs_at : mark_at everywhere (drop at s) ≡ pick (is_pair pair_at) (mark_got pair_at) (pick (is_single (peek_at s at)) (mark_got (peek_at s at)) (mark_got 0))
  unfolding is_pair mark_got mark_bytes mark_size
  pairs_at =
      pair_step 60 62 _ (omega arith) (omega arith) refl
      ∙ ap (pick (eqb pair_at 15422) (mark_got pair_at))
      (pair_step 60 61 _ (omega arith) (omega arith) refl
      ∙ ap (pick (eqb pair_at 15421) (mark_got pair_at))
      (pair_step 62 61 _ (omega arith) (omega arith) refl ∙ ap (pick (eqb pair_at 15933) (mark_got pair_at)) single_at))
      ∙ or_pick (eqb pair_at 15422) (eqb pair_at 15421) (mark_got pair_at) _
      ∙ or_pick (eqb pair_at 15422 || eqb pair_at 15421) (eqb pair_at 15933) (mark_got pair_at) _

  pub mark_at_law : (chain : Bool) → mark_at (marks chain) (drop at s)
      ≡ pick (chain && is_arrow pair_at) (mark_got pair_at)
      (pick (is_pair pair_at) (mark_got pair_at) (pick (is_single (peek_at s at)) (mark_got (peek_at s at)) (mark_got 0)))
  unfolding marks is_arrow mark_got mark_bytes mark_size
  mark_at_law false = pairs_at
  mark_at_law true =
      pair_step 60 45 _ (omega arith) (omega arith) refl
      ∙ ap (pick (eqb pair_at 15405) (mark_got pair_at))
      (pair_step 45 62 _ (omega arith) (omega arith) refl ∙ ap (pick (eqb pair_at 11582) (mark_got pair_at)) pairs_at)
      ∙ or_pick (eqb pair_at 15405) (eqb pair_at 11582) (mark_got pair_at) _

-- the mark that the tests of the reader find
module _ (s : Bytes) (at : ℕ) (l : at < length s) (byte : (i : ℕ) → get_or s i 0 < 256) (b c : ℕ) (eb : b ≡ peek_at s at) (ec : c ≡ peek_at s (at + 1))
    (chain : Bool) where
  first_byte : peek_at s at < 256
  first_byte = rw (get_or_any s at 256 0 l) (byte at)

  read_mark : pick (chain && is_arrow (b * 256 + c)) (mark_got (b * 256 + c))
      (pick (is_pair (b * 256 + c)) (mark_got (b * 256 + c)) (pick (is_single b) (mark_got b) (mark_got 0))) ≡ mark_at (marks chain) (drop at s)
  read_mark = rw (eb, ec) (sym (mark_at_law s at l first_byte (peek_bound s (at + 1) (byte (at + 1))) chain))

  pub mark_arrow : (chain && is_arrow (b * 256 + c)) ≡ true → mark_got (b * 256 + c) ≡ mark_at (marks chain) (drop at s)
  mark_arrow e = rw e at read_mark

  pub mark_pair : (chain && is_arrow (b * 256 + c)) ≡ false → is_pair (b * 256 + c) ≡ true → mark_got (b * 256 + c) ≡ mark_at (marks chain) (drop at s)
  mark_pair e f = rw (e, f) at read_mark

  pub mark_one : (chain && is_arrow (b * 256 + c)) ≡ false → is_pair (b * 256 + c) ≡ false → is_single b ≡ true → mark_got b ≡ mark_at (marks chain) (drop at s)
  mark_one e f g = rw (e, f, g) at read_mark

  pub mark_none : (chain && is_arrow (b * 256 + c)) ≡ false → is_pair (b * 256 + c) ≡ false → is_single b ≡ false → mark_got 0 ≡ mark_at (marks chain) (drop at s)
  mark_none e f g = rw (e, f, g) at read_mark

-- a code is not 0
pub arrow_some : (chain : Bool) (c : ℕ) → (chain && is_arrow c) ≡ true → 0 < c
unfolding is_arrow
arrow_some true zero e = cc
arrow_some false zero e = cc
arrow_some chain (suc c) e = omega arith

pub pair_some : (c : ℕ) → is_pair c ≡ true → 0 < c
unfolding is_pair
pair_some zero e = cc
pair_some (suc c) e = omega arith

pub single_some : (b : ℕ) → is_single b ≡ true → 0 < b
unfolding is_single
single_some zero e = cc
single_some (suc b) e = omega arith
