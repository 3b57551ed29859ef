-- Laws of ties: marks in a word and steps along edges are the steps of the model. Assumes nothing.
use Prim.Native.Nat.{ℕ, zero, suc, ◌+◌, ◌-◌, ◌<◌, ◌≤◌}
use mathlib.Core.Path.{◌≡◌, refl, sym, ap, ap₂, subst, subst₂, ◌∙◌}
use mathlib.Core.List.Memᴰ
use mathlib.Core.List.{List, [], ◌∷◌}
use mathlib.Core.Bool.{Bool, true, false, ◌&&◌, ◌||◌}
use native.Mathlib.Omega.{arith}
use lib.ListN.{get_or}
use lib.Dec.{T, eqb, eqb→eq, eqb_refl}
use Rattle.logic.specs.Tests.{same_test}
use Rattle.model.specs.Bytes.{Bytes}
use Rattle.model.specs.Choice.{pick}
use Rattle.model.specs.Lists.{any, all, keep, memℕ, below}
use Rattle.model.specs.Book.{Book}
use Rattle.model.specs.Pattern.{Edge}
use Rattle.model.specs.Weave.{WovenPattern, step_along, steps_along}
use Rattle.model.proofs.Places.{keep_same}
use Rattle.model.proofs.Members.{◌∈◌, any_e, any_i, keep_e, keep_i, below_i, below_e}
use Rattle.bits.specs.Word.{bit, with}
use Rattle.bits.specs.WordLaws.{bit_with}
use Rattle.book_tables.specs.Listed.{listed}
use Rattle.book_tables.proofs.ListedLaws.{listed_more, any_end}
use Rattle.woven_tables.specs.declared.WovenCounts.{WovenCounts}
use Rattle.woven_tables.specs.Tables.{edge_at, edges_at, woven_at}
use Rattle.weave.specs.Identities.{marked_below, from_of, to_of, joins, EdgesLow, Stepped, TiedBy}
use Rattle.woven_tables.proofs.VertexLaws.{length_vertices}

-- a vertex below n is one of those marked exactly if it is marked
pub marked_mem : (n mask v : ℕ) → v < n → memℕ v (marked_below n mask) ≡ bit mask v
unfolding memℕ marked_below
marked_mem n mask v h = same_test (any (eqb v) (keep (bit mask) (below n))) (bit mask v)
    (λ t. let e = any_e (eqb v) (keep (bit mask) (below n)) t in
    subst (λ z. T (bit mask z)) (sym (eqb→eq v e.0 e.2)) (keep_e (bit mask) (below n) e.0 e.1).1)
    (λ t. any_i (eqb v) (keep (bit mask) (below n)) v (keep_i (bit mask) (below n) v (below_i n v h) t) (eqb_refl v))

any_listed : {A B : Type 0} (p : A → Bool) (q : B → Bool) (f : ℕ → A) (g : ℕ → B) (n : ℕ) → ((i : ℕ) → i < n → p (f i) ≡ q (g i))
    → any p (listed f n) ≡ any q (listed g n)
unfolding listed any
any_listed p q f g zero e = refl
any_listed p q f g (suc n) e = any_end p (listed f n) (f n) ∙ ap₂ (λ x y. x || y) (any_listed p q f g n (λ i h. e i (omega arith))) (e n (omega arith))
    ∙ sym (any_end q (listed g n) (g n))

-- an edge joins v to one of some vertices
abbrev joins_to : List ℕ → ℕ → Edge → Bool
joins_to vs v e = eqb v e.from && memℕ e.to vs || eqb v e.to && memℕ e.from vs

module _ (b : Book) (q r : Bytes) (words : List ℕ) (c : WovenCounts) (mask : ℕ) (low : EdgesLow words c.edges c.vertices) where
  joins_alike : (v : ℕ) → any (joins_to (marked_below c.vertices mask) v) (edges_at b q r words c.edges)
      ≡ any (joins mask v) (listed (λ i. get_or words (24 + i) 0) c.edges)
  unfolding edges_at edge_at joins
  joins_alike v = any_listed (joins_to (marked_below c.vertices mask) v) (joins mask v) _ _ c.edges (λ i h.
      let w = get_or words (24 + i) 0 in
      let l = low i h in
      ap₂ (λ x y. eqb v (from_of w) && x || eqb v (to_of w) && y) (marked_mem c.vertices mask (to_of w) l.1)
      (marked_mem c.vertices mask (from_of w) l.0))

  -- one step along the edges in the words is one step of the pattern that they hold
  pub step_marks : (out : ℕ) → Stepped words c.edges mask out
      → marked_below c.vertices out ≡ step_along (woven_at b q r words c) (marked_below c.vertices mask)
  unfolding step_along woven_at marked_below
  step_marks out stepped =
      let vs : List ℕ = marked_below c.vertices mask in
      let marks = keep_same (bit out) (λ v. memℕ v vs || any (joins_to vs v) (edges_at b q r words c.edges)) (below c.vertices) (λ v i.
      stepped v ∙ ap₂ (λ x y. x || y) (sym (marked_mem c.vertices mask v (below_e c.vertices v i))) (sym (joins_alike v))) in
      marks ∙ ap (λ n. keep (λ v. memℕ v vs || any (joins_to vs v) (edges_at b q r words c.edges)) (below n)) (sym (length_vertices q r words c.vertices))

-- steps that change nothing any more
pub steps_done : (k : ℕ) (p : WovenPattern) (vs : List ℕ) → step_along p vs ≡ vs → steps_along k p vs ≡ vs
unfolding steps_along
steps_done zero p vs e = refl
steps_done (suc k) p vs e = ap (steps_along k p) e ∙ steps_done k p vs e

-- one more edge
pub stepped_none : (words : List ℕ) (mask : ℕ) → Stepped words 0 mask mask
unfolding listed any
stepped_none words mask v = or_false (bit mask v)
  where
    or_false : (b : Bool) → b ≡ b || false
    or_false true = refl
    or_false false = refl

-- a mark that is set if a test holds
pub bit_mark_if : (t : Bool) (marks k v : ℕ) → bit (pick t (with marks k) marks) v ≡ bit marks v || (eqb v k && t)
bit_mark_if true marks k v = bit_with marks k v ∙ ap (λ x. bit marks v || x) (and_true (eqb v k))
  where
    and_true : (b : Bool) → b ≡ b && true
    and_true true = refl
    and_true false = refl
bit_mark_if false marks k v = or_none (bit marks v) (eqb v k)
  where
    or_none : (a b : Bool) → a ≡ a || (b && false)
    or_none true b = refl
    or_none false true = refl
    or_none false false = refl

or_assoc : (a b c : Bool) → a || b || c ≡ a || (b || c)
or_assoc true b c = refl
or_assoc false b c = refl

-- an edge's two ends, each marked if the other was
pub stepped_more : (words : List ℕ) (i mask next one two w : ℕ) → Stepped words i mask next → w ≡ get_or words (24 + i) 0
    → one ≡ pick (bit mask (to_of w)) (with next (from_of w)) next → two ≡ pick (bit mask (from_of w)) (with one (to_of w)) one → Stepped words (i + 1) mask two
unfolding joins
stepped_more words i mask next one two w so_far e f g v =
    let W : ℕ → ℕ = λ i. get_or words (24 + i) 0 in
    let before = any (joins mask v) (listed W i) in
    let A = eqb v (from_of w) && bit mask (to_of w) in
    let B = eqb v (to_of w) && bit mask (from_of w) in
    let last : bit two v ≡ bit mask v || before || A || B =
    ap (λ z. bit z v) g ∙ bit_mark_if (bit mask (from_of w)) one (to_of w) v
    ∙ ap (λ x. x || B) (ap (λ z. bit z v) f ∙ bit_mark_if (bit mask (to_of w)) next (from_of w) v ∙ ap (λ x. x || A) (so_far v)) in
    last ∙ or_assoc (bit mask v || before) A B ∙ or_assoc (bit mask v) before (A || B)
    ∙ ap (λ x. bit mask v || x) (ap (λ z. before || joins mask v z) e
    ∙ sym (ap (any (joins mask v)) (listed_more W i) ∙ any_end (joins mask v) (listed W i) (W i)))

-- whether all below n are marked
all_passes : (p : ℕ → Bool) (l : List ℕ) → ((x : ℕ) → x ∈ l → p x ≡ true) → all p l ≡ true
unfolding all
all_passes p [] e = refl
all_passes p (x ∷ l) e = ap₂ (λ t r. pick t r false) (e x (Memᴰ.head refl)) (all_passes p l (λ y i. e y (Memᴰ.tail i)))

all_fails : (p : ℕ → Bool) (l : List ℕ) (x : ℕ) → x ∈ l → p x ≡ false → all p l ≡ false
unfolding all
all_fails p [] x x4 f = elim x4 [ ]
all_fails p (y ∷ l) x (Memᴰ.head e) f = ap (λ t. pick t (all p l) false) (ap p (sym e) ∙ f)
all_fails p (y ∷ l) x (Memᴰ.tail i) f = ap (λ r. pick (p y) r false) (all_fails p l x i f) ∙ either_way (p y)
  where
    either_way : (t : Bool) → pick t false false ≡ false
    either_way true = refl
    either_way false = refl

pub all_marks : (mask n v : ℕ) → ((i : ℕ) → i < v → bit mask i ≡ true) → n ≤ v → all (bit mask) (below n) ≡ true
all_marks mask n v f h = all_passes (bit mask) (below n) (λ i m. f i (omega (arith, below_e n i m)))

pub not_all_marks : (mask n v : ℕ) → v < n → bit mask v ≡ false → all (bit mask) (below n) ≡ false
not_all_marks mask n v h f = all_fails (bit mask) (below n) v (below_i n v h) f

-- two lists of numbers with the same tests
pub all_same : (p q : ℕ → Bool) (l : List ℕ) → ((x : ℕ) → x ∈ l → p x ≡ q x) → all p l ≡ all q l
unfolding all
all_same p q [] e = refl
all_same p q (x ∷ l) e = ap₂ (λ t r. pick t r false) (e x (Memᴰ.head refl)) (all_same p q l (λ y i. e y (Memᴰ.tail i)))

-- as many steps as are left lead from the marks now to where all steps lead from the first marks
abbrev pub TiedSoFar : List ℕ → ℕ → ℕ → ℕ → ℕ → ℕ → Type 0
TiedSoFar words vertices edges mask marked round =
    (b : Book) (query rules : Bytes) (c : WovenCounts) → c.vertices ≡ vertices → c.edges ≡ edges
    → steps_along (vertices - round) (woven_at b query rules words c) (marked_below vertices marked)
    ≡ steps_along vertices (woven_at b query rules words c) (marked_below vertices mask)

module _ (words : List ℕ) (vertices edges mask : ℕ) (low : EdgesLow words edges vertices) where
  one_step : (marked next : ℕ) → Stepped words edges marked next → (b : Book) (q r : Bytes) (c : WovenCounts) → c.vertices ≡ vertices → c.edges ≡ edges
      → marked_below vertices next ≡ step_along (woven_at b q r words c) (marked_below vertices marked)
  one_step marked next stepped b q r c v e =
      subst₂ (λ n m. EdgesLow words m n → Stepped words m marked next → marked_below n next ≡ step_along (woven_at b q r words c) (marked_below n marked)) v e
      (λ l s. step_marks b q r words c marked l next s) low stepped

  pub tied_start : TiedSoFar words vertices edges mask mask 0
  tied_start b q r c v e = let z : vertices - 0 ≡ vertices = omega arith in ap (λ k. steps_along k (woven_at b q r words c) (marked_below vertices mask)) z

  pub tied_more : (marked next round : ℕ) → round < vertices → Stepped words edges marked next → TiedSoFar words vertices edges mask marked round
      → TiedSoFar words vertices edges mask next (round + 1)
  unfolding steps_along
  tied_more marked next round h stepped so_far b q r c v e =
      let p = woven_at b q r words c in
      let z : vertices - round ≡ suc (vertices - (round + 1)) = omega arith in
      ap (steps_along (vertices - (round + 1)) p) (one_step marked next stepped b q r c v e)
      ∙ ap (λ k. steps_along k p (marked_below vertices marked)) (sym z) ∙ so_far b q r c v e

  pub tied_unchanged : (marked next round : ℕ) → next ≡ marked → Stepped words edges marked next → TiedSoFar words vertices edges mask marked round
      → TiedBy words vertices edges mask marked
  tied_unchanged marked next round z stepped so_far b q r c v e =
      let p = woven_at b q r words c in
      sym (steps_done (vertices - round) p (marked_below vertices marked) (sym (one_step marked next stepped b q r c v e) ∙ ap (marked_below vertices) z))
      ∙ so_far b q r c v e

  pub tied_end : (marked round : ℕ) → vertices ≤ round → TiedSoFar words vertices edges mask marked round → TiedBy words vertices edges mask marked
  unfolding steps_along
  tied_end marked round h so_far b q r c v e =
      let z : 0 ≡ vertices - round = omega arith in
      ap (λ k. steps_along k (woven_at b q r words c) (marked_below vertices marked)) z ∙ so_far b q r c v e
