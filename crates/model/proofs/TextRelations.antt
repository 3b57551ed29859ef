-- What the six relations say of two texts, by their byte order, and which types have them.
use Prim.Native.Nat.{ℕ, ◌<◌}
use mathlib.Core.Path.{◌≡◌, refl, sym}
use mathlib.Core.Logic.{◌⊎◌, inl, inr, ⊎_elim, ◌↔◌, ◌≢◌}
use mathlib.Core.List.{[], ◌∷◌, map}
use mathlib.Core.Bool.{Bool, true, false, not}
use native.Mathlib.Omega.{arith}
use lib.Dec.{T, leb, eqb→eq, ltb→lt}
use borrow.Author.Tests.{lt-ltb, le-leb, lt-leb, eq-eqb, ne_eqb}
use Rattle.model.specs.Bytes.{Bytes, same}
use Rattle.model.specs.Values.{str, int, strs, bools}
use Rattle.model.specs.QueryText.{Relation, eq, ne, lt, le, gt, ge}
use Rattle.model.specs.TextOrder.{Order, less, equal, greater, byte_order, by_order}
use Rattle.model.specs.Graph.{compares, in_relation}
use Rattle.model.specs.ReadQuery.{has_relation}
use Rattle.model.proofs.Decides.{same→eq, same_refl}
use Rattle.model.proofs.Members.{is_true, is_false}
use Rattle.model.proofs.TextOrder.{ComesBefore, Tells, exactly_one, three}

-- what a relation says, by three statements: the first is less, they are equal, the second is less
abbrev pub Says : Relation → Type 0 → Type 0 → Type 0 → Type 0
Says eq L E G = E
Says ne L E G = E → ⊥
Says lt L E G = L
Says le L E G = L ⊎ E
Says gt L E G = G
Says ge L E G = G ⊎ E

-- a test that holds with a statement, and one that fails with it
holds : {A : Type 0} → A → T true ↔ A
holds x = (λ t. x, λ u. tt)

fails : {A : Type 0} → (A → ⊥) → T false ↔ A
fails h = (λ t. absurd t, λ u. h u)

module _ (L E G : Type 0) where
  -- what an order tells of the three is what each relation says of them
  order_says : (r : Relation) (o : Order) → Tells o L E G → T (by_order r o) ↔ Says r L E G
  unfolding by_order
  order_says eq less t = fails t.1
  order_says eq equal t = holds t.1
  order_says eq greater t = fails t.1
  order_says ne less t = holds t.1
  order_says ne equal t = fails (λ h. h t.1)
  order_says ne greater t = holds t.1
  order_says lt less t = holds t.0
  order_says lt equal t = fails t.0
  order_says lt greater t = fails t.0
  order_says le less t = holds (inl t.0)
  order_says le equal t = holds (inr t.1)
  order_says le greater t = fails (⊎_elim t.0 t.1)
  order_says gt less t = fails t.2
  order_says gt equal t = fails t.2
  order_says gt greater t = holds t.2
  order_says ge less t = fails (⊎_elim t.2 t.1)
  order_says ge equal t = holds (inr t.1)
  order_says ge greater t = holds (inl t.2)

-- a relation between two texts holds exactly if what it says does, of coming before and of being the same bytes
pub text_relation : (r : Relation) (x y : Bytes) → T (in_relation r (str x) (str y)) ↔ Says r (ComesBefore x y) (x ≡ y) (ComesBefore y x)
unfolding in_relation
text_relation r x y = order_says (ComesBefore x y) (x ≡ y) (ComesBefore y x) r (byte_order x y) (exactly_one x y)

-- a number at most another is less or equal
at_most : (x y : ℕ) → T (leb x y) ↔ ((x < y) ⊎ (x ≡ y))
at_most x y = ⊎_elim (λ h. rw (le-leb x y (omega arith)) (holds (inl h))) (⊎_elim (λ h. rw (le-leb x y (omega arith)) (holds (inr h)))
    (λ h. rw (lt-leb x y h) (fails (⊎_elim (λ l. omega arith) (λ e. omega arith))))) (three x y)

-- as it does between two numbers
pub number_relation : (r : Relation) (x y : ℕ) → T (in_relation r (int x) (int y)) ↔ Says r (x < y) (x ≡ y) (y < x)
unfolding in_relation compares
number_relation eq x y = (eqb→eq x y, λ e. rw (eq-eqb x y e) tt)
number_relation ne x y = (λ t e. rw (eq-eqb x y e) at t, λ n. rw (ne_eqb x y n) tt)
number_relation lt x y = (ltb→lt x y, λ l. rw (lt-ltb x y l) tt)
number_relation le x y = at_most x y
number_relation gt x y = (ltb→lt y x, λ l. rw (lt-ltb y x l) tt)
number_relation ge x y = (λ t. ⊎_elim inl (λ e. inr (sym e)) ((at_most y x).0 t), λ s. (at_most y x).1 (⊎_elim inl (λ e. inr (sym e)) s))

-- a relation holds between texts by their order exactly if it holds between 0 and 1, 0 and 0, or 1 and 0
pub less_as_numbers : (r : Relation) → by_order r less ≡ compares r 0 1
unfolding by_order compares
less_as_numbers eq = refl
less_as_numbers ne = refl
less_as_numbers lt = refl
less_as_numbers le = refl
less_as_numbers gt = refl
less_as_numbers ge = refl

pub equal_as_numbers : (r : Relation) → by_order r equal ≡ compares r 0 0
unfolding by_order compares
equal_as_numbers eq = refl
equal_as_numbers ne = refl
equal_as_numbers lt = refl
equal_as_numbers le = refl
equal_as_numbers gt = refl
equal_as_numbers ge = refl

pub greater_as_numbers : (r : Relation) → by_order r greater ≡ compares r 1 0
unfolding by_order compares
greater_as_numbers eq = refl
greater_as_numbers ne = refl
greater_as_numbers lt = refl
greater_as_numbers le = refl
greater_as_numbers gt = refl
greater_as_numbers ge = refl

-- = and <> say whether two texts are the same bytes or not, by the test that names are compared with
pub equality_of_bytes : (x y : Bytes) → (in_relation eq (str x) (str y) ≡ same x y) × (in_relation ne (str x) (str y) ≡ not (same x y))
equality_of_bytes x y = go (same x y) refl
  where
    go : (t : Bool) → same x y ≡ t → (in_relation eq (str x) (str y) ≡ t) × (in_relation ne (str x) (str y) ≡ not t)
    go true e =
        let h = same→eq x y (rw e tt) in
        (is_true _ ((text_relation eq x y).1 h), is_false _ (λ u. (text_relation ne x y).0 u h))
    go false e =
        let h : x ≢ y = λ p. let u : T (same x y) = rw p (same_refl y) in rw e at u in
        (is_false _ (λ u. h ((text_relation eq x y).0 u)), is_true _ ((text_relation ne x y).1 h))

-- texts have all six relations
pub text_relations : (r : Relation) → has_relation strs r ≡ true
unfolding has_relation
text_relations r = refl

-- truth values have = and <> alone
pub truth_relations : map (has_relation bools) (eq ∷ ne ∷ lt ∷ le ∷ gt ∷ ge ∷ []) ≡ true ∷ true ∷ false ∷ false ∷ false ∷ false ∷ []
unfolding has_relation
truth_relations = refl
