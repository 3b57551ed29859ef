-- Laws of the rest of a list: what the byte at a place says of it.
use Prim.Native.Nat.{ℕ, ◌+◌, ◌-◌, ◌≤◌, ◌<◌}
use mathlib.Core.Path.{◌≡◌, refl, ap, ◌∙◌}
use mathlib.Core.List.{List, [], ◌∷◌}
use mathlib.Core.Bool.{Bool, true, false, ◌||◌}
use native.Mathlib.Omega.{arith}
use lib.ListN.{length, drop}
use lib.Seq.{drop-drop}
use lib.Dec.{eqb}
use borrow.Author.Tests.{ne_eqb}
use Rattle.model.specs.Bytes.{Bytes}
use Rattle.model.specs.Choice.{pick, Maybe, nothing, just, and_then}
use Rattle.model.specs.Words.{Got}
use Rattle.model.specs.Items.{Item, Items, is_list, onward, onward_with, list_at, item_at, item_list}
use Rattle.model.proofs.Skips.{further, list_skip}
use Rattle.text.specs.Places.{peek_at}
use Rattle.text.proofs.PlaceLaws.{drop_peek, drop_end}
use Rattle.items.specs.Rest.{rest_at}
use Rattle.items.proofs.SizeLaws.{size_or, item_size}

-- what is made of a list read at a place
pub behind : {B : Type 0} → ℕ → Maybe (Got Items) → (ℕ → List Item → Maybe B) → Maybe B
behind at o f = and_then o (λ g. f (at + g.size) (item_list g.got))

behind_onward : {B : Type 0} (at : ℕ) (o : Maybe (Got Items)) (f : ℕ → List Item → Maybe B) → behind at (onward o) f ≡ behind (at + 1) o f
unfolding behind onward and_then
behind_onward at nothing f = refl
behind_onward at (just g) f = let e : at + (g.size + 1) ≡ at + 1 + g.size = omega arith in ap (λ (n : ℕ). f n (item_list g.got)) e

behind_with : {B : Type 0} (at k : ℕ) (x : Item) (o : Maybe (Got Items)) (f : ℕ → List Item → Maybe B)
    → behind at (onward_with x (further k o)) f ≡ behind (at + 1 + k) o (λ e is. f e (x ∷ is))
unfolding behind onward_with further and_then item_list
behind_with at k x nothing f = refl
behind_with at k x (just g) f =
    let e : at + (g.size + k + 1) ≡ at + 1 + k + g.size = omega arith in ap (λ (n : ℕ). f n (x ∷ item_list g.got)) e

-- the rest depends on what f makes of each end and items alone
pub rest_same : {B : Type 0} (d : ℕ) (free : Bool) (i : ℕ) (s : Bytes) (f g : ℕ → List Item → Maybe B) → ((e : ℕ) (is : List Item) → f e is ≡ g e is)
    → rest_at d free i s f ≡ rest_at d free i s g
rest_same d free i s f g h = λ x. rest_at d free i s (λ e is. h e is x)

-- a rest of which nothing is made is nothing
pub rest_nothing : {B : Type 0} (d : ℕ) (free : Bool) (i : ℕ) (s : Bytes) → rest_at {B = B} d free i s (λ e is. nothing) ≡ nothing
unfolding rest_at and_then
rest_nothing {B} d free i s = go (list_at (item_at d) free 0 (drop i s))
  where
    go : (o : Maybe (Got Items)) → and_then {B = B} o (λ g. nothing) ≡ nothing
    go nothing = refl
    go (just g) = refl

-- what does not depend on the rest may stand before it
pub rest_then_law : {A B : Type 0} (d : ℕ) (free : Bool) (i : ℕ) (s : Bytes) (o : Maybe A) (f : A → ℕ → List Item → Maybe B)
    → rest_at d free i s (λ e is. and_then o (λ a. f a e is)) ≡ and_then o (λ a. rest_at d free i s (f a))
unfolding and_then
rest_then_law d free i s nothing f = rest_nothing d free i s
rest_then_law d free i s (just a) f = refl

module _ {B : Type 0} (d : ℕ) (free : Bool) (s : Bytes) (i : ℕ) (f : ℕ → List Item → Maybe B) where
  pub rest_end : length s ≤ i → rest_at d free i s f ≡ nothing
  unfolding rest_at list_at and_then
  rest_end h = rw (drop_end s i h)

  module _ (l : i < length s) where
    pub rest_close : peek_at s i ≡ 41 → rest_at d free i s f ≡ f (i + 1) []
    unfolding rest_at list_at and_then item_list
    rest_close h = rw (drop_peek s i l, h)

    pub rest_space : peek_at s i ≡ 32 → rest_at d free i s f ≡ rest_at d true (i + 1) s f
    unfolding rest_at list_at behind
    rest_space h = rw (drop_peek s i l, h) (behind_onward i (list_at (item_at d) true 0 (drop (i + 1) s)) f)

    pub rest_opens : peek_at s i ≡ 40 → rest_at d free i s f ≡ rest_at d true i s f
    unfolding rest_at list_at
    rest_opens h = rw (drop_peek s i l, h) (go free)
      where
        rest : Bool → Maybe (Got Items)
        rest x = pick (x || true) (and_then (item_at d (40 ∷ drop (i + 1) s))
            (λ g. onward_with g.got (list_at (item_at d) (is_list g.got) (g.size - 1) (drop (i + 1) s)))) nothing

        go : (x : Bool) → and_then (rest x) (λ g. f (i + g.size) (item_list g.got)) ≡ and_then (rest true) (λ g. f (i + g.size) (item_list g.got))
        go true = refl
        go false = refl

    module _ (n : peek_at s i ≡ 32 → ⊥) (m : peek_at s i ≡ 41 → ⊥) where
      pub rest_stuck : (free || eqb (peek_at s i) 40) ≡ false → rest_at d free i s f ≡ nothing
      unfolding rest_at list_at and_then
      rest_stuck h = rw (drop_peek s i l, ne_eqb (peek_at s i) 32 n, ne_eqb (peek_at s i) 41 m, h)

      module _ (h : (free || eqb (peek_at s i) 40) ≡ true) where
        pub rest_broken : item_at d (drop i s) ≡ nothing → rest_at d free i s f ≡ nothing
        unfolding rest_at list_at and_then
        rest_broken e = rw (drop_peek s i l, ne_eqb (peek_at s i) 32 n, ne_eqb (peek_at s i) 41 m, h, ← drop_peek s i l, e)

        opened : (g : Got Item) → item_at d (drop i s) ≡ just g
            → list_at (item_at d) free 0 (drop i s) ≡ onward_with g.got (list_at (item_at d) (is_list g.got) (g.size - 1) (drop (i + 1) s))
        unfolding list_at and_then
        opened g e =
            let e' : item_at d (peek_at s i ∷ drop (i + 1) s) ≡ just g = rw (← drop_peek s i l) e in
            rw (drop_peek s i l, ne_eqb (peek_at s i) 32 n, ne_eqb (peek_at s i) 41 m, h, e')

        pub rest_item : (g : Got Item) → item_at d (drop i s) ≡ just g
            → rest_at d free i s f ≡ rest_at d (is_list g.got) (i + g.size) s (λ e is. f e (g.got ∷ is))
        unfolding rest_at behind size_or
        rest_item g e =
            let z : 0 < g.size = rw e at (item_size d (drop i s)) in
            let k : i + 1 + (g.size - 1) ≡ i + g.size = omega arith in
            ap (λ (o : Maybe (Got Items)). behind i o f)
            (opened g e ∙ ap (onward_with g.got) (list_skip (item_at d) (is_list g.got) (g.size - 1) (drop (i + 1) s)))
            ∙ behind_with i (g.size - 1) g.got (list_at (item_at d) (is_list g.got) 0 (drop (g.size - 1) (drop (i + 1) s))) f
            ∙ rw (drop-drop (g.size - 1) (i + 1) s, k)
