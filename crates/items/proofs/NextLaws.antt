-- Laws of what follows in a list: the rest of a list by its next item.
use Prim.Native.Nat.{ℕ, zero, suc, ◌+◌, ◌-◌, ◌≤◌, ◌<◌}
use mathlib.Core.Path.{◌≡◌, refl, sym, ap, ◌∙◌}
use mathlib.Core.Logic.{⊎_elim}
use mathlib.Core.List.{List, [], ◌∷◌}
use mathlib.Core.Bool.{Bool, true, false, ◌||◌}
use native.Mathlib.Omega.{arith}
use lib.ListN.{length, drop}
use lib.Dec.{ltb, eqb}
use borrow.Author.Tests.{eq-eqb, ne_eqb, lt-ltb, le-ltb, eqb-true, eqb-false}
use Rattle.std.specs.Prelude.{Option, Some, None}
use Rattle.logic.specs.Flags.{or_false}
use Rattle.model.specs.Bytes.{Bytes}
use Rattle.model.specs.Choice.{pick, Maybe, nothing, just, and_then}
use Rattle.model.specs.Words.{Got}
use Rattle.model.specs.Items.{Item, Items, is_list, opens, plain_at, list_at, item_at}
use Rattle.text.specs.Places.{peek_at, past, is_space, end_of}
use Rattle.text.proofs.PlaceLaws.{below_or_not, drop_end, test_in, peek_in, past_on, past_step, past_stop, past_test}
use Rattle.items.specs.declared.Next.{Next}
use Rattle.items.specs.declared.Next.TheVariants.{Item as ItemAt, Close}
use Rattle.items.specs.Reads.{next_at}
use Rattle.items.specs.Rest.{rest_at, on_next, on_item}
use Rattle.items.proofs.SizeLaws.{size_or, kind_or, item_size, item_kind}
use Rattle.items.proofs.RestLaws.{rest_end, rest_close, rest_space, rest_opens, rest_stuck, rest_broken, rest_item}
use Rattle.items.proofs.ReadLaws.{opens_at}

-- what the tests of `next` say; p is the place behind the spaces
module _ (free : Bool) (s : Bytes) (i p : ℕ) (e : p ≡ past is_space s i) where
  pub next_close : peek_at s p ≡ 41 → Some (Close (p + 1)) ≡ next_at free s i
  unfolding next_at
  next_close h = rw (← e, eq-eqb (peek_at s p) 41 h)

  module _ (n : peek_at s p ≡ 41 → ⊥) where
    pub next_gap : i < p → Some (ItemAt p) ≡ next_at free s i
    unfolding next_at
    next_gap h = rw (← e, ne_eqb (peek_at s p) 41 n, lt-ltb i p h)

    pub next_item : p ≤ i → (free || eqb (peek_at s p) 40) ≡ true → Some (ItemAt p) ≡ next_at free s i
    unfolding next_at
    next_item h f = rw (← e, ne_eqb (peek_at s p) 41 n, le-ltb i p h, f)

    pub next_none : p ≤ i → (free || eqb (peek_at s p) 40) ≡ false → None ≡ next_at free s i
    unfolding next_at
    next_none h f = rw (← e, ne_eqb (peek_at s p) 41 n, le-ltb i p h, f)

or_true : (x : Bool) → (x || true) ≡ true
or_true true = refl
or_true false = refl

module _ {B : Type 0} (d : ℕ) (s : Bytes) (f : ℕ → List Item → Maybe B) where
  -- spaces are passed over
  passed : (n : ℕ) (free : Bool) (i p : ℕ) → p ≡ past is_space s i → p ≡ i + n → rest_at d free i s f ≡ rest_at d (free || ltb i p) p s f
  unfolding is_space
  passed zero free i p e w =
      let q : i ≡ p = omega arith in
      rw (le-ltb i p (omega arith), or_false free) (ap (λ (x : ℕ). rest_at d free x s f) q)
  passed (suc n) free i p e w = go (is_space (peek_at s i)) refl (passed n true (i + 1) p)
    where
      go : (x : Bool) → is_space (peek_at s i) ≡ x → (p ≡ past is_space s (i + 1) → p ≡ i + 1 + n → rest_at d true (i + 1) s f ≡ rest_at d true p s f)
          → rest_at d free i s f ≡ rest_at d (free || ltb i p) p s f
      go true h r =
          rw (lt-ltb i p (omega arith), or_true free)
          (rest_space d free s i f (test_in is_space s i refl h) (eqb-true (peek_at s i) 32 h) ∙ r (e ∙ past_step is_space s i refl h) (omega arith))
      go false h r = absurd (omega (arith, past_stop is_space s i h))

  -- the rest of a list, by what follows
  pub rest_next : (free : Bool) (i : ℕ) → rest_at d free i s f ≡ on_next (next_at free s i) (λ p. rest_at d true p s f) (λ q. f q [])
  unfolding next_at on_next is_space
  rest_next free i =
      passed (p - i) free i p refl (omega (arith, past_on is_space s i))
      ∙ go free (eqb (peek_at s p) 41) (ltb i p) (eqb (peek_at s p) 40) refl refl refl
    where
      p : ℕ
      p = past is_space s i

      space : peek_at s p ≡ 32 → ⊥
      space h = eqb-false (peek_at s p) 32 (past_test is_space s i refl) h

      go : (free x y z : Bool) → eqb (peek_at s p) 41 ≡ x → ltb i p ≡ y → eqb (peek_at s p) 40 ≡ z
          → rest_at d (free || y) p s f ≡ on_next (pick x (Some (Close (p + 1))) (pick y (Some (ItemAt p)) (pick (free || z) (Some (ItemAt p)) None))) (λ p. rest_at d true p s f)
          (λ q. f q [])
      go free true y z a b c = rest_close d (free || y) s p f (peek_in s p (omega (arith, eqb-true (peek_at s p) 41 a))) (eqb-true (peek_at s p) 41 a)
      go true false true z a b c = refl
      go true false false z a b c = refl
      go false false true z a b c = refl
      go false false false true a b c = rest_opens d false s p f (peek_in s p (omega (arith, eqb-true (peek_at s p) 40 c))) (eqb-true (peek_at s p) 40 c)
      go false false false false a b c =
          ⊎_elim (λ l. rest_stuck d false s p f l space (eqb-false (peek_at s p) 41 a) c) (λ g. rest_end d false s p f g) (below_or_not p (length s))

  module _ (free : Bool) (i : ℕ) where
    pub item_follows : (p : ℕ) → Some (ItemAt p) ≡ next_at free s i → rest_at d free i s f ≡ rest_at d true p s f
    unfolding on_next
    item_follows p e = rest_next free i ∙ ap (λ (n : Option (Next ℕ)). on_next n (λ p. rest_at d true p s f) (λ q. f q [])) (sym e)

    pub close_follows : (q : ℕ) → Some (Close q) ≡ next_at free s i → rest_at d free i s f ≡ f q []
    unfolding on_next
    close_follows q e = rest_next free i ∙ ap (λ (n : Option (Next ℕ)). on_next n (λ p. rest_at d true p s f) (λ q. f q [])) (sym e)

    pub none_follows : None ≡ next_at free s i → rest_at d free i s f ≡ nothing
    unfolding on_next
    none_follows e = rest_next free i ∙ ap (λ (n : Option (Next ℕ)). on_next n (λ p. rest_at d true p s f) (λ q. f q [])) (sym e)

-- an item that follows
pub record Begins (s : Bytes) (i p : ℕ) : Type 0 where
  pub after : i ≤ p
  pub no_space : peek_at s p ≡ 32 → ⊥
  pub no_close : peek_at s p ≡ 41 → ⊥

pub begins : (free : Bool) (s : Bytes) (i p : ℕ) → Some (ItemAt p) ≡ next_at free s i → Begins s i p
unfolding next_at is_space
begins free s i p e = go (eqb (peek_at s q) 41) (ltb i q) (free || eqb (peek_at s q) 40) refl e
  where
    q : ℕ
    q = past is_space s i

    at : eqb (peek_at s q) 41 ≡ false → p ≡ q → Begins s i p
    at a h =
        record {
          after = omega (arith, past_on is_space s i);
          no_space = λ k. eqb-false (peek_at s q) 32 (past_test is_space s i refl) (ap (peek_at s) (sym h) ∙ k);
          no_close = λ k. eqb-false (peek_at s q) 41 a (ap (peek_at s) (sym h) ∙ k);
        }

    go : (x y z : Bool) → eqb (peek_at s q) 41 ≡ x → Some (ItemAt p) ≡ pick x (Some (Close (q + 1))) (pick y (Some (ItemAt q)) (pick z (Some (ItemAt q)) None)) → Begins s i p
    go true y z a e = let w : ◌≡◌ {A = ℕ} 0 1 = cc in absurd (omega arith)
    go false true z a e = at a (cc)
    go false false true a e = at a (cc)
    go false false false a e = let w : ◌≡◌ {A = ℕ} 0 1 = cc in absurd (omega arith)

pub item_nil : (d : ℕ) → item_at d [] ≡ nothing
unfolding item_at opens plain_at
item_nil zero = refl
item_nil (suc d) = refl

-- the rest of a list, by the item that follows
module _ {B : Type 0} (d : ℕ) (s : Bytes) (i p : ℕ) (f : ℕ → List Item → Maybe B) (b : Begins s i p) where
  pub rest_at_law : rest_at d true p s f ≡ on_item p (item_at d (drop p s)) (λ x q. rest_at d (is_list x) q s (λ e is. f e (x ∷ is)))
  unfolding on_item
  rest_at_law = go (item_at d (drop p s)) refl
    where
      go : (o : Maybe (Got Item)) → item_at d (drop p s) ≡ o → rest_at d true p s f ≡ on_item p o (λ x q. rest_at d (is_list x) q s (λ e is. f e (x ∷ is)))
      go nothing e = ⊎_elim (λ l. rest_broken d true s p f l b.no_space b.no_close refl e) (λ g. rest_end d true s p f g) (below_or_not p (length s))
      go (just g) e =
          ⊎_elim (λ l. rest_item d true s p f l b.no_space b.no_close refl g e)
          (λ h. let z : ◌≡◌ {A = ℕ} 0 1 = cc (ap (item_at d) (drop_end s p h), item_nil d) in absurd (omega arith)) (below_or_not p (length s))

-- the list reader: only the end is wanted
unfoldable pub to_end : Maybe ℕ → Option ℕ
to_end nothing = None
to_end (just q) = Some q

abbrev pub ends : ℕ → List Item → Maybe ℕ
ends e is = just e

pub list_end_law : (d : ℕ) (free : Bool) (s : Bytes) (i : ℕ) → to_end (rest_at d free i s ends) ≡ end_of i (list_at (item_at d) free 0 (drop i s))
unfolding rest_at to_end and_then end_of
list_end_law d free s i = go (list_at (item_at d) free 0 (drop i s))
  where
    go : (o : Maybe (Got Items)) → to_end (and_then o (λ g. just (i + g.size))) ≡ end_of i o
    go nothing = refl
    go (just g) = refl

module _ (d : ℕ) (s : Bytes) (i p : ℕ) (b : Begins s i p) where
  pub ends_none : None ≡ end_of p (item_at d (drop p s)) → rest_at d true p s ends ≡ nothing
  unfolding end_of on_item
  ends_none e = rest_at_law d s i p ends b ∙ go (item_at d (drop p s)) e
    where
      go : (o : Maybe (Got Item)) → None ≡ end_of p o → on_item p o (λ x q. rest_at d (is_list x) q s ends) ≡ nothing
      go nothing e = refl
      go (just g) e = let z : ◌≡◌ {A = ℕ} 0 1 = cc in absurd (omega arith)

  pub ends_at : (q : ℕ) → Some q ≡ end_of p (item_at d (drop p s)) → (p < q) × (rest_at d true p s ends ≡ rest_at d (eqb (peek_at s p) 40) q s ends)
  unfolding end_of on_item size_or kind_or
  ends_at q e = let r = go (item_at d (drop p s)) (item_size d (drop p s)) (rw (opens_at s p) at (item_kind d (drop p s))) e in
      (r.0, rest_at_law d s i p ends b ∙ r.1)
    where
      go : (o : Maybe (Got Item)) → 0 < size_or o → kind_or (eqb (peek_at s p) 40) o ≡ eqb (peek_at s p) 40 → Some q ≡ end_of p o
          → (p < q) × (on_item p o (λ x q. rest_at d (is_list x) q s ends) ≡ rest_at d (eqb (peek_at s p) 40) q s ends)
      go nothing z k e = let w : ◌≡◌ {A = ℕ} 0 1 = cc in (absurd (omega arith), cc)
      go (just g) z k e = let r : q ≡ p + g.size = cc in (omega arith, rw (k, r))
