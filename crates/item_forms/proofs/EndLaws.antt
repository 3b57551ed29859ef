-- Where a list ends: right behind a closing bracket; and its items, read piece by piece, end there or cannot be read.
use Prim.Native.Nat.{ℕ, zero, suc, ◌+◌, ◌-◌, ◌<◌}
use mathlib.Core.Path.{◌≡◌, refl, sym, ap, ◌∙◌}
use mathlib.Core.List.{List, [], ◌∷◌}
use mathlib.Core.Bool.{Bool, true, false, ◌||◌}
use native.Mathlib.Omega.{arith}
use lib.ListN.{get_or, drop}
use lib.Dec.{eqb, ltb}
use borrow.Author.Tests.{eq-eqb, eqb-true, eqb-false}
use Rattle.std.specs.Prelude.{Option, Some, None, option_map}
use Rattle.model.specs.Bytes.{Bytes}
use Rattle.model.specs.Choice.{pick, Maybe, nothing, just, and_then}
use Rattle.model.specs.Words.{Got}
use Rattle.model.specs.Items.{Item, Items, none, onward, onward_with, is_list, list_at, item_at, item_list}
use Rattle.model.specs.Request.{Claim}
use Rattle.model.specs.Forms.{as_name, first, at_end}
use Rattle.model.specs.declared.Part.{Part}
use Rattle.model.specs.declared.Value.{Value as ValueData}
use Rattle.text.specs.Places.{peek_at, past, is_space, end_of}
use Rattle.text.proofs.PlaceLaws.{peek_drop}
use Rattle.items.specs.declared.Next.TheVariants.{Item as ItemAt, Close}
use Rattle.items.specs.declared.Next.{Next}
use Rattle.item_forms.specs.declared.EntryParts.{EntryParts}
use Rattle.item_forms.specs.declared.ClaimParts.{ClaimParts}
use Rattle.items.specs.Reads.{next_at, list_end}
use Rattle.items.specs.Rest.{rest_at}
use Rattle.item_forms.specs.Pieces.{behind, item_place, name_next, value_next, open_next, close_after, close_next, after_end}
use Rattle.item_forms.specs.Forms.{entry_to, entry_next, on_entry, claim_to, claim_rest, on_claim}
use Rattle.items.proofs.RestLaws.{rest_same}
use Rattle.item_forms.proofs.ListLaws.{entry_items, entry_items_law, at_entry, entry_close, first_then, claim_rest_law, at_shut}

-- what follows from two answers of different kinds being equal
none_is : {A : Type 0} → ◌≡◌ {A = ℕ} 0 1 → A
none_is z = absurd (omega arith)

-- the last byte of what was read of a list is a closing bracket
Shut : Bytes → Maybe (Got Items) → Type 0
Shut t nothing = Unit {0}
Shut t (just g) = (0 < g.size) × (get_or t (g.size - 1) 256 ≡ 41)

shut_pick : (t : Bytes) (x : Bool) (a b : Maybe (Got Items)) → Shut t a → Shut t b → Shut t (pick x a b)
shut_pick t true a b h k = h
shut_pick t false a b h k = k

further_in : (b : ℕ) (t : Bytes) (n : ℕ) → 0 < n → get_or t (n - 1) 256 ≡ 41 → get_or (b ∷ t) (n + 1 - 1) 256 ≡ 41
further_in b t n h e = let w : n + 1 - 1 ≡ suc (n - 1) = omega arith in rw w e

onward_shut : (b : ℕ) (t : Bytes) (o : Maybe (Got Items)) → Shut t o → Shut (b ∷ t) (onward o)
unfolding onward Shut
onward_shut b t nothing h = tt
onward_shut b t (just g) h = (omega arith, further_in b t g.size h.0 h.1)

with_shut : (b : ℕ) (t : Bytes) (x : Item) (o : Maybe (Got Items)) → Shut t o → Shut (b ∷ t) (onward_with x o)
unfolding onward_with Shut
with_shut b t x nothing h = tt
with_shut b t x (just g) h = (omega arith, further_in b t g.size h.0 h.1)

list_shut : (read : Bytes → Maybe (Got Item)) (free : Bool) (k : ℕ) (t : Bytes) → Shut t (list_at read free k t)
unfolding list_at and_then Shut
list_shut read free k [] = tt
list_shut read free (suc k) (b ∷ t) = onward_shut b t (list_at read free k t) (list_shut read free k t)
list_shut read free zero (b ∷ t) =
    shut_pick (b ∷ t) (eqb b 32) (onward (list_at read true 0 t)) (pick (eqb b 41) closed (pick (free || eqb b 40) item nothing))
    (onward_shut b t (list_at read true 0 t) (list_shut read true 0 t)) (bracket (eqb b 41) refl (λ f k. list_shut read f k t))
  where
    closed : Maybe (Got Items)
    closed = just (record { got = none; size = 1 })

    then : Maybe (Got Item) → Maybe (Got Items)
    then o = and_then o (λ g. onward_with g.got (list_at read (is_list g.got) (g.size - 1) t))

    item : Maybe (Got Items)
    item = then (read (b ∷ t))

    go : (o : Maybe (Got Item)) → ((f : Bool) (k : ℕ) → Shut t (list_at read f k t)) → Shut (b ∷ t) (then o)
    go nothing r = tt
    go (just g) r = with_shut b t g.got (list_at read (is_list g.got) (g.size - 1) t) (r (is_list g.got) (g.size - 1))

    bracket : (x : Bool) → eqb b 41 ≡ x → ((f : Bool) (k : ℕ) → Shut t (list_at read f k t))
        → Shut (b ∷ t) (pick x closed (pick (free || eqb b 40) item nothing))
    bracket true h r = (omega arith, eqb-true b 41 h)
    bracket false h r = shut_pick (b ∷ t) (free || eqb b 40) item nothing
        (go (read (b ∷ t)) r) tt

module _ (d : ℕ) (free : Bool) (s : Bytes) (i : ℕ) where
  -- the end that the list reader gives stands right behind a closing bracket
  pub ends_shut : (q : ℕ) → Some q ≡ list_end d free s i → (0 < q) × (peek_at s (q - 1) ≡ 41)
  unfolding end_of Shut
  ends_shut q e = go (list_at (item_at d) free 0 (drop i s)) (list_shut (item_at d) free 0 (drop i s)) e
    where
      go : (o : Maybe (Got Items)) → Shut (drop i s) o → Some q ≡ end_of i o → (0 < q) × (peek_at s (q - 1) ≡ 41)
      go nothing h e = none_is (cc)
      go (just g) h e =
          let w : q ≡ i + g.size = cc in
          let z : 0 < g.size = h.0 in
          let v : q - 1 ≡ i + (g.size - 1) = omega arith in
          (omega arith, rw v (sym (peek_drop s i (g.size - 1)) ∙ h.1))

  -- where the list reader gives no end, nothing is made of the list
  pub ends_nowhere : {B : Type 0} (f : ℕ → List Item → Maybe B) → None ≡ list_end d free s i → rest_at d free i s f ≡ nothing
  unfolding rest_at and_then end_of
  ends_nowhere f e = go (list_at (item_at d) free 0 (drop i s)) e
    where
      go : (o : Maybe (Got Items)) → None ≡ end_of i o → and_then o (λ g. f (i + g.size) (item_list g.got)) ≡ nothing
      go nothing e = refl
      go (just g) e = none_is (cc)

  -- whatever is made of the items of a list, the end that goes with it is the one that the list reader gives
  pub ends_there : {A : Type 0} (h : List Item → Maybe A) (q : ℕ)
      → rest_at d free i s (λ e is. and_then (h is) (λ x. just e)) ≡ just q → Some q ≡ list_end d free s i
  unfolding rest_at and_then end_of
  ends_there {A} h q e = go (list_at (item_at d) free 0 (drop i s)) e
    where
      by : (n : ℕ) (o : Maybe A) → and_then o (λ x. just n) ≡ just q → Some q ≡ Some n
      by n nothing e = none_is (cc)
      by n (just x) e = let w : n ≡ q = cc in cc

      go : (o : Maybe (Got Items)) → and_then o (λ g. and_then (h (item_list g.got)) (λ x. just (i + g.size))) ≡ just q → Some q ≡ end_of i o
      go nothing e = none_is (cc)
      go (just g) e = by (i + g.size) (h (item_list g.got)) e

-- what `only_closes` says of the closing bracket, z being an end that the list reader gave
module _ (s : Bytes) (q z : ℕ) (h : peek_at s (z - 1) ≡ 41) (l : 0 < z) where
  pub closes_there : true ≡ eqb (past is_space s q) (z - 1) → Some z ≡ close_next s q
  unfolding close_next close_after next_at
  closes_there t =
      let w : past is_space s q ≡ z - 1 = eqb-true (past is_space s q) (z - 1) (sym t) in
      let v : z - 1 + 1 ≡ z = omega arith in
      rw (w, eq-eqb (peek_at s (z - 1)) 41 h, v)

  pub closes_nowhere : ((x : ℕ) → Some x ≡ close_next s q → Some x ≡ Some z)
      → false ≡ eqb (past is_space s q) (z - 1) → None ≡ close_next s q
  unfolding close_next close_after next_at
  closes_nowhere only t = go (eqb (peek_at s p) 41) (ltb q p) only
    where
      p : ℕ
      p = past is_space s q

      go : (x y : Bool) → ((n : ℕ) → Some n ≡ close_after (pick x (Some (Close (p + 1))) (pick y (Some (ItemAt p)) (Some (ItemAt p)))) → Some n ≡ Some z)
          → None ≡ close_after (pick x (Some (Close (p + 1))) (pick y (Some (ItemAt p)) (Some (ItemAt p))))
      go true y f =
          let e : Some (p + 1) ≡ Some z = f (p + 1) refl in
          let w : p + 1 ≡ z = cc in
          absurd (eqb-false p (z - 1) (sym t) (omega arith))
      go false true f = refl
      go false false f = refl

-- (ATTR VALUE), p being the place behind its opening bracket
module _ (d : ℕ) (s : Bytes) (i p : ℕ) (e : Some (ItemAt p) ≡ open_next s i) where
  -- an entry that is read ends where the list reader says
  entry_ends : (a : Part) (v : ValueData) (q : ℕ) → Some (ItemAt (entry_to a v q)) ≡ entry_next d s i → Some q ≡ list_end d true s p
  unfolding on_entry
  entry_ends a v q h =
      ends_there d true s p entry_items q
      (entry_items_law s d p (λ x e. just e) (λ e. nothing)
      ∙ ap (λ (r : Option (Next EntryParts)). on_entry s r (λ x e. just e) (λ e. nothing)) (at_entry d s i p e _ refl ∙ sym h))

  -- where the list reader gives no end, there is no entry
  pub entry_nowhere : None ≡ list_end d true s p → None ≡ entry_next d s i
  unfolding on_entry
  entry_nowhere n =
      go (entry_next d s i)
      (ap (λ (r : Option (Next EntryParts)). on_entry s r (λ x e. just e) (λ e. just e)) (sym (at_entry d s i p e _ refl))
      ∙ sym (entry_items_law s d p (λ x e. just e) (λ e. just e))
      ∙ ends_nowhere d true s p (λ e is. and_then (entry_items is) (λ x. just e)) n)
    where
      go : (r : Option (Next EntryParts)) → on_entry s r (λ x e. just e) (λ e. just e) ≡ nothing → None ≡ r
      go (Some (ItemAt x)) h = none_is (cc)
      go (Some (Close q)) h = none_is (cc)
      go None h = refl

  module _ (a : Part) (n : Some a ≡ item_place (name_next d true s p)) (v : ValueData) (q : ℕ) (w : Some (v, q) ≡ value_next d false s (behind a))
      (z : ℕ) (l : Some z ≡ list_end d true s p) where
    pub entry_there : true ≡ eqb (past is_space s q) (z - 1) → Some (ItemAt (entry_to a v z)) ≡ entry_next d s i
    unfolding after_end
    entry_there t = let h = ends_shut d true s p z l in entry_close d s i p e a n v q w (Some z) (closes_there s q z h.1 h.0 t)

    pub entry_past : false ≡ eqb (past is_space s q) (z - 1) → None ≡ entry_next d s i
    unfolding after_end
    entry_past t =
        let h = ends_shut d true s p z l in
        entry_close d s i p e a n v q w None
        (closes_nowhere s q z h.1 h.0 (λ x k. entry_ends a v x (entry_close d s i p e a n v q w (Some x) k) ∙ sym l) t)

-- ACTOR NODE behind the first word of an (id ACTOR NODE)
module _ (d : ℕ) (s : Bytes) (i : ℕ) where
  claim_names : List Item → Maybe Claim
  claim_names is = first as_name is (λ a is. first as_name is (λ n is. at_end is (record { actor = a; node = n })))

  claim_made : {B : Type 0} (k : Claim → ℕ → Maybe B) (g : ℕ → Maybe B)
      → rest_at d false i s (λ e is. and_then (claim_names is) (λ x. k x e)) ≡ on_claim s (option_map ItemAt (claim_rest d s i)) k g
  unfolding claim_names
  claim_made k g =
      rest_same d false i s _ _ (λ e is.
      first_then as_name is (λ a is. first as_name is (λ n is. at_end is (record { actor = a; node = n }))) (λ x. k x e)
      ∙ (λ t. first as_name is (λ a is. first_then as_name is (λ n is. at_end is (record { actor = a; node = n })) (λ x. k x e) t)))
      ∙ claim_rest_law d s k g i

  -- an identity that is read ends where the list reader says
  claim_ends : (a x : Part) (q : ℕ) → Some (claim_to a x q) ≡ claim_rest d s i → Some q ≡ list_end d false s i
  unfolding on_claim
  claim_ends a x q h =
      ends_there d false s i claim_names q
      (claim_made (λ x e. just e) (λ e. nothing) ∙ ap (λ (r : Option ClaimParts). on_claim s (option_map ItemAt r) (λ x e. just e) (λ e. nothing)) (sym h))

  -- where the list reader gives no end, there is no identity
  pub claim_nowhere : None ≡ list_end d false s i → None ≡ claim_rest d s i
  unfolding on_claim
  claim_nowhere n =
      go (claim_rest d s i)
      (sym (claim_made (λ x e. just e) (λ e. just e)) ∙ ends_nowhere d false s i (λ e is. and_then (claim_names is) (λ x. just e)) n)
    where
      go : (r : Option ClaimParts) → on_claim s (option_map ItemAt r) (λ x e. just e) (λ e. just e) ≡ nothing → None ≡ r
      go (Some x) h = none_is (cc)
      go None h = refl

  module _ (a : Part) (n : Some a ≡ item_place (name_next d false s i)) (x : Part) (w : Some x ≡ item_place (name_next d false s (behind a)))
      (z : ℕ) (l : Some z ≡ list_end d false s i) where
    pub claim_there : true ≡ eqb (past is_space s (behind x)) (z - 1) → Some (claim_to a x z) ≡ claim_rest d s i
    unfolding after_end
    claim_there t = let h = ends_shut d false s i z l in at_shut d s i a n x w (Some z) (closes_there s (behind x) z h.1 h.0 t)

    pub claim_past : false ≡ eqb (past is_space s (behind x)) (z - 1) → None ≡ claim_rest d s i
    unfolding after_end
    claim_past t =
        let h = ends_shut d false s i z l in
        at_shut d s i a n x w None
        (closes_nowhere s (behind x) z h.1 h.0 (λ u k. claim_ends a x u (at_shut d s i a n x w (Some u) k) ∙ sym l) t)
