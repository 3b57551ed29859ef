-- The identities of a request's line, one after another.
use Prim.Native.Nat.{ℕ, ◌+◌, ◌≤◌, ◌<◌}
use mathlib.Core.Path.{◌≡◌, refl, sym, ap, subst, ◌∙◌}
use mathlib.Core.List.{List, [], ◌∷◌}
use mathlib.Core.Bool.{Bool, true, false}
use native.Mathlib.Omega.{arith}
use lib.ListN.{length}
use lib.Dec.{eqb, ltb}
use Rattle.std.specs.Prelude.{Option, None, Some, option_map}
use Rattle.model.specs.Bytes.{Bytes, bytes_of, same}
use Rattle.model.specs.Choice.{pick, Maybe, nothing, just, and_then}
use Rattle.model.specs.Lists.{each}
use Rattle.model.specs.Request.{Claim, claim_of}
use Rattle.model.specs.Answers.{name_at}
use Rattle.model.specs.declared.Part.{Part}
use Rattle.model.proofs.Outcomes.{then_e, no_just}
use Rattle.text.specs.Places.{peek_at, past, is_space}
use Rattle.text.proofs.PlaceLaws.{past_on}
use Rattle.items.specs.declared.Next.{Next}
use Rattle.items.specs.declared.Next.TheVariants.{Item as ItemAt, Close}
use Rattle.item_forms.specs.declared.ClaimParts.{ClaimParts}
use Rattle.items.specs.Reads.{next_at}
use Rattle.item_forms.specs.Ends.{form_at, line_form, line_at, ends_after}
use Rattle.item_forms.specs.Pieces.{behind, after_end, item_place, word_next, name_next, open_after, open_next, close_after, close_next}
use Rattle.item_forms.specs.Places.{WordPlaces, Placed}
use Rattle.item_forms.specs.Forms.{claim_to, claim_node, claim_actor, claim_rest, claim_head, claim_after, claim_next, on_claim}
use Rattle.items.proofs.RestLaws.{rest_end}
use Rattle.items.proofs.NextLaws.{begins}
use Rattle.item_forms.proofs.ListLaws.{form_claims}
use Rattle.item_forms.proofs.PlacedLaws.{word_placed, name_placed}
use Rattle.name_lists.proofs.Forms.{form_on}
use Rattle.request.specs.Claims.{claims_from, one_more, are_read, ClaimPlaces, claim_of_places, claim_at, ClaimPlaced, claim_on, Left}

-- where an identity stands
module _ (s : Bytes) where
  close_after_law : (y e : ℕ) → close_next s y ≡ Some e → y < e
  unfolding close_next close_after next_at
  close_after_law y e h = go (eqb (peek_at s p) 41) (ltb y p) h
    where
      p : ℕ
      p = past is_space s y

      go : (a b : Bool) → close_after (pick a (Some (Close (p + 1))) (pick b (Some (ItemAt p)) (Some (ItemAt p)))) ≡ Some e → y < e
      go true b h = let z : p + 1 ≡ e = cc in omega (arith, past_on is_space s y)
      go false true h = let z : ◌≡◌ {A = ℕ} 0 1 = cc in absurd (omega arith)
      go false false h = let z : ◌≡◌ {A = ℕ} 0 1 = cc in absurd (omega arith)

  open_after_law : (i p : ℕ) → open_next s i ≡ Some (ItemAt p) → i ≤ p
  unfolding open_next open_after
  open_after_law i p h = go (next_at true s i) refl h
    where
      by : (b : Bool) (q : ℕ) → pick b (Some (ItemAt (q + 1))) None ≡ Some (ItemAt p) → q ≤ p
      by true q h = let z : q + 1 ≡ p = cc in omega arith
      by false q h = let z : ◌≡◌ {A = ℕ} 0 1 = cc in absurd (omega arith)

      go : (n : Option (Next ℕ)) → next_at true s i ≡ n → open_after s n ≡ Some (ItemAt p) → i ≤ p
      go (Some (ItemAt q)) e h = omega (arith, (begins true s i q (sym e)).after, by (eqb (peek_at s q) 40) q h)
      go (Some (Close q)) e h = let z : ◌≡◌ {A = ℕ} 0 1 = cc in absurd (omega arith)
      go None e h = let z : ◌≡◌ {A = ℕ} 0 1 = cc in absurd (omega arith)

  module _ (i : ℕ) where
    earlier : (j : ℕ) (w : Part) → i ≤ j → WordPlaces s j w → WordPlaces s i w
    earlier j w l h = record { after = omega (arith, h.after); some = h.some; inside = h.inside; short = h.short }

    shut_placed : (a x : Part) → WordPlaces s i a → WordPlaces s i x → (o : Option ℕ) → close_next s (behind x) ≡ o
        → ClaimPlaced s i (claim_at (option_map ItemAt (after_end o (λ e. Some (claim_to a x e)) None)))
    unfolding after_end
    shut_placed a x h k (Some e) c = record { actor = h; node = k; onward = omega (arith, close_after_law (behind x) e c, k.after, k.some) }
    shut_placed a x h k None c = tt

    node_placed : (a : Part) → WordPlaces s i a → (w : Option Part) → Placed s (behind a) w → ClaimPlaced s i (claim_at (option_map ItemAt (claim_node s a w)))
    unfolding claim_node
    node_placed a h (Some x) k = shut_placed a x h (earlier (behind a) x (omega (arith, h.after)) k) (close_next s (behind x)) refl
    node_placed a h None k = tt

    actor_placed : (j : ℕ) → i ≤ j → (w : Option Part) → Placed s j w → ClaimPlaced s i (claim_at (option_map ItemAt (claim_actor 2 s w)))
    unfolding claim_actor
    actor_placed j l (Some a) k = node_placed a (earlier j a l k) (item_place (name_next 2 false s (behind a))) (name_placed 2 false s (behind a))
    actor_placed j l None k = tt

    head_placed : (j : ℕ) → i ≤ j → (w : Option Part) → Placed s j w → ClaimPlaced s i (claim_at (claim_head 2 s w))
    unfolding claim_head claim_rest
    head_placed j l (Some w) k = go (same (name_at s w) (bytes_of "id"))
      where
        go : (b : Bool) → ClaimPlaced s i (claim_at (pick b (option_map ItemAt (claim_rest 2 s (behind w))) None))
        go true = actor_placed (behind w) (omega (arith, k.after)) (item_place (name_next 2 false s (behind w))) (name_placed 2 false s (behind w))
        go false = tt
    head_placed j l None k = tt

    -- the identity that follows stands behind its place
    pub claim_placed : ClaimPlaced s i (claim_at (claim_next 2 s i))
    unfolding claim_next claim_after
    claim_placed = go (open_next s i) refl
      where
        go : (n : Option (Next ℕ)) → open_next s i ≡ n → ClaimPlaced s i (claim_at (claim_after 2 s n))
        go (Some (ItemAt p)) e = head_placed p (open_after_law i p e) (word_next 2 true s p) (word_placed 2 true s p)
        go (Some (Close p)) e = tt
        go None e = tt

then_self : {A : Type 0} (o : Maybe A) → o ≡ and_then o just
unfolding and_then
then_self nothing = refl
then_self (just a) = refl

-- one identity after another
module _ (s : Bytes) (i : ℕ) where
  -- a form that is asked for identities
  pub claims_then : {B : Type 0} (free : Bool) (k : List Claim → Maybe B) → line_at free i s (λ is. and_then (each claim_of is) k) ≡ and_then (claims_from s i) k
  unfolding claims_from
  claims_then free k = form_claims s line_form free i k ∙ sym (form_claims s line_form true i k) ∙ form_on true i s (λ is. each claim_of is) k

module _ (s : Bytes) (i : ℕ) where
  -- what follows a piece that was read
  abbrev go_on : Option (Next ClaimParts) → Maybe (List Claim)
  go_on r = on_claim s r (λ x q. one_more x (claims_from s q)) (λ e. pick (ends_after 0 s e) (just []) nothing)

  claims_next : claims_from s i ≡ go_on (claim_next 2 s i)
  unfolding claims_from one_more
  claims_next =
      (λ t. line_at true i s (λ is. then_self (each claim_of is) t))
      ∙ form_claims s line_form true i just
      ∙ (λ t. on_claim s (claim_next 2 s i) (λ x q. claims_then s q true (λ xs. just (x ∷ xs)) t) (λ e. pick (ends_after 0 s e) (just []) nothing))

  claims_by : (r : Option (Next ClaimParts)) → r ≡ claim_next 2 s i → claims_from s i ≡ go_on r
  claims_by r e = claims_next ∙ ap go_on (sym e)

  more_read : (x : Claim) (o : Maybe (List Claim)) → are_read o ≡ are_read (one_more x o)
  unfolding are_read one_more and_then
  more_read x nothing = refl
  more_read x (just xs) = refl

  -- whether they can be read
  pub read_on : {a x : Part} {e : ℕ} → Some (ItemAt (claim_to a x e)) ≡ claim_next 2 s i → are_read (claims_from s e) ≡ are_read (claims_from s i)
  unfolding on_claim
  read_on {a} {x} {e} h = more_read (claim_on s a x) (claims_from s e) ∙ ap are_read (sym (claims_by _ h))

  pub read_closed : {e : ℕ} → Some (Close e) ≡ claim_next 2 s i → ends_after 0 s e ≡ are_read (claims_from s i)
  unfolding on_claim are_read
  read_closed {e} h = go (ends_after 0 s e) ∙ ap are_read (sym (claims_by _ h))
    where
      go : (b : Bool) → b ≡ are_read (pick b (just []) nothing)
      go true = refl
      go false = refl

  pub read_broken : None ≡ claim_next 2 s i → false ≡ are_read (claims_from s i)
  unfolding on_claim are_read
  read_broken h = ap are_read (sym (claims_by _ h))

  claims_end : length s ≤ i → claims_from s i ≡ nothing
  unfolding claims_from form_at
  claims_end l = rest_end 3 true s i (λ e is. pick (ends_after 0 s e) (each claim_of is) nothing) l

  pub read_over : length s ≤ i → false ≡ are_read (claims_from s i)
  unfolding are_read
  read_over l = ap are_read (sym (claims_end l))

  -- an identity, and those behind it
  pub claim_step : (xs : List Claim) (a x : Part) (e : ℕ) → Some (claim_of_places a x e) ≡ claim_at (claim_next 2 s i) → claims_from s i ≡ just xs
      → (ys : List Claim) × (claims_from s e ≡ just ys) × (xs ≡ claim_on s a x ∷ ys)
  unfolding on_claim one_more
  claim_step xs a x e n h = go (claim_next 2 s i) n (sym claims_next ∙ h)
    where
      go : (r : Option (Next ClaimParts)) → Some (claim_of_places a x e) ≡ claim_at r → go_on r ≡ just xs → (ys : List Claim) × (claims_from s e ≡ just ys) × (xs ≡ claim_on s a x ∷ ys)
      go (Some (ItemAt y)) n h =
          let ys = then_e (claims_from s y.next) (λ (ys : List Claim). just (claim_on s y.actor y.node ∷ ys)) xs h in
          let same_claim : y ≡ claim_of_places a x e = cc in
          let ea : y.actor ≡ a = ap (λ (v : ClaimParts). v.actor) same_claim in
          let ex : y.node ≡ x = ap (λ (v : ClaimParts). v.node) same_claim in
          let ee : y.next ≡ e = ap (λ (v : ClaimParts). v.next) same_claim in
          let z : claim_on s y.actor y.node ∷ ys.0 ≡ xs = cc ys.2 in
          (ys.0, ap (claims_from s) (sym ee) ∙ ys.1, sym z ∙ (λ t. claim_on s (ea t) (ex t) ∷ ys.0))
      go (Some (Close e')) n h = let z : ◌≡◌ {A = ℕ} 0 1 = cc in absurd (omega arith)
      go None n h = let z : ◌≡◌ {A = ℕ} 0 1 = cc in absurd (omega arith)

  pub claims_done : (xs : List Claim) → None ≡ claim_at (claim_next 2 s i) → claims_from s i ≡ just xs → xs ≡ []
  unfolding on_claim
  claims_done xs n h = go (claim_next 2 s i) n (sym claims_next ∙ h)
    where
      by : (b : Bool) → pick b (just []) nothing ≡ just xs → xs ≡ []
      by true h = let z : [] ≡ xs = cc in sym z
      by false h = no_just xs h

      go : (r : Option (Next ClaimParts)) → None ≡ claim_at r → go_on r ≡ just xs → xs ≡ []
      go (Some (ItemAt y)) n h = let z : ◌≡◌ {A = ℕ} 0 1 = cc in absurd (omega arith)
      go (Some (Close e)) n h = by (ends_after 0 s e) h
      go None n h = no_just xs h

  pub claims_over : {C : Type 0} (xs : List Claim) → length s ≤ i → claims_from s i ≡ just xs → C
  claims_over xs l h = no_just xs (sym (claims_end l) ∙ h)

-- where an identity that was read stands
pub placed_at : (s : Bytes) (i : ℕ) {a x : Part} {e : ℕ} (r : Option ClaimParts) → r ≡ Some (claim_of_places a x e) → ClaimPlaced s i r → ClaimPlaces s i a x e
placed_at s i r e h = subst (ClaimPlaced s i) e h

-- what is said of the identities from a place on
module _ {A : Type 0} (f g : List Claim → A) (s : Bytes) (from i : ℕ) where
  pub left_next : (h : List Claim → A) (a x : Part) (e : ℕ) → Left f g s from i → Some (claim_of_places a x e) ≡ claim_at (claim_next 2 s i)
      → ((ys : List Claim) → claims_from s e ≡ just ys → g (claim_on s a x ∷ ys) ≡ h ys) → Left f h s from e
  left_next h a x e left n step xs d =
      let ys = left xs d in
      let zs = claim_step s i ys.0 a x e n ys.1 in
      (zs.0, zs.1, ys.2 ∙ ap g zs.2 ∙ step zs.0 zs.1)

  pub left_found : (v : A) (a x : Part) (e : ℕ) → Left f g s from i → Some (claim_of_places a x e) ≡ claim_at (claim_next 2 s i)
      → ((ys : List Claim) → claims_from s e ≡ just ys → g (claim_on s a x ∷ ys) ≡ v) → (xs : List Claim) → claims_from s from ≡ just xs → v ≡ f xs
  left_found v a x e left n step xs d =
      let ys = left xs d in
      let zs = claim_step s i ys.0 a x e n ys.1 in
      sym (ys.2 ∙ ap g zs.2 ∙ step zs.0 zs.1)

  pub left_done : Left f g s from i → None ≡ claim_at (claim_next 2 s i) → (xs : List Claim) → claims_from s from ≡ just xs → g [] ≡ f xs
  left_done left n xs d = let ys = left xs d in sym (ys.2 ∙ ap g (claims_done s i ys.0 n ys.1))

  pub left_over : {C : Type 0} → Left f g s from i → length s ≤ i → (xs : List Claim) → claims_from s from ≡ just xs → C
  left_over left l xs d = let ys = left xs d in claims_over s i ys.0 l ys.1

pub left_start : {A : Type 0} (f : List Claim → A) (s : Bytes) (from : ℕ) → Left f f s from from
left_start f s from xs d = (xs, d, refl)
