-- Laws of the lists of a known form: entries and identities.
use Prim.Native.Nat.{ℕ}
use mathlib.Core.Path.{◌≡◌, refl, ap, ◌∙◌}
use mathlib.Core.List.{List as ListOf, [], ◌∷◌}
use mathlib.Core.Bool.{Bool, true, false}
use Rattle.std.specs.Prelude.{Option, Some, None, option_map}
use Rattle.model.specs.Bytes.{Bytes, bytes_of, same}
use Rattle.model.specs.Choice.{pick, Maybe, nothing, just, and_then}
use Rattle.model.specs.Lists.{each}
use Rattle.model.specs.Items.{Item}
use Rattle.model.specs.Values.{Entry}
use Rattle.model.specs.Request.{Claim, claim_of}
use Rattle.model.specs.Forms.{as_word, as_name, as_value, first, at_end, entry_of}
use Rattle.model.specs.Answers.{name_at, value_of}
use Rattle.model.specs.declared.Part.{Part}
use Rattle.model.specs.declared.Value.{Value as ValueData}
use Rattle.items.specs.declared.Next.{Next}
use Rattle.items.specs.declared.Next.TheVariants.{Item as ItemAt, Close}
use Rattle.item_forms.specs.declared.Form.{Form}
use Rattle.items.specs.Rest.{rest_at, on_next}
use Rattle.item_forms.specs.Ends.{form_ends, form_at}
use Rattle.item_forms.specs.Pieces.{behind, word_next, name_next, value_next, open_next, close_next, on_piece, on_name, on_value, on_place, after_end, item_place}
use Rattle.item_forms.specs.Forms.{entry_to, claim_to, claim_node, claim_actor, claim_rest, claim_head, claim_after, claim_next, on_claim, entry_valued, entry_named, entry_after}
use Rattle.item_forms.specs.Forms.{entry_next, on_entry}
use Rattle.items.proofs.RestLaws.{rest_same, rest_nothing}
use Rattle.item_forms.proofs.FormLaws.{form_lists}
use Rattle.item_forms.proofs.PieceLaws.{first_word_law, first_name, first_value, end_next}

-- (ATTR VALUE)...
pub entry_items : ListOf Item → Maybe Entry
entry_items is = first as_name is (λ n is. first as_value is (λ v is. at_end is (record { attr = n; value = v })))

pub first_then : {A B C : Type 0} (reading : Item → Maybe A) (is : ListOf Item) (k : A → ListOf Item → Maybe B) (c : B → Maybe C)
    → and_then (first reading is k) c ≡ first reading is (λ a is. and_then (k a is) c)
unfolding first and_then
first_then reading [] k c = refl
first_then reading (i ∷ is) k c = go (reading i)
  where
    go : (o : Maybe _) → and_then (and_then o (λ a. k a is)) c ≡ and_then o (λ a. and_then (k a is) c)
    go nothing = refl
    go (just a) = refl

module _ {B : Type 0} (s : Bytes) where
  entry_shut : (d : ℕ) (a : Part) (r : Option (ValueData × ℕ)) (k : Entry → ℕ → Maybe B) (g : ℕ → Maybe B)
      → on_value s r (λ v q. rest_at d false q s (λ e is. and_then (at_end is (record { attr = name_at s a; value = v })) (λ x. k x e)))
      ≡ on_entry s (entry_valued s a r) k g
  unfolding on_value entry_valued on_entry on_place after_end
  entry_shut d a None k g = refl
  entry_shut d a (Some (v, q)) k g =
      end_next d false s q (record { attr = name_at s a; value = value_of s v }) (λ e x. k x e) ∙ go (close_next s q)
    where
      go : (r : Option ℕ) → on_place r (λ e. k (record { attr = name_at s a; value = value_of s v }) e)
          ≡ on_entry s (after_end r (λ e. Some (ItemAt (entry_to a v e))) None) k g
      go (Some e) = refl
      go None = refl

  entry_named_law : (d : ℕ) (n : Option (Next Part)) (k : Entry → ℕ → Maybe B) (g : ℕ → Maybe B)
      → on_name s n (λ w q. rest_at d false q s (λ e is. first as_value is (λ v is. and_then (at_end is (record { attr = w; value = v })) (λ x. k x e))))
      (λ e. nothing) ≡ on_entry s (entry_named d s (item_place n)) k g
  unfolding on_name entry_named on_entry
  entry_named_law d (Some (Close e)) k g = refl
  entry_named_law d None k g = refl
  entry_named_law d (Some (ItemAt a)) k g =
      first_value d false s (behind a) (λ e v is. and_then (at_end is (record { attr = name_at s a; value = v })) (λ x. k x e))
      ∙ entry_shut d a (value_next d false s (behind a)) k g

  -- the items of an entry, and what is made of it and of the place behind
  pub entry_items_law : (d : ℕ) (p : ℕ) (k : Entry → ℕ → Maybe B) (g : ℕ → Maybe B)
      → rest_at d true p s (λ e is. and_then (entry_items is) (λ x. k x e)) ≡ on_entry s (entry_named d s (item_place (name_next d true s p))) k g
  unfolding entry_items
  entry_items_law d p k g =
      rest_same d true p s _ _ (λ e is.
      first_then as_name is (λ n is. first as_value is (λ v is. at_end is (record { attr = n; value = v }))) (λ x. k x e)
      ∙ (λ t. first as_name is (λ n is. first_then as_value is (λ v is. at_end is (record { attr = n; value = v })) (λ x. k x e) t)))
      ∙ first_name d true s p (λ e n is. first as_value is (λ v is. and_then (at_end is (record { attr = n; value = v })) (λ x. k x e)))
      ∙ entry_named_law d (name_next d true s p) k g

  after_entry : (d : ℕ) (n : Option (Next ℕ)) (k : Entry → ℕ → Maybe B) (g : ℕ → Maybe B)
      → on_next n (λ p. on_entry s (entry_named d s (item_place (name_next d true s p))) k g) g ≡ on_entry s (entry_after d s n) k g
  unfolding on_next entry_after on_entry
  after_entry d (Some (ItemAt p)) k g = refl
  after_entry d (Some (Close e)) k g = refl
  after_entry d None k g = refl

  -- a form that is asked for entries goes on behind each, to its closing bracket
  pub form_entries : (form : Form) (free : Bool) (i : ℕ) (k : ListOf Entry → Maybe B)
      → form_at form free i s (λ is. and_then (each entry_of is) k)
      ≡ on_entry s (entry_next form.inner s i) (λ x q. form_at form true q s (λ is. and_then (each entry_of is) (λ l. k (x ∷ l))))
      (λ e. pick (form_ends form s e) (k []) nothing)
  unfolding entry_of entry_next entry_items
  form_entries form free i k =
      form_lists form free i s entry_items k
      ∙ (λ t. on_next (open_next s i) (λ p. entry_items_law form.inner p (λ x q. form_at form true q s (λ is. and_then (each entry_of is) (λ l. k (x ∷ l))))
      (λ e. pick (form_ends form s e) (k []) nothing) t) (λ e. pick (form_ends form s e) (k []) nothing))
      ∙ after_entry form.inner (open_next s i) (λ x q. form_at form true q s (λ is. and_then (each entry_of is) (λ l. k (x ∷ l))))
      (λ e. pick (form_ends form s e) (k []) nothing)

-- (id ACTOR NODE)...
claim_items : ListOf Item → Maybe Claim
claim_items is = first as_word is (λ w is. first as_name is
    (λ a is. first as_name is (λ n is. pick (same w (bytes_of "id")) (at_end is (record { actor = a; node = n })) nothing)))

first_nothing : {A B : Type 0} (reading : Item → Maybe A) (is : ListOf Item) → first {B = B} reading is (λ a is. nothing) ≡ nothing
unfolding first and_then
first_nothing reading [] = refl
first_nothing {A} {B} reading (i ∷ is) = go (reading i)
  where
    go : (o : Maybe A) → and_then {B = B} o (λ a. nothing) ≡ nothing
    go nothing = refl
    go (just a) = refl

module _ {B : Type 0} (d : ℕ) (s : Bytes) (k : Claim → ℕ → Maybe B) (g : ℕ → Maybe B) where
  claim_node_law : (a : Part) (n : Option (Next Part))
      → on_name s n (λ w q. rest_at d false q s (λ e is. and_then (at_end is (record { actor = name_at s a; node = w })) (λ x. k x e))) (λ e. nothing)
      ≡ on_claim s (option_map ItemAt (claim_node s a (item_place n))) k g
  unfolding on_name claim_node on_claim on_place after_end
  claim_node_law a (Some (Close e)) = refl
  claim_node_law a None = refl
  claim_node_law a (Some (ItemAt x)) =
      end_next d false s (behind x) (record { actor = name_at s a; node = name_at s x }) (λ e x. k x e) ∙ go (close_next s (behind x))
    where
      go : (r : Option ℕ) → on_place r (λ e. k (record { actor = name_at s a; node = name_at s x }) e)
          ≡ on_claim s (option_map ItemAt (after_end r (λ e. Some (claim_to a x e)) None)) k g
      go (Some e) = refl
      go None = refl

  claim_actor_law : (n : Option (Next Part))
      → on_name s n (λ w q. rest_at d false q s (λ e is. first as_name is (λ m is. and_then (at_end is (record { actor = w; node = m })) (λ x. k x e))))
      (λ e. nothing) ≡ on_claim s (option_map ItemAt (claim_actor d s (item_place n))) k g
  unfolding on_name claim_actor on_claim
  claim_actor_law (Some (Close e)) = refl
  claim_actor_law None = refl
  claim_actor_law (Some (ItemAt a)) =
      first_name d false s (behind a) (λ e m is. and_then (at_end is (record { actor = name_at s a; node = m })) (λ x. k x e))
      ∙ claim_node_law a (name_next d false s (behind a))

  pub claim_rest_law : (i : ℕ) → rest_at d false i s
      (λ e is. first as_name is (λ a is. first as_name is (λ n is. and_then (at_end is (record { actor = a; node = n })) (λ x. k x e))))
      ≡ on_claim s (option_map ItemAt (claim_rest d s i)) k g
  unfolding claim_rest
  claim_rest_law i = first_name d false s i (λ e a is. first as_name is (λ n is. and_then (at_end is (record { actor = a; node = n })) (λ x. k x e)))
      ∙ claim_actor_law (name_next d false s i)

  claim_head_law : (w : Option Part)
      → on_piece w (λ h. rest_at d false (behind h) s (λ e is. first as_name is
      (λ a is. first as_name is (λ n is. and_then (pick (same (name_at s h) (bytes_of "id")) (at_end is (record { actor = a; node = n })) nothing)
      (λ x. k x e)))))
      ≡ on_claim s (claim_head d s w) k g
  unfolding on_piece claim_head on_claim and_then
  claim_head_law None = refl
  claim_head_law (Some h) = go (same (name_at s h) (bytes_of "id"))
    where
      go : (x : Bool) → rest_at d false (behind h) s (λ e is. first as_name is
          (λ a is. first as_name is (λ n is. and_then (pick x (at_end is (record { actor = a; node = n })) nothing) (λ x. k x e))))
          ≡ on_claim s (pick x (option_map ItemAt (claim_rest d s (behind h))) None) k g
      go true = claim_rest_law (behind h)
      go false =
          rest_same d false (behind h) s _ _ (λ e is. (λ t. first as_name is (λ a is. first_nothing as_name is t)) ∙ first_nothing as_name is)
          ∙ rest_nothing d false (behind h) s

  claim_items_law : (p : ℕ) → rest_at d true p s (λ e is. and_then (claim_items is) (λ x. k x e)) ≡ on_claim s (claim_head d s (word_next d true s p)) k g
  unfolding claim_items
  claim_items_law p =
      rest_same d true p s _ _ (λ e is.
      first_then as_word is (λ w is. first as_name is (λ a is. first as_name is (λ n is. named w a n is))) (λ x. k x e)
      ∙ (λ t. first as_word is (λ w is. first_then as_name is (λ a is. first as_name is (λ n is. named w a n is)) (λ x. k x e) t))
      ∙ (λ t. first as_word is (λ w is. first as_name is (λ a is. first_then as_name is (λ n is. named w a n is) (λ x. k x e) t))))
      ∙ first_word_law d true s p (λ e w is. first as_name is (λ a is. first as_name is (λ n is. and_then (named w a n is) (λ x. k x e))))
      ∙ claim_head_law (word_next d true s p)
    where
      named : Bytes → Bytes → Bytes → ListOf Item → Maybe Claim
      named w a n is = pick (same w (bytes_of "id")) (at_end is (record { actor = a; node = n })) nothing

  after_claim : (n : Option (Next ℕ)) → on_next n (λ p. on_claim s (claim_head d s (word_next d true s p)) k g) g ≡ on_claim s (claim_after d s n) k g
  unfolding on_next claim_after on_claim
  after_claim (Some (ItemAt p)) = refl
  after_claim (Some (Close e)) = refl
  after_claim None = refl

-- a form that is asked for identities goes on behind each, to its closing bracket
pub form_claims : {B : Type 0} (s : Bytes) (form : Form) (free : Bool) (i : ℕ) (k : ListOf Claim → Maybe B)
    → form_at form free i s (λ is. and_then (each claim_of is) k)
    ≡ on_claim s (claim_next form.inner s i) (λ x q. form_at form true q s (λ is. and_then (each claim_of is) (λ l. k (x ∷ l))))
    (λ e. pick (form_ends form s e) (k []) nothing)
unfolding claim_of claim_next claim_items
form_claims s form free i k =
    form_lists form free i s claim_items k
    ∙ (λ t. on_next (open_next s i) (λ p. claim_items_law form.inner s (λ x q. form_at form true q s (λ is. and_then (each claim_of is) (λ l. k (x ∷ l))))
    (λ e. pick (form_ends form s e) (k []) nothing) p t) (λ e. pick (form_ends form s e) (k []) nothing))
    ∙ after_claim form.inner s (λ x q. form_at form true q s (λ is. and_then (each claim_of is) (λ l. k (x ∷ l))))
    (λ e. pick (form_ends form s e) (k []) nothing) (open_next s i)

-- what the tests of `entry` say
module _ (d : ℕ) (s : Bytes) (i p : ℕ) (e : Some (ItemAt p) ≡ open_next s i) where
  pub at_entry : (w : Option Part) → w ≡ item_place (name_next d true s p) → entry_named d s w ≡ entry_next d s i
  unfolding entry_next entry_after
  at_entry w h = ap (entry_named d s) h ∙ ap (entry_after d s) e

  module _ (a : Part) (n : Some a ≡ item_place (name_next d true s p)) where
    pub entry_value_law : (r : Option (ValueData × ℕ)) → r ≡ value_next d false s (behind a) → entry_valued s a r ≡ entry_next d s i
    unfolding entry_named
    entry_value_law r h = ap (entry_valued s a) h ∙ at_entry (Some a) n

    pub entry_close : (v : ValueData) (q : ℕ) → Some (v, q) ≡ value_next d false s (behind a) → (x : Option ℕ) → x ≡ close_next s q
        → after_end x (λ e. Some (ItemAt (entry_to a v e))) None ≡ entry_next d s i
    unfolding entry_valued
    entry_close v q h x k = ap (λ (x : Option ℕ). after_end x (λ e. Some (ItemAt (entry_to a v e))) None) k ∙ entry_value_law (Some (v, q)) h

-- what the tests of `claim` and `claim_rest` say
module _ (d : ℕ) (s : Bytes) (i : ℕ) (a : Part) (n : Some a ≡ item_place (name_next d false s i)) where
  pub at_node : (w : Option Part) → w ≡ item_place (name_next d false s (behind a)) → claim_node s a w ≡ claim_rest d s i
  unfolding claim_rest claim_actor
  at_node w h = ap (claim_node s a) h ∙ ap (claim_actor d s) n

  pub at_shut : (x : Part) → Some x ≡ item_place (name_next d false s (behind a)) → (r : Option ℕ) → r ≡ close_next s (behind x)
      → after_end r (λ e. Some (claim_to a x e)) None ≡ claim_rest d s i
  unfolding claim_node
  at_shut x h r k = ap (λ (r : Option ℕ). after_end r (λ e. Some (claim_to a x e)) None) k ∙ at_node (Some x) h

pub at_claim : (d : ℕ) (s : Bytes) (i p : ℕ) → Some (ItemAt p) ≡ open_next s i → (w : Option Part) → w ≡ word_next d true s p → claim_head d s w ≡ claim_next d s i
unfolding claim_next claim_after
at_claim d s i p e w h = ap (claim_head d s) h ∙ ap (claim_after d s) e

pub claim_yes : (d : ℕ) (s : Bytes) (w : Part) → same (name_at s w) (bytes_of "id") ≡ true → option_map ItemAt (claim_rest d s (behind w)) ≡ claim_head d s (Some w)
unfolding claim_head
claim_yes d s w h = rw h

pub claim_no : (d : ℕ) (s : Bytes) (w : Part) → same (name_at s w) (bytes_of "id") ≡ false → None ≡ claim_head d s (Some w)
unfolding claim_head
claim_no d s w h = rw h
