-- The words of a request's line, by the places that its readers give.
use Prim.Native.Nat.{ℕ, ◌+◌, ◌-◌, ◌<◌}
use mathlib.Core.Path.{◌≡◌, refl, sym, ap, subst, ◌∙◌}
use mathlib.Core.List.{List, ◌∷◌}
use mathlib.Core.Bool.{Bool, true, false, not, ◌||◌}
use native.Mathlib.Omega.{arith}
use lib.ListN.{length, get_or, drop}
use lib.Seq.{drop-drop}
use lib.Dec.{ltb, eqb}
use borrow.Author.Tests.{eqb-true}
use Rattle.std.specs.Prelude.{Some, Option, None, option_map}
use Rattle.model.specs.Bytes.{Bytes, bytes_of, same}
use Rattle.model.specs.Choice.{pick}
use Rattle.model.specs.Names.{mem}
use Rattle.model.specs.Words.{between, is_letter, is_digit, is_word_byte, run}
use Rattle.model.specs.Items.{item_at}
use Rattle.model.specs.Forms.{never_names}
use Rattle.model.specs.Answers.{name_at}
use Rattle.model.specs.RequestPlaces.{words_from, no_identity}
use Rattle.model.specs.declared.Part.{Part}
use Rattle.text.specs.Places.{peek_at, past, is_space}
use Rattle.text.proofs.PlaceLaws.{peek_in, drop_peek}
use Rattle.items.specs.declared.ItemEnd.{ItemEnd}
use Rattle.items.specs.declared.ItemEnd.TheVariants.{Word, Number, Text, Quoted, List as ListTo}
use Rattle.items.specs.declared.Next.{Next}
use Rattle.items.specs.declared.Next.TheVariants.{Item, Close}
use Rattle.item_forms.specs.declared.ClaimParts.{ClaimParts}
use Rattle.items.specs.Reads.{next_at}
use Rattle.item_forms.specs.Pieces.{from_to, behind, item_place, after_end, word_piece, name_piece}
use Rattle.item_forms.specs.Pieces.{read_at, word_next, name_after, name_next, open_after, open_next}
use Rattle.item_forms.specs.Pieces.{close_after, close_next}
use Rattle.item_forms.specs.Forms.{form_opens, claim_node, claim_actor, claim_rest, claim_head, claim_after, claim_next, claim_to}
use Rattle.request.specs.Claims.{words_at, claim_of_places, claim_at}
use Rattle.request.proofs.WordLaws.{no_word, words_run, words_spaces, item_run, read_run}

-- the words from a place on, by what stands there
module _ (s : Bytes) where
  past_spaces : (i : ℕ) → words_at s i ≡ words_at s (past is_space s i)
  unfolding past
  past_spaces i = words_spaces i (drop i s) ∙ ap (words_from false (past is_space s i)) (drop-drop (length (run is_space (drop i s))) i s)

  past_mark : (p c : ℕ) → peek_at s p ≡ c → is_word_byte c ≡ false → c < 256 → words_at s p ≡ words_at s (p + 1)
  past_mark p c e f l = ap (words_from false p) (drop_peek s p (peek_in s p (omega (arith, e))))
      ∙ no_word false p (peek_at s p) (drop (p + 1) s) (ap is_word_byte e ∙ f)

  past_word : (d p q : ℕ) → read_at d s p ≡ Some (Word q) → words_at s p ≡ from_to p q ∷ words_at s (p + (q - p))
  past_word d p q e =
      let n = length (run is_word_byte (drop p s)) in
      let h = read_run (drop p s) p q (item_at d (drop p s)) (item_run d (drop p s)) e in
      let z : n ≡ q - p = omega (arith, h.0) in
      words_run p (drop p s) h.1
      ∙ ap (λ (t : Bytes). record { start = p; length = n } ∷ words_from false (p + n) t) (drop-drop n p s)
      ∙ ap (λ (m : ℕ). record { start = p; length = m } ∷ words_at s (p + m)) z

  -- what a reader gives, by the words behind it
  abbrev Onward : ℕ → Option (Next ℕ) → Type 0
  Onward i (Some (Item p)) = words_at s i ≡ words_at s p
  Onward i (Some (Close e)) = words_at s i ≡ words_at s e
  Onward i None = Unit {0}

  abbrev WordNext : ℕ → Option Part → Type 0
  WordNext i (Some w) = words_at s i ≡ w ∷ words_at s (behind w)
  WordNext i None = Unit {0}

  abbrev EndNext : ℕ → Option ℕ → Type 0
  EndNext i (Some e) = words_at s i ≡ words_at s e
  EndNext i None = Unit {0}

  next_onward : (free : Bool) (i : ℕ) → Onward i (next_at free s i)
  unfolding next_at is_word_byte is_letter is_digit between
  next_onward free i = go (eqb (peek_at s p) 41) refl (ltb i p) (free || eqb (peek_at s p) 40)
    where
      p : ℕ
      p = past is_space s i

      go : (x : Bool) → eqb (peek_at s p) 41 ≡ x → (y z : Bool) → Onward i (pick x (Some (Close (p + 1))) (pick y (Some (Item p)) (pick z (Some (Item p)) None)))
      go true e y z = past_spaces i ∙ past_mark p 41 (eqb-true (peek_at s p) 41 e) refl (omega arith)
      go false e true z = past_spaces i
      go false e false true = past_spaces i
      go false e false false = tt

  piece_next : (d i p : ℕ) → words_at s i ≡ words_at s p → (r : Option ItemEnd) → read_at d s p ≡ r → WordNext i (word_piece p r)
  unfolding word_piece after_end
  piece_next d i p h (Some (Word q)) e = h ∙ past_word d p q e
  piece_next d i p h (Some (Number z q)) e = tt
  piece_next d i p h (Some (Text q)) e = tt
  piece_next d i p h (Some (Quoted q)) e = tt
  piece_next d i p h (Some (ListTo q)) e = tt
  piece_next d i p h None e = tt

  word_next_law : (d : ℕ) (free : Bool) (i : ℕ) → WordNext i (word_next d free s i)
  unfolding word_next after_end
  word_next_law d free i = go (next_at free s i) (next_onward free i)
    where
      go : (n : Option (Next ℕ)) → Onward i n → WordNext i (after_end (item_place n) (λ p. word_piece p (read_at d s p)) None)
      go (Some (Item p)) h = piece_next d i p h (read_at d s p) refl
      go (Some (Close q)) h = tt
      go None h = tt

  name_next_law : (d : ℕ) (free : Bool) (i : ℕ) → WordNext i (item_place (name_next d free s i))
  unfolding name_next name_after name_piece
  name_next_law d free i = go (next_at free s i) (next_onward free i)
    where
      named : (w : Option Part) → WordNext i w → WordNext i (item_place (name_piece s w))
      named (Some w) h = by (not (mem (name_at s w) never_names))
        where
          by : (b : Bool) → WordNext i (item_place (pick b (Some (Item w)) None))
          by true = h
          by false = tt
      named None h = tt

      go : (n : Option (Next ℕ)) → Onward i n → WordNext i (item_place (name_after d s n))
      go (Some (Item p)) h = named (word_piece p (read_at d s p)) (piece_next d i p h (read_at d s p) refl)
      go (Some (Close q)) h = tt
      go None h = tt

  open_next_law : (i : ℕ) → Onward i (open_next s i)
  unfolding open_next open_after is_word_byte is_letter is_digit between
  open_next_law i = go (next_at true s i) (next_onward true i)
    where
      by : (p : ℕ) → words_at s i ≡ words_at s p → (b : Bool) → eqb (peek_at s p) 40 ≡ b → Onward i (pick b (Some (Item (p + 1))) None)
      by p h true e = h ∙ past_mark p 40 (eqb-true (peek_at s p) 40 e) refl (omega arith)
      by p h false e = tt

      go : (n : Option (Next ℕ)) → Onward i n → Onward i (open_after s n)
      go (Some (Item p)) h = by p h (eqb (peek_at s p) 40) refl
      go (Some (Close e)) h = h
      go None h = tt

  close_next_law : (i : ℕ) → EndNext i (close_next s i)
  unfolding close_next close_after
  close_next_law i = go (next_at true s i) (next_onward true i)
    where
      go : (n : Option (Next ℕ)) → Onward i n → EndNext i (close_after n)
      go (Some (Item p)) h = tt
      go (Some (Close e)) h = h
      go None h = tt

  form_next : EndNext 0 (form_opens s 0)
  unfolding form_opens is_word_byte is_letter is_digit between
  form_next = go (eqb (peek_at s p) 40) refl
    where
      p : ℕ
      p = past is_space s 0

      go : (b : Bool) → eqb (peek_at s p) 40 ≡ b → EndNext 0 (pick b (Some (p + 1)) None)
      go true e = past_spaces 0 ∙ past_mark p 40 (eqb-true (peek_at s p) 40 e) refl (omega arith)
      go false e = tt

  -- the words of an identity: id, its actor, its node
  abbrev ClaimedBy : List Part → Option (Next ClaimParts) → Type 0
  ClaimedBy words (Some (Item x)) = (get_or words 1 no_identity.actor ≡ x.actor) × (drop 3 words ≡ words_at s x.next)
  ClaimedBy words (Some (Close e)) = Unit {0}
  ClaimedBy words None = Unit {0}

  abbrev Claimed : ℕ → Option (Next ClaimParts) → Type 0
  Claimed i r = ClaimedBy (words_at s i) r

  module _ (d i : ℕ) (w : Part) (h : words_at s i ≡ w ∷ words_at s (behind w)) where
    claim_shut : (a x : Part) → words_at s (behind w) ≡ a ∷ x ∷ words_at s (behind x) → (o : Option ℕ) → EndNext (behind x) o
        → Claimed i (option_map Item (after_end o (λ e. Some (claim_to a x e)) None))
    unfolding after_end
    claim_shut a x k (Some e) l =
        let m : words_at s i ≡ w ∷ a ∷ x ∷ words_at s e = h ∙ ap (λ (t : List Part). w ∷ t) k ∙ ap (λ (t : List Part). w ∷ a ∷ x ∷ t) l in
        (ap (λ (t : List Part). get_or t 1 no_identity.actor) m, ap (drop 3) m)
    claim_shut a x k None l = tt

    claim_node_law : (a : Part) → words_at s (behind w) ≡ a ∷ words_at s (behind a) → (r : Option Part) → WordNext (behind a) r → Claimed i (option_map Item (claim_node s a r))
    unfolding claim_node
    claim_node_law a k (Some x) l = claim_shut a x (k ∙ ap (λ (t : List Part). a ∷ t) l) (close_next s (behind x)) (close_next_law (behind x))
    claim_node_law a k None l = tt

    claim_actor_law : (r : Option Part) → WordNext (behind w) r → Claimed i (option_map Item (claim_actor d s r))
    unfolding claim_actor
    claim_actor_law (Some a) k = claim_node_law a k (item_place (name_next d false s (behind a))) (name_next_law d false (behind a))
    claim_actor_law None k = tt

  claim_head_law : (d i : ℕ) (w : Option Part) → WordNext i w → Claimed i (claim_head d s w)
  unfolding claim_head claim_rest
  claim_head_law d i (Some w) h = go (same (name_at s w) (bytes_of "id"))
    where
      go : (b : Bool) → Claimed i (pick b (option_map Item (claim_rest d s (behind w))) None)
      go true = claim_actor_law d i w h (item_place (name_next d false s (behind w))) (name_next_law d false (behind w))
      go false = tt
  claim_head_law d i None h = tt

  claim_next_law : (d i : ℕ) → Claimed i (claim_next d s i)
  unfolding claim_next claim_after
  claim_next_law d i = go (open_next s i) (open_next_law i)
    where
      go : (n : Option (Next ℕ)) → Onward i n → Claimed i (claim_after d s n)
      go (Some (Item p)) h = subst (λ (t : List Part). ClaimedBy t (claim_head d s (word_next d true s p))) (sym h)
          (claim_head_law d p (word_next d true s p) (word_next_law d true p))
      go (Some (Close e)) h = tt
      go None h = tt

  -- where the words of an identity that was read stand
  pub claim_words : (i : ℕ) (a x : Part) (e : ℕ) → Some (claim_of_places a x e) ≡ claim_at (claim_next 2 s i)
      → (get_or (words_at s i) 1 no_identity.actor ≡ a) × (drop 3 (words_at s i) ≡ words_at s e)
  claim_words i a x e n = go (claim_next 2 s i) (claim_next_law 2 i) n
    where
      go : (r : Option (Next ClaimParts)) → Claimed i r → Some (claim_of_places a x e) ≡ claim_at r
          → (get_or (words_at s i) 1 no_identity.actor ≡ a) × (drop 3 (words_at s i) ≡ words_at s e)
      go (Some (Item y)) h n =
          let same_claim : y ≡ claim_of_places a x e = cc in
          let ea : y.actor ≡ a = ap (λ (v : ClaimParts). v.actor) same_claim in
          let ee : y.next ≡ e = ap (λ (v : ClaimParts). v.next) same_claim in
          (h.0 ∙ ea, h.1 ∙ ap (words_at s) ee)
      go (Some (Close e')) h n = let z : ◌≡◌ {A = ℕ} 0 1 = cc in absurd (omega arith)
      go None h n = let z : ◌≡◌ {A = ℕ} 0 1 = cc in absurd (omega arith)

  -- the first two words of a line: request, and the category's name
  pub form_words : (i : ℕ) (a c : Part) → Some i ≡ form_opens s 0 → Some a ≡ word_next 3 true s i → Some c ≡ item_place (name_next 3 false s (behind a))
      → drop 2 (words_from false 0 s) ≡ words_at s (behind c)
  form_words i a c o w n =
      let h : words_at s 0 ≡ words_at s i = subst (EndNext 0) (sym o) form_next in
      let k : words_at s i ≡ a ∷ words_at s (behind a) = subst (WordNext i) (sym w) (word_next_law 3 true i) in
      let l : words_at s (behind a) ≡ c ∷ words_at s (behind c) = subst (WordNext (behind a)) (sym n) (name_next_law 3 false (behind a)) in
      ap (drop 2) (h ∙ k ∙ ap (λ (t : List Part). a ∷ t) l)
