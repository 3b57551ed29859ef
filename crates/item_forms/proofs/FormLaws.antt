-- Laws of forms, piece by piece; and of the one list of a line, which is a form.
use Prim.Native.Nat.{ℕ, zero, suc, ◌+◌, ◌-◌, ◌≤◌, ◌<◌}
use mathlib.Core.Path.{◌≡◌, refl, sym, ap, ◌∙◌}
use mathlib.Core.List.{List as ListOf, [], ◌∷◌}
use mathlib.Core.Bool.{Bool, true, false}
use native.Mathlib.Omega.{arith}
use lib.ListN.{length, drop, length-drop}
use lib.Seq.{drop-drop}
use lib.Dec.{leb, eqb}
use borrow.Author.Tests.{le-leb, lt-leb, eq-eqb, ne_eqb, eqb-true, eqb-false}
use Rattle.std.specs.Prelude.{Option, Some, None}
use Rattle.model.specs.Bytes.{Bytes}
use Rattle.model.specs.Choice.{pick, Maybe, nothing, just, and_then}
use Rattle.model.specs.Lists.{all, each}
use Rattle.model.specs.Words.{Got, run}
use Rattle.model.specs.Items.{Item, Items, plain_at, as_list, list_at, item_at, item_list, items_of, line_items}
use Rattle.model.specs.Forms.{as_word, as_quoted, as_name, first, at_end}
use Rattle.model.specs.Answers.{name_at}
use Rattle.text.specs.Places.{peek_at, past, is_space}
use Rattle.model.specs.declared.Part.{Part}
use Rattle.items.specs.declared.Next.{Next}
use Rattle.item_forms.specs.declared.Form.{Form}
use Rattle.items.specs.Rest.{rest_at, on_next}
use Rattle.item_forms.specs.Ends.{spaces_from, ends_after, form_depth, form_ends, form_at, line_at}
use Rattle.item_forms.specs.Pieces.{behind, word_next, quoted_next, name_next, open_next, close_next, after_end, on_piece, on_name, on_place}
use Rattle.item_forms.specs.Forms.{form_opens, form_closes}
use Rattle.items.proofs.SizeLaws.{kind_or, plain_kind}
use Rattle.items.proofs.RestLaws.{rest_same}
use Rattle.items.proofs.ReadLaws.{item_plain, item_opened}
use Rattle.item_forms.proofs.ItemLaws.{no_items}
use Rattle.item_forms.proofs.PieceTests.{word_depth, name_depth}
use Rattle.item_forms.proofs.PieceLaws.{first_word_law, first_quoted, first_name, first_list, each_list, end_next}

pub pick_none : {B : Type 0} (x : Bool) → pick {A = Maybe B} x nothing nothing ≡ nothing
pick_none true = refl
pick_none false = refl

spaces_first : (s : Bytes) → length (run (λ b. eqb b 32) s) ≡ past is_space s 0
unfolding past is_space
spaces_first s = omega arith

-- where the one list of a line opens
module _ {B : Type 0} (f : ListOf Item → Maybe B) (s : Bytes) where
  -- what a line makes of its one item at a place
  line_of : ℕ → Maybe (Got Item) → Maybe B
  line_of p o = and_then (and_then o (λ g. pick (all (λ b. eqb b 32) (drop g.size (drop p s))) (items_of g.got) nothing)) f

  line_other : (p : ℕ) (o : Maybe (Got Item)) → kind_or false o ≡ false → line_of p o ≡ nothing
  unfolding kind_or and_then line_of
  line_other p nothing h = refl
  line_other p (just g) h = rw (no_items g.got h, pick_none (all (λ b. eqb b 32) (drop g.size (drop p s))))

  line_list : (p : ℕ) (o : Maybe (Got Items)) → line_of p (as_list o) ≡ and_then o (λ g. pick (spaces_from s (p + 1 + g.size)) (f (item_list g.got)) nothing)
  unfolding line_of and_then as_list spaces_from items_of is_space
  line_list p nothing = refl
  line_list p (just g) =
      let e : p + (g.size + 1) ≡ p + 1 + g.size = omega arith in
      rw (drop-drop (g.size + 1) p s, e) (go (all (λ b. eqb b 32) (drop (p + 1 + g.size) s)))
    where
      go : (x : Bool) → and_then (pick x (just (item_list g.got)) nothing) f ≡ pick x (f (item_list g.got)) nothing
      go true = refl
      go false = refl

  pub line_form_law : and_then (line_items s) f ≡ on_place (form_opens s 0) (λ i. line_at true i s f)
  unfolding line_items line_of form_opens on_place form_at ends_after rest_at
  line_form_law = rw (spaces_first s) (go (eqb (peek_at s p) 40) refl)
    where
      p : ℕ
      p = past is_space s 0

      go : (x : Bool) → eqb (peek_at s p) 40 ≡ x → line_of p (item_at 4 (drop p s)) ≡ on_place (pick x (Some (p + 1)) None) (λ i. line_at true i s f)
      go true h = rw (item_opened 4 3 s p refl (eqb-true (peek_at s p) 40 h)) (line_list p (list_at (item_at 3) true 0 (drop (p + 1) s)))
      go false h = rw (← item_plain 4 s p (eqb-false (peek_at s p) 40 h)) (line_other p (plain_at (drop p s)) (plain_kind (drop p s)))

-- a form that is asked for a piece goes on behind it
first_pick : {A B : Type 0} (reading : Item → Maybe A) (x : Bool) (is : ListOf Item) (k : A → ListOf Item → Maybe B)
    → pick x (first reading is k) nothing ≡ first reading is (λ a is. pick x (k a is) nothing)
unfolding first and_then
first_pick reading x [] k = pick_none x
first_pick reading x (i ∷ is) k = go x (reading i)
  where
    go : (x : Bool) (o : Maybe _) → pick x (and_then o (λ a. k a is)) nothing ≡ and_then o (λ a. pick x (k a is) nothing)
    go true o = refl
    go false nothing = refl
    go false (just a) = refl

then_pick : {A B : Type 0} (x : Bool) (o : Maybe A) (k : A → Maybe B) → pick x (and_then o k) nothing ≡ and_then o (λ a. pick x (k a) nothing)
unfolding and_then
then_pick true o k = refl
then_pick false nothing k = refl
then_pick false (just a) k = refl

picked : {B : Type 0} (x : Bool) (o : Maybe B) → pick x o nothing ≡ and_then o (λ a. pick x (just a) nothing)
unfolding and_then
picked true nothing = refl
picked true (just a) = refl
picked false nothing = refl
picked false (just a) = refl

module _ {A B : Type 0} (form : Form) (free : Bool) (i : ℕ) (s : Bytes) where
  form_first : (reading : Item → Maybe A) (k : A → ListOf Item → Maybe B)
      → form_at form free i s (λ is. first reading is k)
      ≡ rest_at (form_depth form) free i s (λ e is. first reading is (λ a is. pick (form_ends form s e) (k a is) nothing))
  unfolding form_at
  form_first reading k = rest_same (form_depth form) free i s _ _ (λ e is. first_pick reading (form_ends form s e) is k)

  form_each : (reading : Item → Maybe A) (k : ListOf A → Maybe B)
      → form_at form free i s (λ is. and_then (each reading is) k)
      ≡ rest_at (form_depth form) free i s (λ e is. and_then (each reading is) (λ l. pick (form_ends form s e) (k l) nothing))
  unfolding form_at
  form_each reading k = rest_same (form_depth form) free i s _ _ (λ e is. then_pick (form_ends form s e) (each reading is) k)

module _ {B : Type 0} (form : Form) (free : Bool) (i : ℕ) (s : Bytes) where
  -- a word and a name are read alike at every depth d
  pub form_word : (d : ℕ) (k : Bytes → ListOf Item → Maybe B)
      → form_at form free i s (λ is. first as_word is k) ≡ on_piece (word_next d free s i) (λ w. form_at form false (behind w) s (k (name_at s w)))
  unfolding form_at
  form_word d k =
      form_first form free i s as_word k
      ∙ first_word_law (form_depth form) free s i (λ e w is. pick (form_ends form s e) (k w is) nothing)
      ∙ ap (λ (r : Option Part). on_piece r (λ w. form_at form false (behind w) s (k (name_at s w)))) (word_depth (form_depth form) d free s i)

  pub form_quoted : (k : Bytes → ListOf Item → Maybe B)
      → form_at form free i s (λ is. first as_quoted is k)
      ≡ on_piece (quoted_next (form_depth form) free s i) (λ w. form_at form false (behind w + 1) s (k (name_at s w)))
  unfolding form_at
  form_quoted k = form_first form free i s as_quoted k ∙ first_quoted (form_depth form) free s i (λ e w is. pick (form_ends form s e) (k w is) nothing)

  pub form_name : (d : ℕ) (k : Bytes → ListOf Item → Maybe B)
      → form_at form free i s (λ is. first as_name is k) ≡ on_name s (name_next d free s i) (λ n q. form_at form false q s (k n)) (λ e. nothing)
  unfolding form_at
  form_name d k =
      form_first form free i s as_name k
      ∙ first_name (form_depth form) free s i (λ e n is. pick (form_ends form s e) (k n is) nothing)
      ∙ ap (λ (r : Option (Next Part)). on_name s r (λ n q. form_at form false q s (k n)) (λ e. nothing)) (name_depth (form_depth form) d free s i)

  pub form_list : {A : Type 0} (h : ListOf Item → Maybe A) (k : A → ListOf Item → Maybe B)
      → form_at form free i s (λ is. first (λ x. and_then (items_of x) h) is k)
      ≡ on_next (open_next s i) (λ p. rest_at form.inner true p s (λ q is. and_then (h is) (λ a. form_at form true q s (k a)))) (λ e. nothing)
  unfolding form_at
  form_list h k = form_first form free i s (λ x. and_then (items_of x) h) k
      ∙ first_list h form.inner free s i (λ e a is. pick (form_ends form s e) (k a is) nothing)

  pub form_lists : {A : Type 0} (h : ListOf Item → Maybe A) (k : ListOf A → Maybe B)
      → form_at form free i s (λ is. and_then (each (λ x. and_then (items_of x) h) is) k)
      ≡ on_next (open_next s i) (λ p. rest_at form.inner true p s
      (λ q is. and_then (h is) (λ a. form_at form true q s (λ is. and_then (each (λ x. and_then (items_of x) h) is) (λ l. k (a ∷ l))))))
      (λ e. pick (form_ends form s e) (k []) nothing)
  unfolding form_at
  form_lists h k =
      form_each form free i s (λ x. and_then (items_of x) h) k ∙ each_list h form.inner free s i (λ e l. pick (form_ends form s e) (k l) nothing)
      ∙ (λ t. on_next (open_next s i) (λ p. rest_at form.inner true p s
      (λ q is. and_then (h is) (λ a. sym (form_each form true q s (λ x. and_then (items_of x) h) (λ l. k (a ∷ l))) t)))
      (λ e. pick (form_ends form s e) (k []) nothing))

  pub form_end : (a : B) → form_at form free i s (λ is. at_end is a) ≡ pick (form_closes form.closes s i) (just a) nothing
  unfolding form_at ends_after on_place after_end and_then
  form_end a =
      rest_same (form_depth form) free i s _ _ (λ e is. picked (form_ends form s e) (at_end is a))
      ∙ end_next (form_depth form) free s i a (λ e a. pick (form_ends form s e) (just a) nothing) ∙ shut (close_next s i)
    where
      shut : (r : Option ℕ) → on_place r (λ e. pick (form_ends form s e) (just a) nothing)
          ≡ pick (after_end r (λ e. form_ends form s e) false) (just a) nothing
      shut (Some e) = refl
      shut None = refl

-- a form at the end of another one is a form, in one list more
pub form_inside : {B : Type 0} (d closes : ℕ) (free : Bool) (i : ℕ) (s : Bytes) (h : ListOf Item → Maybe B)
    → form_at (record { inner = suc d; closes = closes }) free i s (λ is. first (λ x. and_then (items_of x) h) is (λ a is. at_end is a))
    ≡ on_next (open_next s i) (λ p. form_at (record { inner = d; closes = suc closes }) true p s h) (λ e. nothing)
unfolding form_at
form_inside d closes free i s h =
    let form : Form = record { inner = suc d; closes = closes } in
    form_list form free i s h (λ a is. at_end is a)
    ∙ (λ t. on_next (open_next s i) (λ p. rest_at (suc d) true p s (λ q is. and_then (h is) (λ a. form_end form true q s a t))) (λ e. nothing))
    ∙ (λ t. on_next (open_next s i) (λ p. rest_at (suc d) true p s (λ q is. sym (picked (ends_after (suc closes) s q) (h is)) t)) (λ e. nothing))

-- nothing but spaces
all_run : (p : ℕ → Bool) (t : Bytes) → all p t ≡ true → length t ≤ length (run p t)
unfolding all run
all_run p [] h = omega arith
all_run p (b ∷ t) h = go (p b) h (all_run p t)
  where
    go : (x : Bool) → pick x (all p t) false ≡ true → (all p t ≡ true → length t ≤ length (run p t)) → suc (length t) ≤ length (pick x (b ∷ run p t) [])
    go true h r = omega (arith, r h)
    go false h r = let z : ◌≡◌ {A = ℕ} 0 1 = cc in absurd (omega arith)

not_all_run : (p : ℕ → Bool) (t : Bytes) → all p t ≡ false → length (run p t) < length t
unfolding all run
not_all_run p [] h = let z : ◌≡◌ {A = ℕ} 0 1 = cc in absurd (omega arith)
not_all_run p (b ∷ t) h = go (p b) h (not_all_run p t)
  where
    go : (x : Bool) → pick x (all p t) false ≡ false → (all p t ≡ false → length (run p t) < length t) → length (pick x (b ∷ run p t) []) < suc (length t)
    go true h r = omega (arith, r h)
    go false h r = omega arith

pub spaces_from_law : (s : Bytes) (i : ℕ) → leb (length s) (past is_space s i) ≡ spaces_from s i
unfolding spaces_from past
spaces_from_law s i = go (all is_space (drop i s)) refl
  where
    go : (x : Bool) → all is_space (drop i s) ≡ x → leb (length s) (i + length (run is_space (drop i s))) ≡ x
    go true h = le-leb (length s) (i + length (run is_space (drop i s))) (omega (arith, all_run is_space (drop i s) h, length-drop i s))
    go false h = lt-leb (length s) (i + length (run is_space (drop i s))) (omega (arith, not_all_run is_space (drop i s) h, length-drop i s))

-- what the tests of `form_ends` say
module _ (s : Bytes) (i : ℕ) where
  pub ends_on : (k : ℕ) (r : Option ℕ) → 0 < k → r ≡ close_next s i → after_end r (λ e. ends_after (k - 1) s e) false ≡ ends_after k s i
  unfolding ends_after
  ends_on zero r l h = absurd (omega arith)
  ends_on (suc k) r l h = let e : suc k - 1 ≡ k = omega arith in rw e (ap (λ (r : Option ℕ). after_end r (λ e. ends_after k s e) false) h)

-- what the tests of `open_form` say
module _ (s : Bytes) (i p : ℕ) (e : p ≡ past is_space s i) where
  pub form_opens_law : peek_at s p ≡ 40 → Some (p + 1) ≡ form_opens s i
  unfolding form_opens
  form_opens_law h = rw (← e, eq-eqb (peek_at s p) 40 h)

  pub form_shut : (peek_at s p ≡ 40 → ⊥) → None ≡ form_opens s i
  unfolding form_opens
  form_shut h = rw (← e, ne_eqb (peek_at s p) 40 h)
