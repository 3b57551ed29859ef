-- Laws of the next piece: a list that is asked for a piece goes on behind it, or is none.
use Prim.Native.Nat.{ℕ, suc, ◌+◌}
use mathlib.Core.Path.{◌≡◌, refl, ◌∙◌}
use mathlib.Core.List.{List as ListOf, [], ◌∷◌}
use mathlib.Core.Bool.{Bool, true, false, ◌||◌}
use lib.ListN.{drop}
use lib.Dec.{ltb, eqb}
use Rattle.std.specs.Prelude.{Option, Some, None}
use Rattle.model.specs.Bytes.{Bytes}
use Rattle.model.specs.Choice.{pick, Maybe, nothing, just, and_then}
use Rattle.model.specs.Lists.{each}
use Rattle.model.specs.Words.{Got}
use Rattle.model.specs.Items.{Item, is_list, item_at, items_of}
use Rattle.model.specs.Values.{Value}
use Rattle.model.specs.Forms.{as_word, as_quoted, as_name, as_value, first, at_end}
use Rattle.model.specs.Answers.{name_at}
use Rattle.model.specs.declared.Part.{Part}
use Rattle.model.specs.declared.Value.{Value as ValueData}
use Rattle.text.specs.Places.{peek_at, past, is_space}
use Rattle.items.specs.declared.Next.{Next}
use Rattle.items.specs.declared.Next.TheVariants.{Item as ItemAt, Close}
use Rattle.items.specs.Reads.{next_at}
use Rattle.items.specs.Rest.{rest_at, on_next, on_item}
use Rattle.item_forms.specs.Pieces.{behind, item_place, after_end, name_after, close_after, word_piece, quoted_piece, name_piece, value_piece, read_at, word_next}
use Rattle.item_forms.specs.Pieces.{quoted_next, name_next, value_next, open_next, close_next, on_piece, on_name, on_value, on_place}
use Rattle.item_forms.proofs.ItemLaws.{on_item_same, on_next_same, word_item, quoted_item, value_item_law, name_item, list_item}
use Rattle.items.proofs.RestLaws.{rest_nothing, rest_then_law}
use Rattle.items.proofs.NextLaws.{item_follows, close_follows, none_follows, begins, rest_at_law}

-- by the next item, for every list that is asked for it
module _ {B : Type 0} (d : ℕ) (free : Bool) (s : Bytes) (i : ℕ) (f : ℕ → ListOf Item → Maybe B) where
  by_next : rest_at d free i s f ≡ on_next (next_at free s i) (λ p. on_item p (item_at d (drop p s)) (λ x q. rest_at d (is_list x) q s (λ e is. f e (x ∷ is))))
      (λ e. f e [])
  unfolding on_next
  by_next = go (next_at free s i) refl
    where
      go : (n : Option (Next ℕ)) → n ≡ next_at free s i
          → rest_at d free i s f ≡ on_next n (λ p. on_item p (item_at d (drop p s)) (λ x q. rest_at d (is_list x) q s (λ e is. f e (x ∷ is)))) (λ e. f e [])
      go (Some (ItemAt p)) w = item_follows d s f free i p w ∙ rest_at_law d s i p f (begins free s i p w)
      go (Some (Close q)) w = close_follows d s f free i q w
      go None w = none_follows d s f free i w

module _ {A B : Type 0} (reading : Item → Maybe A) (d : ℕ) (free : Bool) (s : Bytes) (i : ℕ) where
  -- the first item by a reading of it
  pub first_next : (k : ℕ → A → ListOf Item → Maybe B)
      → rest_at d free i s (λ e is. first reading is (k e))
      ≡ on_next (next_at free s i) (λ p. on_item p (item_at d (drop p s)) (λ x q. and_then (reading x) (λ a. rest_at d (is_list x) q s (λ e is. k e a is))))
      (λ e. nothing)
  unfolding first
  first_next k =
      by_next d free s i (λ e is. first reading is (k e))
      ∙ on_next_same (next_at free s i) _ _ (λ e. nothing)
      (λ p. on_item_same p (item_at d (drop p s)) _ _ (λ x q. rest_then_law d (is_list x) q s (reading x) (λ a e is. k e a is)))

  -- every item by a reading of it
  pub each_next : (k : ℕ → ListOf A → Maybe B)
      → rest_at d free i s (λ e is. and_then (each reading is) (k e))
      ≡ on_next (next_at free s i) (λ p. on_item p (item_at d (drop p s))
      (λ x q. and_then (reading x) (λ a. rest_at d (is_list x) q s (λ e is. and_then (each reading is) (λ rest. k e (a ∷ rest)))))) (λ e. k e [])
  unfolding each and_then
  each_next k =
      by_next d free s i (λ e is. and_then (each reading is) (k e))
      ∙ on_next_same (next_at free s i) _ _ (λ e. k e [])
      (λ p. on_item_same p (item_at d (drop p s)) _ _ (λ x q.
      (λ t. rest_at d (is_list x) q s (λ e is. one (reading x) (each reading is) (k e) t))
      ∙ rest_then_law d (is_list x) q s (reading x) (λ a e is. and_then (each reading is) (λ rest. k e (a ∷ rest)))))
    where
      one : (o : Maybe A) (r : Maybe (ListOf A)) (c : ListOf A → Maybe B)
          → and_then (and_then o (λ y. and_then r (λ ys. just (y ∷ ys)))) c ≡ and_then o (λ a. and_then r (λ rest. c (a ∷ rest)))
      one nothing r c = refl
      one (just a) nothing c = refl
      one (just a) (just rest) c = refl

-- the closing bracket
module _ {B : Type 0} (free : Bool) (s : Bytes) (i : ℕ) where
  close_item : (g : ℕ → Maybe B) → on_next (next_at free s i) (λ p. nothing) g ≡ on_place (close_next s i) g
  unfolding next_at close_next close_after on_next on_place
  close_item g = go free (eqb (peek_at s (past is_space s i)) 41) (ltb i (past is_space s i)) (eqb (peek_at s (past is_space s i)) 40)
    where
      follows : Bool → Bool → Bool → Bool → Option (Next ℕ)
      follows free x y z = pick x (Some (Close (past is_space s i + 1)))
          (pick y (Some (ItemAt (past is_space s i))) (pick (free || z) (Some (ItemAt (past is_space s i))) None))

      go : (free x y z : Bool) → on_next (follows free x y z) (λ p. nothing) g ≡ on_place (close_after (follows true x y z)) g
      go free true y z = refl
      go free false true z = refl
      go true false false z = refl
      go false false false true = refl
      go false false false false = refl

on_item_nothing : {B : Type 0} (p : ℕ) (o : Maybe (Got Item)) → on_item {B = B} p o (λ x q. nothing) ≡ nothing
unfolding on_item
on_item_nothing p nothing = refl
on_item_nothing p (just g) = refl

module _ {A B : Type 0} (d : ℕ) (free : Bool) (s : Bytes) (i : ℕ) where
  pub end_next : (a : A) (k : ℕ → A → Maybe B) → rest_at d free i s (λ e is. and_then (at_end is a) (k e)) ≡ on_place (close_next s i) (λ e. k e a)
  unfolding at_end and_then
  end_next a k =
      by_next d free s i (λ e is. and_then (at_end is a) (k e))
      ∙ on_next_same (next_at free s i) _ _ (λ e. k e a)
      (λ p. on_item_same p (item_at d (drop p s)) _ _ (λ x q. rest_nothing d (is_list x) q s) ∙ on_item_nothing p (item_at d (drop p s)))
      ∙ close_item free s i (λ e. k e a)

-- a list that is asked for a word, a name, a value, a policy text, a list
after_piece : {B : Type 0} (n : Option (Next ℕ)) (f : ℕ → Option Part) (g : Part → Maybe B)
    → on_next n (λ p. on_piece (f p) g) (λ e. nothing) ≡ on_piece (after_end (item_place n) f None) g
unfolding on_next after_end on_piece
after_piece (Some (ItemAt p)) f g = refl
after_piece (Some (Close e)) f g = refl
after_piece None f g = refl

after_name : {B : Type 0} (d : ℕ) (s : Bytes) (n : Option (Next ℕ)) (g : Bytes → ℕ → Maybe B) (h : ℕ → Maybe B)
    → on_next n (λ p. on_name s (name_piece s (word_piece p (read_at d s p))) g h) h ≡ on_name s (name_after d s n) g h
unfolding on_next name_after on_name
after_name d s (Some (ItemAt p)) g h = refl
after_name d s (Some (Close e)) g h = refl
after_name d s None g h = refl

after_value : {B : Type 0} (s : Bytes) (n : Option (Next ℕ)) (f : ℕ → Option (ValueData × ℕ)) (g : Value → ℕ → Maybe B)
    → on_next n (λ p. on_value s (f p) g) (λ e. nothing) ≡ on_value s (after_end (item_place n) f None) g
unfolding on_next after_end on_value
after_value s (Some (ItemAt p)) f g = refl
after_value s (Some (Close e)) f g = refl
after_value s None f g = refl

module _ {B : Type 0} (d : ℕ) (free : Bool) (s : Bytes) (i : ℕ) where
  pub first_word_law : (k : ℕ → Bytes → ListOf Item → Maybe B)
      → rest_at d free i s (λ e is. first as_word is (k e)) ≡ on_piece (word_next d free s i) (λ w. rest_at d false (behind w) s (λ e is. k e (name_at s w) is))
  unfolding word_next
  first_word_law k =
      first_next as_word d free s i k
      ∙ on_next_same (next_at free s i) _ _ (λ e. nothing) (λ p. word_item d s p (λ w x q. rest_at d x q s (λ e is. k e w is)))
      ∙ after_piece (next_at free s i) (λ p. word_piece p (read_at d s p)) (λ w. rest_at d false (behind w) s (λ e is. k e (name_at s w) is))

  pub first_quoted : (k : ℕ → Bytes → ListOf Item → Maybe B)
      → rest_at d free i s (λ e is. first as_quoted is (k e))
      ≡ on_piece (quoted_next d free s i) (λ w. rest_at d false (behind w + 1) s (λ e is. k e (name_at s w) is))
  unfolding quoted_next
  first_quoted k =
      first_next as_quoted d free s i k
      ∙ on_next_same (next_at free s i) _ _ (λ e. nothing) (λ p. quoted_item d s p (λ w x q. rest_at d x q s (λ e is. k e w is)))
      ∙ after_piece (next_at free s i) (λ p. quoted_piece p (read_at d s p)) (λ w. rest_at d false (behind w + 1) s (λ e is. k e (name_at s w) is))

  pub first_name : (k : ℕ → Bytes → ListOf Item → Maybe B)
      → rest_at d free i s (λ e is. first as_name is (k e)) ≡ on_name s (name_next d free s i) (λ n q. rest_at d false q s (λ e is. k e n is)) (λ e. nothing)
  unfolding name_next
  first_name k =
      first_next as_name d free s i k
      ∙ on_next_same (next_at free s i) _ _ (λ e. nothing) (λ p. name_item d s p (λ n x q. rest_at d x q s (λ e is. k e n is)) (λ e. nothing))
      ∙ after_name d s (next_at free s i) (λ n q. rest_at d false q s (λ e is. k e n is)) (λ e. nothing)

  pub each_name : (k : ℕ → ListOf Bytes → Maybe B)
      → rest_at d free i s (λ e is. and_then (each as_name is) (k e))
      ≡ on_name s (name_next d free s i) (λ n q. rest_at d false q s (λ e is. and_then (each as_name is) (λ ns. k e (n ∷ ns)))) (λ e. k e [])
  unfolding name_next
  each_name k =
      each_next as_name d free s i k
      ∙ on_next_same (next_at free s i) _ _ (λ e. k e [])
      (λ p. name_item d s p (λ n x q. rest_at d x q s (λ e is. and_then (each as_name is) (λ ns. k e (n ∷ ns)))) (λ e. k e []))
      ∙ after_name d s (next_at free s i) (λ n q. rest_at d false q s (λ e is. and_then (each as_name is) (λ ns. k e (n ∷ ns)))) (λ e. k e [])

  pub first_value : (k : ℕ → Value → ListOf Item → Maybe B)
      → rest_at d free i s (λ e is. first as_value is (k e)) ≡ on_value s (value_next d free s i) (λ v q. rest_at d false q s (λ e is. k e v is))
  unfolding value_next
  first_value k =
      first_next as_value d free s i k
      ∙ on_next_same (next_at free s i) _ _ (λ e. nothing) (λ p. value_item_law d s p (λ v x q. rest_at d x q s (λ e is. k e v is)))
      ∙ after_value s (next_at free s i) (λ p. value_piece s p (read_at d s p)) (λ v q. rest_at d false q s (λ e is. k e v is))

module _ {A B : Type 0} (h : ListOf Item → Maybe A) (d : ℕ) (free : Bool) (s : Bytes) (i : ℕ) where
  pub first_list : (k : ℕ → A → ListOf Item → Maybe B)
      → rest_at (suc d) free i s (λ e is. first (λ x. and_then (items_of x) h) is (k e))
      ≡ on_next (open_next s i) (λ p. rest_at d true p s (λ q is. and_then (h is) (λ a. rest_at (suc d) true q s (λ e is. k e a is)))) (λ e. nothing)
  first_list k = first_next (λ x. and_then (items_of x) h) (suc d) free s i k
      ∙ list_item h d s free i (λ a x q. rest_at (suc d) x q s (λ e is. k e a is)) (λ e. nothing)

  pub each_list : (k : ℕ → ListOf A → Maybe B)
      → rest_at (suc d) free i s (λ e is. and_then (each (λ x. and_then (items_of x) h) is) (k e))
      ≡ on_next (open_next s i) (λ p. rest_at d true p s
      (λ q is. and_then (h is) (λ a. rest_at (suc d) true q s (λ e is. and_then (each (λ x. and_then (items_of x) h) is) (λ rest. k e (a ∷ rest))))))
      (λ e. k e [])
  each_list k =
      each_next (λ x. and_then (items_of x) h) (suc d) free s i k
      ∙ list_item h d s free i (λ a x q. rest_at (suc d) x q s (λ e is. and_then (each (λ x. and_then (items_of x) h) is) (λ rest. k e (a ∷ rest)))) (λ e. k e [])
