-- What is made of a line's form: of where it opens, of what it gives, and of a word or a name that begins it.
use Prim.Native.Nat.{ℕ}
use mathlib.Core.Path.{◌≡◌, refl, sym, ap, ◌∙◌}
use mathlib.Core.List.{List}
use mathlib.Core.Bool.{Bool, true, false}
use native.Mathlib.Omega.{arith}
use Rattle.std.specs.Prelude.{Option, Some, None}
use Rattle.model.specs.Bytes.{Bytes}
use Rattle.model.specs.Choice.{pick, Maybe, nothing, and_then}
use Rattle.model.specs.Items.{Item, line_items}
use Rattle.model.specs.Forms.{as_word, as_name, first}
use Rattle.model.specs.Answers.{name_at}
use Rattle.model.specs.declared.Part.{Part}
use Rattle.items.specs.declared.Next.{Next}
use Rattle.items.specs.declared.Next.TheVariants.{Item as ItemAt, Close}
use Rattle.item_forms.specs.Ends.{form_at, line_form, line_at, ends_after}
use Rattle.item_forms.specs.Pieces.{behind, item_place, word_next, name_next, on_piece, on_name, on_place}
use Rattle.item_forms.specs.Forms.{form_opens}
use Rattle.item_forms.proofs.FormLaws.{line_form_law, form_word, form_name}
use Rattle.items.proofs.RestLaws.{rest_same}
use Rattle.name_lists.proofs.Behind.{rest_on}

-- what is made of what a form gives
pub form_on : {A B : Type 0} (free : Bool) (i : ℕ) (s : Bytes) (f : List Item → Maybe A) (h : A → Maybe B)
    → line_at free i s (λ is. and_then (f is) h) ≡ and_then (line_at free i s f) h
unfolding form_at and_then
form_on {A} {B} free i s f h = rest_same 3 free i s _ _ (λ e is. go (ends_after 0 s e) (f is))
    ∙ rest_on 3 free i s (λ e is. pick (ends_after 0 s e) (f is) nothing) h
  where
    go : (b : Bool) (o : Maybe A) → pick b (and_then o h) nothing ≡ and_then (pick b o nothing) h
    go true o = refl
    go false o = refl

-- where the one list of a line opens
module _ {B : Type 0} (s : Bytes) (f : List Item → Maybe B) where
  pub line_unopened : None ≡ form_opens s 0 → and_then (line_items s) f ≡ nothing
  unfolding on_place
  line_unopened e = line_form_law f s ∙ ap (λ (o : Option ℕ). on_place o (λ i. line_at true i s f)) (sym e)

  pub line_opened : {i : ℕ} → Some i ≡ form_opens s 0 → and_then (line_items s) f ≡ line_at true i s f
  unfolding on_place
  line_opened e = line_form_law f s ∙ ap (λ (o : Option ℕ). on_place o (λ i. line_at true i s f)) (sym e)

-- a word that begins what follows
module _ {B : Type 0} (free : Bool) (s : Bytes) (i : ℕ) (k : Bytes → List Item → Maybe B) where
  pub no_word : None ≡ word_next 3 free s i → line_at free i s (λ is. first as_word is k) ≡ nothing
  unfolding on_piece
  no_word w = form_word line_form free i s 3 k ∙ ap (λ (r : Option Part). on_piece r (λ w. line_at false (behind w) s (k (name_at s w)))) (sym w)

  pub a_word : {w : Part} → Some w ≡ word_next 3 free s i → line_at free i s (λ is. first as_word is k) ≡ line_at false (behind w) s (k (name_at s w))
  unfolding on_piece
  a_word w = form_word line_form free i s 3 k ∙ ap (λ (r : Option Part). on_piece r (λ w. line_at false (behind w) s (k (name_at s w)))) (sym w)

-- a name that begins what follows
module _ {B : Type 0} (s : Bytes) (i : ℕ) (k : Bytes → List Item → Maybe B) where
  pub no_name : None ≡ item_place (name_next 3 false s i) → line_at false i s (λ is. first as_name is k) ≡ nothing
  unfolding on_name
  no_name n = form_name line_form false i s 3 k ∙ go (name_next 3 false s i) n
    where
      go : (r : Option (Next Part)) → None ≡ item_place r → on_name s r (λ n q. line_at false q s (k n)) (λ e. nothing) ≡ nothing
      go (Some (ItemAt w)) n = let z : ◌≡◌ {A = ℕ} 0 1 = cc in absurd (omega arith)
      go (Some (Close e)) n = refl
      go None n = refl

  pub a_name_law : (w : Part) → Some w ≡ item_place (name_next 3 false s i)
      → line_at false i s (λ is. first as_name is k) ≡ line_at false (behind w) s (k (name_at s w))
  unfolding on_name
  a_name_law w n = form_name line_form false i s 3 k ∙ go (name_next 3 false s i) n
    where
      go : (r : Option (Next Part)) → Some w ≡ item_place r → on_name s r (λ n q. line_at false q s (k n)) (λ e. nothing) ≡ line_at false (behind w) s (k (name_at s w))
      go (Some (ItemAt a)) n = let e : a ≡ w = cc in ap (λ (v : Part). line_at false (behind v) s (k (name_at s v))) e
      go (Some (Close e)) n = let z : ◌≡◌ {A = ℕ} 0 1 = cc in absurd (omega arith)
      go None n = let z : ◌≡◌ {A = ℕ} 0 1 = cc in absurd (omega arith)
