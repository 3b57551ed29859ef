-- The names of a list one after another, and the list that a head word begins.
use Prim.Native.Nat.{ℕ, ◌+◌, ◌-◌, ◌≤◌}
use mathlib.Core.Path.{◌≡◌, refl, sym, ap, ◌∙◌}
use mathlib.Core.List.{List, [], ◌∷◌}
use mathlib.Core.Bool.{Bool, true, false, not, ◌||◌}
use native.Mathlib.Omega.{arith}
use lib.ListN.{length, drop}
use lib.Dec.{eqb, ltb}
use Rattle.std.specs.Prelude.{Option, Some, None}
use Rattle.model.specs.Bytes.{Bytes, same}
use Rattle.model.specs.Choice.{pick, Maybe, nothing, just, and_then}
use Rattle.model.specs.Lists.{each}
use Rattle.model.specs.Names.{mem}
use Rattle.model.specs.Words.{Got}
use Rattle.model.specs.Items.{Item, Items, list_at, item_at, item_list}
use Rattle.model.specs.Forms.{never_names, as_word, as_name, first}
use Rattle.model.specs.ReadRules.{names_after}
use Rattle.model.specs.Answers.{name_at}
use Rattle.model.specs.declared.Part.{Part}
use Rattle.model.proofs.Outcomes.{then_e, no_just}
use Rattle.text.specs.Places.{peek_at, past, is_space}
use Rattle.items.specs.declared.Next.{Next}
use Rattle.items.specs.declared.Next.TheVariants.{Item as ItemAt, Close}
use Rattle.items.specs.Reads.{next_at, list_end}
use Rattle.items.specs.Rest.{rest_at, on_next}
use Rattle.item_forms.specs.Ends.{line_form, line_at}
use Rattle.item_forms.specs.Pieces.{behind, item_place, after_end, word_piece, name_piece, read_at, word_next, name_after, name_next, open_next, close_after}
use Rattle.item_forms.specs.Pieces.{close_next, on_piece, on_name, on_place}
use Rattle.items.proofs.RestLaws.{rest_same, rest_nothing, rest_end}
use Rattle.item_forms.proofs.PieceLaws.{first_word_law, each_name}
use Rattle.item_forms.proofs.FormLaws.{form_list}
use Rattle.item_forms.proofs.ListLaws.{first_then}
use Rattle.item_forms.proofs.EndLaws.{ends_shut, ends_nowhere, ends_there, closes_there, closes_nowhere}
use Rattle.name_lists.specs.Names.{NamesRead, names_behind, one_more, names_end, head_piece, headed_at, Left}

-- what is made of what a rest gives
pub rest_on : {A B : Type 0} (d : ℕ) (free : Bool) (i : ℕ) (s : Bytes) (f : ℕ → List Item → Maybe A) (h : A → Maybe B)
    → rest_at d free i s (λ e is. and_then (f e is) h) ≡ and_then (rest_at d free i s f) h
unfolding rest_at and_then
rest_on {A} {B} d free i s f h = go (list_at (item_at d) free 0 (drop i s))
  where
    go : (o : Maybe (Got Items)) → and_then o (λ g. and_then (f (i + g.size) (item_list g.got)) h)
        ≡ and_then (and_then o (λ g. f (i + g.size) (item_list g.got))) h
    go nothing = refl
    go (just g) = refl

then_just : {A B C : Type 0} (o : Maybe A) (f : A → B) (h : B → Maybe C) → and_then o (λ a. h (f a)) ≡ and_then (and_then o (λ a. just (f a))) h
unfolding and_then
then_just nothing f h = refl
then_just (just a) f h = refl

module _ (s : Bytes) (i : ℕ) where
  pub rest_names : {B : Type 0} (k : ℕ → List Bytes → Maybe B)
      → rest_at 2 false i s (λ e is. and_then (each as_name is) (k e)) ≡ and_then (names_behind s i) (λ x. k x.end x.names)
  unfolding names_behind
  rest_names k =
      rest_same 2 false i s _ _ (λ e is. then_just (each as_name is) (λ ns. record { names = ns; end = e }) (λ (x : NamesRead). k x.end x.names))
      ∙ rest_on 2 false i s (λ e is. and_then (each as_name is) (λ ns. just (record { names = ns; end = e }))) (λ (x : NamesRead). k x.end x.names)

-- one name after another
module _ (s : Bytes) (i : ℕ) where
  names_next : names_behind s i ≡ on_name s (name_next 2 false s i) (λ n q. one_more n (names_behind s q)) (λ e. just (record { names = []; end = e }))
  unfolding names_behind one_more on_name
  names_next = each_name 2 false s i (λ e ns. just (record { names = ns; end = e })) ∙ go (name_next 2 false s i)
    where
      go : (r : Option (Next Part)) → on_name s r (λ n q. rest_at 2 false q s (λ e is. and_then (each as_name is) (λ ns. just (record { names = n ∷ ns; end = e }))))
          (λ e. just (record { names = []; end = e }))
          ≡ on_name s r (λ n q. one_more n (names_behind s q)) (λ e. just (record { names = []; end = e }))
      go (Some (ItemAt w)) = rest_names s (behind w) (λ e ns. just (record { names = name_at s w ∷ ns; end = e }))
      go (Some (Close e)) = refl
      go None = refl

  pub name_step : (x : NamesRead) (w : Part) → Some w ≡ item_place (name_next 2 false s i) → names_behind s i ≡ just x
      → (y : NamesRead) × (names_behind s (behind w) ≡ just y) × (x.names ≡ name_at s w ∷ y.names)
  unfolding on_name one_more
  name_step x w n e = go (name_next 2 false s i) n (sym names_next ∙ e)
    where
      go : (r : Option (Next Part)) → Some w ≡ item_place r → on_name s r (λ n q. one_more n (names_behind s q)) (λ e. just (record { names = []; end = e })) ≡ just x
          → (y : NamesRead) × (names_behind s (behind w) ≡ just y) × (x.names ≡ name_at s w ∷ y.names)
      go (Some (ItemAt a)) n e =
          let y = then_e (names_behind s (behind a)) (λ (y : NamesRead). just (record { names = name_at s a ∷ y.names; end = y.end })) x e in
          let ea : a ≡ w = cc in
          let z : record { names = name_at s a ∷ y.0.names; end = y.0.end } ≡ x = cc y.2 in (
            y.0,
            ap (λ (v : Part). names_behind s (behind v)) (sym ea) ∙ y.1,
            ap (λ (v : NamesRead). v.names) (sym z) ∙ ap (λ (v : Part). name_at s v ∷ y.0.names) ea,
          )
      go (Some (Close a)) n e = let z : ◌≡◌ {A = ℕ} 0 1 = cc in absurd (omega arith)
      go None n e = let z : ◌≡◌ {A = ℕ} 0 1 = cc in absurd (omega arith)

  pub names_done : (x : NamesRead) → None ≡ item_place (name_next 2 false s i) → names_behind s i ≡ just x → x.names ≡ []
  unfolding on_name
  names_done x n e = go (name_next 2 false s i) n (sym names_next ∙ e)
    where
      go : (r : Option (Next Part)) → None ≡ item_place r
          → on_name s r (λ n q. one_more n (names_behind s q)) (λ e. just (record { names = []; end = e })) ≡ just x → x.names ≡ []
      go (Some (ItemAt a)) n e = let z : ◌≡◌ {A = ℕ} 0 1 = cc in absurd (omega arith)
      go (Some (Close a)) n e = let z : record { names = []; end = a } ≡ x = cc in ap (λ (w : NamesRead). w.names) (sym z)
      go None n e = let z : ◌≡◌ {A = ℕ} 0 1 = cc in absurd (omega arith)

  pub names_over : (x : NamesRead) → length s ≤ i → names_behind s i ≡ just x → ⊥
  unfolding names_behind
  names_over x l e = no_just x (sym (rest_end 2 false s i (λ e is. and_then (each as_name is) (λ ns. just (record { names = ns; end = e }))) l) ∙ e)

  -- a name moves the place, and not the end
  pub end_step : {w : Part} → Some w ≡ item_place (name_next 2 false s i) → names_end (names_behind s (behind w)) ≡ names_end (names_behind s i)
  unfolding on_name one_more names_end and_then
  end_step {w} n = go (name_next 2 false s i) n ∙ ap names_end (sym names_next)
    where
      more : (o : Maybe NamesRead) (n : Bytes) → names_end o ≡ names_end (one_more n o)
      more nothing n = refl
      more (just x) n = refl

      go : (r : Option (Next Part)) → Some w ≡ item_place r
          → names_end (names_behind s (behind w)) ≡ names_end (on_name s r (λ n q. one_more n (names_behind s q)) (λ e. just (record { names = []; end = e })))
      go (Some (ItemAt a)) n = let e : w ≡ a = cc in ap (λ (z : Part). names_end (names_behind s (behind z))) e ∙ more (names_behind s (behind a)) (name_at s a)
      go (Some (Close a)) n = let z : ◌≡◌ {A = ℕ} 0 1 = cc in absurd (omega arith)
      go None n = let z : ◌≡◌ {A = ℕ} 0 1 = cc in absurd (omega arith)

  pub end_over : length s ≤ i → None ≡ names_end (names_behind s i)
  unfolding names_behind names_end
  end_over l = rw (rest_end {B = NamesRead} 2 false s i (λ e is. and_then (each as_name is) (λ ns. just (record { names = ns; end = e }))) l)

  -- where no name follows, the names end with the list
  pub names_ended : None ≡ item_place (name_next 2 false s i) → close_next s i ≡ names_end (names_behind s i)
  unfolding on_name names_end name_next name_after close_next close_after next_at name_piece
  names_ended n = rw names_next (go (eqb (peek_at s p) 41) (ltb i p) (eqb (peek_at s p) 40) n)
    where
      p : ℕ
      p = past is_space s i

      after : (o : Option (Next ℕ)) → None ≡ item_place (name_after 2 s o) → (q : ℕ) → o ≡ Some (ItemAt q)
          → None ≡ names_end (on_name s (name_after 2 s o) (λ n q. one_more n (names_behind s q)) (λ e. just (record { names = []; end = e })))
      after (Some (ItemAt q)) n q' e = by (word_piece q (read_at 2 s q)) n
        where
          choose : (b : Bool) (u : Part) → None ≡ item_place (pick b (Some (ItemAt u)) None)
              → None ≡ names_end (on_name s (pick b (Some (ItemAt u)) None) (λ n q. one_more n (names_behind s q))
              (λ e. just (record { names = []; end = e })))
          choose true u n = let z : ◌≡◌ {A = ℕ} 0 1 = cc in absurd (omega arith)
          choose false u n = refl

          by : (w : Option Part) → None ≡ item_place (name_piece s w)
              → None ≡ names_end (on_name s (name_piece s w) (λ n q. one_more n (names_behind s q)) (λ e. just (record { names = []; end = e })))
          by (Some u) n = choose (not (mem (name_at s u) never_names)) u n
          by None n = refl
      after (Some (Close q)) n q' e = let z : ◌≡◌ {A = ℕ} 0 1 = cc in absurd (omega arith)
      after None n q' e = refl

      go : (a b c : Bool) → None ≡ item_place
          (name_after 2 s (pick a (Some (Close (p + 1))) (pick b (Some (ItemAt p)) (pick (false || c) (Some (ItemAt p)) None))))
          → close_after (pick a (Some (Close (p + 1))) (pick b (Some (ItemAt p)) (Some (ItemAt p))))
          ≡ names_end (on_name s (name_after 2 s (pick a (Some (Close (p + 1))) (pick b (Some (ItemAt p)) (pick (false || c) (Some (ItemAt p)) None))))
          (λ n q. one_more n (names_behind s q)) (λ e. just (record { names = []; end = e })))
      go true b c n = refl
      go false true c n = after (Some (ItemAt p)) n p refl
      go false false true n = after (Some (ItemAt p)) n p refl
      go false false false n = refl

  -- names that are read end where the list reader says; where it gives no end, there are none
  names_there : (q : ℕ) → Some q ≡ names_end (names_behind s i) → Some q ≡ list_end 2 false s i
  unfolding names_end and_then
  names_there q e = ends_there 2 false s i (each as_name) q (rest_names s i (λ e ns. just e) ∙ go (names_behind s i) e)
    where
      go : (o : Maybe NamesRead) → Some q ≡ names_end o → and_then o (λ x. just x.end) ≡ just q
      go nothing e = let z : ◌≡◌ {A = ℕ} 0 1 = cc in absurd (omega arith)
      go (just x) e = let w : x.end ≡ q = cc in cc

  pub names_nowhere : None ≡ list_end 2 false s i → None ≡ names_end (names_behind s i)
  unfolding names_behind names_end
  names_nowhere n = rw (ends_nowhere 2 false s i {B = NamesRead} (λ e is. and_then (each as_name is) (λ ns. just (record { names = ns; end = e }))) n)

-- what `only_closes` says where no name follows at the place j, z being the end that the list reader gave
module _ (s : Bytes) (i z : ℕ) (l : Some z ≡ list_end 2 false s i) (j : ℕ) (n : None ≡ item_place (name_next 2 false s j))
    (e : names_end (names_behind s j) ≡ names_end (names_behind s i)) where
  pub names_shut : true ≡ eqb (past is_space s j) (z - 1) → Some z ≡ names_end (names_behind s i)
  names_shut t = let h = ends_shut 2 false s i z l in closes_there s j z h.1 h.0 t ∙ names_ended s j n ∙ e

  pub names_past : false ≡ eqb (past is_space s j) (z - 1) → None ≡ names_end (names_behind s i)
  names_past t =
      let h = ends_shut 2 false s i z l in
      closes_nowhere s j z h.1 h.0 (λ x k. names_there s i x (k ∙ names_ended s j n ∙ e) ∙ sym l) t ∙ names_ended s j n ∙ e

-- what is said of the names from a place on
module _ {A : Type 0} (f g : List Bytes → A) (s : Bytes) (from i : ℕ) where
  pub left_next : (h : List Bytes → A) (w : Part) → Left f g s from i → Some w ≡ item_place (name_next 2 false s i)
      → ((y : NamesRead) → names_behind s (behind w) ≡ just y → g (name_at s w ∷ y.names) ≡ h y.names) → Left f h s from (behind w)
  left_next h w left n step x e =
      let y = left x e in
      let z = name_step s i y.0 w n y.1 in
      (z.0, z.1, y.2 ∙ ap g z.2 ∙ step z.0 z.1)

  pub left_found : (v : A) (w : Part) → Left f g s from i → Some w ≡ item_place (name_next 2 false s i)
      → ((y : NamesRead) → names_behind s (behind w) ≡ just y → g (name_at s w ∷ y.names) ≡ v) → (x : NamesRead) → names_behind s from ≡ just x → v ≡ f x.names
  left_found v w left n step x e =
      let y = left x e in
      let z = name_step s i y.0 w n y.1 in
      sym (y.2 ∙ ap g z.2 ∙ step z.0 z.1)

  pub left_done : Left f g s from i → None ≡ item_place (name_next 2 false s i) → (x : NamesRead) → names_behind s from ≡ just x → g [] ≡ f x.names
  left_done left n x e = let y = left x e in sym (y.2 ∙ ap g (names_done s i y.0 n y.1))

  pub left_over : {C : Type 0} → Left f g s from i → length s ≤ i → (x : NamesRead) → names_behind s from ≡ just x → C
  left_over left l x e = let y = left x e in absurd (names_over s i y.0 l y.1)

pub left_start : {A : Type 0} (f : List Bytes → A) (s : Bytes) (from : ℕ) → Left f f s from from
left_start f s from x e = (x, e, refl)

-- the list that a head word begins
module _ {B : Type 0} (head s : Bytes) (k : List Bytes → List Item → Maybe B) where
  -- what follows the names
  abbrev go_on : NamesRead → Maybe B
  go_on x = line_at true x.end s (k x.names)

  headed_word : (p : ℕ) → rest_at 2 true p s
      (λ e is. first as_word is (λ w is. and_then (pick (same w head) (each as_name is) nothing) (λ ns. line_at true e s (k ns))))
      ≡ on_place (head_piece head s (word_next 2 true s p)) (λ a. and_then (names_behind s a) go_on)
  unfolding on_piece on_place head_piece and_then
  headed_word p = first_word_law 2 true s p (λ e w is. and_then (pick (same w head) (each as_name is) nothing) (λ ns. line_at true e s (k ns)))
      ∙ go (word_next 2 true s p)
    where
      by : (b : Bool) (q : ℕ) → rest_at 2 false q s (λ e is. and_then (pick b (each as_name is) nothing) (λ ns. line_at true e s (k ns)))
          ≡ on_place (pick b (Some q) None) (λ a. and_then (names_behind s a) go_on)
      by true q = rest_names s q (λ e ns. line_at true e s (k ns))
      by false q = rest_nothing 2 false q s

      go : (r : Option Part) → on_piece r (λ w. rest_at 2 false (behind w) s
          (λ e is. and_then (pick (same (name_at s w) head) (each as_name is) nothing) (λ ns. line_at true e s (k ns))))
          ≡ on_place (head_piece head s r) (λ a. and_then (names_behind s a) go_on)
      go (Some w) = by (same (name_at s w) head) (behind w)
      go None = refl

  pub headed_names : (free : Bool) (i : ℕ)
      → line_at free i s (λ is. first (names_after head) is k) ≡ on_place (headed_at head s i) (λ a. and_then (names_behind s a) go_on)
  unfolding names_after headed_at on_next on_place after_end
  headed_names free i =
      form_list line_form free i s (λ is. first as_word is (λ w is. pick (same w head) (each as_name is) nothing)) k
      ∙ go (open_next s i)
    where
      go : (n : Option (Next ℕ)) → on_next n (λ p. rest_at 2 true p s
          (λ q is. and_then (first as_word is (λ w is. pick (same w head) (each as_name is) nothing)) (λ a. line_at true q s (k a)))) (λ e. nothing)
          ≡ on_place (after_end (item_place n) (λ p. head_piece head s (word_next 2 true s p)) None) (λ a. and_then (names_behind s a) go_on)
      go (Some (ItemAt p)) =
          rest_same 2 true p s _ _ (λ e is. first_then as_word is (λ w is. pick (same w head) (each as_name is) nothing) (λ a. line_at true e s (k a)))
          ∙ headed_word p
      go (Some (Close e)) = refl
      go None = refl
