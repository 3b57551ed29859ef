-- Lines by their forms: what was read makes the line, or breaks the grammar.
use Prim.Native.Nat.{ℕ}
use mathlib.Core.Path.{◌≡◌, refl, sym, ap, ◌∙◌, fun_ext}
use mathlib.Core.List.{List, [], ◌∷◌}
use mathlib.Core.Bool.{Bool, true, false}
use Rattle.std.specs.Prelude.{Option, None, Some}
use Rattle.model.specs.Bytes.{Bytes}
use Rattle.model.specs.Choice.{pick, Maybe, nothing, just, and_then}
use Rattle.model.specs.Items.{Item, line_items}
use Rattle.model.specs.Lines.{fault, form_step}
use Rattle.model.specs.Values.{Kind}
use Rattle.model.specs.Forms.{as_word, kind_of, first, at_end}
use Rattle.model.specs.Book.{Book}
use Rattle.model.specs.BookLines.{BookLine, label, attr_line, label_line, book_line}
use Rattle.model.specs.Answers.{name_at}
use Rattle.model.specs.declared.Part.{Part}
use Rattle.item_forms.specs.declared.Form.{Form}
use Rattle.item_forms.specs.Ends.{form_depth, form_ends, form_at, line_at}
use Rattle.item_forms.specs.Places.{NextWord, NextName}
use Rattle.item_forms.specs.Pieces.{behind, word_next, on_piece, on_place}
use Rattle.item_forms.specs.Forms.{form_opens, form_closes}
use Rattle.items.proofs.RestLaws.{rest_same, rest_nothing}
use Rattle.item_forms.proofs.FormLaws.{pick_none, line_form_law, form_word, form_end}
use Rattle.book_tables.specs.declared.NameRule.{NameRule}
use Rattle.book_tables.specs.View.{kind_in}
use Rattle.book_lines.specs.declared.Head.{Head}
use Rattle.book_lines.specs.declared.Head.TheVariants as head
use Rattle.book_steps.specs.Steps.{step_of}
use Rattle.book_lines.specs.Forms.{form_step_of, head_of, line_of, kind_piece, on_kind, on_attr}
use Rattle.book_lines.proofs.PieceLaws.{name_form, kind_word, line_head}

-- a form, or none
pub step_form : (rule : NameRule) (b : Book) (m : Maybe BookLine) (x : BookLine) → m ≡ just x → form_step_of rule b m ≡ step_of rule b x
unfolding form_step_of form_step
step_form rule b m x e = rw e

pub step_broken : (rule : NameRule) (b : Book) (m : Maybe BookLine) → m ≡ nothing → form_step_of rule b m ≡ fault 3
unfolding form_step_of form_step
step_broken rule b m e = rw e

-- the form of a line opens, or does not
pub opens_at : (line : Bytes) (r : Option ℕ) (i : ℕ) → r ≡ form_opens line 0 → r ≡ Some i → and_then (line_items line) book_line ≡ line_at true i line book_line
unfolding on_place
opens_at line r i e h = line_form_law book_line line ∙ rw (sym e ∙ h)

pub opens_none : (line : Bytes) (r : Option ℕ) → r ≡ form_opens line 0 → r ≡ None → and_then (line_items line) book_line ≡ nothing
unfolding on_place
opens_none line r e h = line_form_law book_line line ∙ rw (sym e ∙ h)

-- the first word, or none
module _ (within : Form) (line : Bytes) (from : ℕ) (r : Option Part) (e : NextWord within.inner true line from r) where
  pub headed : (w : Part) → r ≡ Some w → form_at within true from line book_line ≡ form_at within false (behind w) line (line_of (head_of (name_at line w)))
  unfolding book_line on_piece
  headed w h =
      form_word within true from line within.inner _ ∙ rw (sym e.is ∙ h)
      (ap (λ (f : List Item → Maybe BookLine). form_at within false (behind w) line f) (fun_ext (line_head (name_at line w))))

  pub headless : r ≡ None → form_at within true from line book_line ≡ nothing
  unfolding book_line on_piece
  headless h = form_word within true from line within.inner _ ∙ rw (sym e.is ∙ h)

-- a reading after a word, which the rest of the line goes on with
form_nothing : {B : Type 0} (within : Form) (free : Bool) (i : ℕ) (s : Bytes) → form_at {B = B} within free i s (λ is. nothing) ≡ nothing
unfolding form_at
form_nothing within free i s = rest_same (form_depth within) free i s _ _ (λ e is. pick_none (form_ends within s e)) ∙ rest_nothing (form_depth within) free i s

form_then : {A B : Type 0} (within : Form) (free : Bool) (i : ℕ) (s : Bytes) (o : Maybe A) (k : A → List Item → Maybe B)
    → form_at within free i s (λ is. and_then o (λ a. k a is)) ≡ and_then o (λ a. form_at within free i s (k a))
unfolding and_then
form_then within free i s nothing k = form_nothing within free i s
form_then within free i s (just a) k = refl

first_then : {A B : Type 0} (g : Bytes → Maybe A) (is : List Item) (k : A → List Item → Maybe B)
    → first (λ x. and_then (as_word x) g) is k ≡ first as_word is (λ w is. and_then (g w) (λ a. k a is))
unfolding first and_then
first_then g [] k = refl
first_then g (i ∷ is) k = go (as_word i)
  where
    go : (o : Maybe Bytes) → and_then (and_then o g) (λ a. k a is) ≡ and_then o (λ w. and_then (g w) (λ a. k a is))
    go nothing = refl
    go (just w) = refl

-- a type, and the rest behind it
kind_form : {B : Type 0} (within : Form) (line : Bytes) (i : ℕ) (k : Kind → List Item → Maybe B)
    → form_at within false i line (λ is. first (λ x. and_then (as_word x) kind_of) is k)
    ≡ on_kind (kind_piece line (word_next within.inner false line i)) (λ t q. form_at within false q line (k t))
unfolding on_piece kind_piece on_kind
kind_form within line i k =
    ap (λ (f : List Item → Maybe _). form_at within false i line f) (fun_ext (λ is. first_then kind_of is k))
    ∙ form_word within false i line within.inner (λ w is. and_then (kind_of w) (λ t. k t is))
    ∙ go (word_next within.inner false line i)
  where
    go : (r : Option Part) → on_piece r (λ w. form_at within false (behind w) line (λ is. and_then (kind_of (name_at line w)) (λ t. k t is)))
        ≡ on_kind (kind_piece line r) (λ t q. form_at within false q line (k t))
    go (Some w) = form_then within false (behind w) line (kind_of (name_at line w)) k
        ∙ kind_word line i (name_at line w) (behind w) (λ t q. form_at within false q line (k t))
    go None = refl

-- NAME TYPE
module _ (within : Form) (line : Bytes) (from : ℕ) (make : Bytes → Kind → BookLine) (r : Option Part) (e : NextName within.inner line from r) where
  pub attr_nameless : r ≡ None → form_at within false from line (attr_line make) ≡ nothing
  unfolding attr_line on_piece
  attr_nameless h = name_form within line from _ ∙ rw (sym e.is ∙ h)

  module _ (w : Part) (h : r ≡ Some w) (t : Option (ℕ × ℕ)) (te : t ≡ kind_piece line (word_next within.inner false line (behind w))) where
    attr_typed : form_at within false from line (attr_line make) ≡ on_kind t (λ k z. form_at within false z line (λ is. at_end is (make (name_at line w) k)))
    unfolding attr_line on_piece
    attr_typed =
        let named : form_at within false from line (attr_line make)
        ≡ form_at within false (behind w) line (λ is. first (λ x. and_then (as_word x) kind_of) is (λ k is. at_end is (make (name_at line w) k))) =
        name_form within line from _ ∙ rw (sym e.is ∙ h) in
        named ∙ kind_form within line (behind w) (λ k is. at_end is (make (name_at line w) k))
        ∙ ap (λ (x : Option (ℕ × ℕ)). on_kind x (λ k z. form_at within false z line (λ is. at_end is (make (name_at line w) k)))) (sym te)

    pub attr_kindless : t ≡ None → form_at within false from line (attr_line make) ≡ nothing
    unfolding on_kind
    attr_kindless k = attr_typed ∙ rw k

    pub attr_ends : (k z : ℕ) → t ≡ Some (k, z) → (c : Bool) → c ≡ form_closes within.closes line z
        → form_at within false from line (attr_line make) ≡ pick c (just (make (name_at line w) (kind_in k))) nothing
    unfolding on_kind
    attr_ends k z th c ce =
        let typed : form_at within false from line (attr_line make)
        ≡ form_at within false z line (λ is. at_end is (make (name_at line w) (kind_in k))) = attr_typed
        ∙ rw th in
        typed ∙ form_end within false z line (make (name_at line w) (kind_in k))
        ∙ ap (λ (x : Bool). pick {A = Maybe BookLine} x (just (make (name_at line w) (kind_in k))) nothing) (sym ce)

-- what was read of an attribute's line
module _ (within : Form) (line : Bytes) (from : ℕ) (r : Option (Part × ℕ))
    (form : (make : Bytes → Kind → BookLine) → form_at within false from line (attr_line make) ≡ on_attr line r (λ n k. just (make n k)))
    (make : Bytes → Kind → BookLine) where
  pub attr_got : (w : Part) (k : ℕ) → r ≡ Some (w, k) → form_at within false from line (attr_line make) ≡ just (make (name_at line w) (kind_in k))
  unfolding on_attr
  attr_got w k e = form make ∙ rw e

  pub attr_none : r ≡ None → form_at within false from line (attr_line make) ≡ nothing
  unfolding on_attr
  attr_none e = form make ∙ rw e

-- NAME
module _ (within : Form) (line : Bytes) (from : ℕ) (r : Option Part) (e : NextName within.inner line from r) where
  pub label_nameless : r ≡ None → form_at within false from line label_line ≡ nothing
  unfolding label_line on_piece
  label_nameless h = name_form within line from _ ∙ rw (sym e.is ∙ h)

  pub label_ends : (w : Part) → r ≡ Some w → (c : Bool) → c ≡ form_closes within.closes line (behind w)
      → form_at within false from line label_line ≡ pick c (just (label (name_at line w))) nothing
  unfolding label_line on_piece
  label_ends w h c ce =
      let named : form_at within false from line label_line ≡ form_at within false (behind w) line (λ is. at_end is (label (name_at line w))) =
      name_form within line from _ ∙ rw (sym e.is ∙ h) in
      named ∙ form_end within false (behind w) line (label (name_at line w))
      ∙ ap (λ (x : Bool). pick {A = Maybe BookLine} x (just (label (name_at line w))) nothing) (sym ce)

-- a first word that is none of the five
pub form_other : (within : Form) (line : Bytes) (i : ℕ) (h : Head) → h ≡ head.Other → form_at within false i line (line_of h) ≡ nothing
unfolding line_of
form_other within line i h e = rw e (form_nothing within false i line)
