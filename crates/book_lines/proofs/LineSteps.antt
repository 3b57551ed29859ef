-- What each kind of line gives after the book: the step of the line that was read, in the whole text's parts.
use Prim.Native.Nat.{ℕ}
use mathlib.Core.Path.{◌≡◌, sym, ap, ◌∙◌, subst}
use mathlib.Core.List.{List}
use mathlib.Core.Bool.{Bool, true, false}
use Rattle.std.specs.Prelude.{Option, None, Some}
use Rattle.model.specs.Bytes.{Bytes}
use Rattle.model.specs.Choice.{just, and_then}
use Rattle.model.specs.Lists.{each}
use Rattle.model.specs.Lines.{fault}
use Rattle.model.specs.Values.{Kind}
use Rattle.model.specs.Forms.{entry_of}
use Rattle.model.specs.Book.{Book}
use Rattle.model.specs.BookLines.{BookLine, label, node, rel, attr_line, label_line, node_line, rel_line}
use Rattle.model.specs.Answers.{name_at}
use Rattle.model.specs.declared.Part.{Part}
use Rattle.item_forms.specs.declared.Form.{Form}
use Rattle.item_forms.specs.Ends.{form_at}
use Rattle.item_forms.specs.Places.{WordPlaces, NextName}
use Rattle.item_forms.specs.Pieces.{behind, on_piece}
use Rattle.item_forms.proofs.PlacedLaws.{placed_at}
use Rattle.item_forms.specs.Forms.{form_closes}
use Rattle.book_tables.specs.declared.BookCounts.{BookCounts}
use Rattle.book_tables.specs.declared.NameRule.{NameRule}
use Rattle.book_tables.specs.View.{kind_in, book_at}
use Rattle.book_tables.proofs.AgreeLaws.{book_kept}
use Rattle.book_entries.specs.declared.EntriesRead.{EntriesRead}
use Rattle.book_lines.specs.declared.RelNames.{RelNames}
use Rattle.book_steps.specs.Steps.{step_of}
use Rattle.book_lines.specs.Forms.{form_step_of, FormAsked, on_attr}
use Rattle.book_lines.specs.Names.{AttrFits, moved_part, NamesGot, NamesTold}
use Rattle.book_lines.specs.Entries.{entries_form, EntriesGot, EntriesTold, EntriesDone}
use Rattle.book_lines.proofs.PieceLaws.{name_form, name_moved}
use Rattle.book_lines.proofs.LineLaws.{step_form, step_broken, attr_got, attr_none, label_nameless, label_ends}

-- the places of an attribute's name
pub attr_stands : (line : Bytes) (from : ℕ) (r : Option (Part × ℕ)) (w : Part) (k : ℕ) → AttrFits line from r → r ≡ Some (w, k) → WordPlaces line from w
attr_stands line from r w k h e = subst (AttrFits line from) e h

-- the names that were read
pub names_got : {within : Form} (line : Bytes) (from : ℕ) (r : Option RelNames) → NamesTold within line from r
    → (n : RelNames) → r ≡ Some n → NamesGot within line from n.label n.from n.to n.end
names_got {within} line from r told n h = subst (NamesTold within line from) h told

module _ (rule : NameRule) (within : Form) (text line : Bytes) (words : List ℕ) (c : BookCounts) (base from : ℕ) (f : FormAsked text line words c base) where
  abbrev book : Book
  book = book_at text words c

  -- (vattr NAME TYPE), (eattr NAME TYPE)
  module _ (r : Option (Part × ℕ)) (form : (make : Bytes → Kind → BookLine) → form_at within false from line (attr_line make) ≡ on_attr line r (λ n k. just (make n k)))
      (fits : AttrFits line from r) (make : Bytes → Kind → BookLine) where
    pub attr_step : (w : Part) (k : ℕ) → r ≡ Some (w, k)
        → form_step_of rule book (form_at within false from line (attr_line make))
        ≡ step_of rule book (make (name_at text (moved_part base w)) (kind_in k))
    attr_step w k e =
        step_form rule book _ _ (attr_got within line from r form make w k e)
        ∙ ap (λ (n : Bytes). step_of rule book (make n (kind_in k)))
        (sym (name_moved text line base f.is f.inside w (attr_stands line from r w k fits e).inside))

    pub attr_broken : r ≡ None → form_step_of rule book (form_at within false from line (attr_line make)) ≡ fault 3
    attr_broken e = step_broken rule book _ (attr_none within line from r form make e)

  -- (label NAME)
  module _ (r : Option Part) (e : NextName within.inner line from r) where
    pub label_broken : r ≡ None → form_step_of rule book (form_at within false from line label_line) ≡ fault 3
    label_broken h = step_broken rule book _ (label_nameless within line from r e h)

    pub label_open : (w : Part) → r ≡ Some w → (t : Bool) → t ≡ form_closes within.closes line (behind w) → t ≡ false
        → form_step_of rule book (form_at within false from line label_line) ≡ fault 3
    label_open w h t te th = step_broken rule book _ (label_ends within line from r e w h t te ∙ rw th)

    pub label_step : (w : Part) → r ≡ Some w → (t : Bool) → t ≡ form_closes within.closes line (behind w) → t ≡ true
        → form_step_of rule book (form_at within false from line label_line) ≡ step_of rule book (label (name_at text (moved_part base w)))
    label_step w h t te th =
        step_form rule book _ _ (label_ends within line from r e w h t te ∙ rw th)
        ∙ ap (λ (n : Bytes). step_of rule book (label n)) (sym (name_moved text line base f.is f.inside w (placed_at line from r h e.placed).inside))

  -- (node NAME (ATTR VALUE)...)
  module _ (r : Option Part) (e : NextName within.inner line from r) where
    pub node_broken : r ≡ None → form_step_of rule book (form_at within false from line node_line) ≡ fault 3
    unfolding node_line on_piece
    node_broken h = step_broken rule book _ (name_form within line from _ ∙ rw (sym e.is ∙ h))

    module _ (w : Part) (h : r ≡ Some w) (words' : List ℕ) (offset declared : ℕ) (a : Option EntriesRead)
        (done : EntriesDone within text line words words' c offset declared (behind w) a) where
      node_named : form_at within false from line node_line ≡ entries_form within line (behind w) (λ es. just (node (name_at line w) es))
      unfolding node_line on_piece
      node_named = name_form within line from _ ∙ rw (sym e.is ∙ h)

      pub node_spoilt : a ≡ None → form_step_of rule book (form_at within false from line node_line) ≡ fault 3
      node_spoilt n =
          let told = subst (EntriesTold within text line words' c offset declared (behind w)) n done.told in
          step_broken rule book _ (node_named ∙ told (λ es. just (node (name_at line w) es)))

      pub node_step : (known : EntriesRead) → a ≡ Some known → (got : EntriesGot within text line words' c offset declared (behind w) known)
          → form_step_of rule book (form_at within false from line node_line)
          ≡ step_of rule (book_at text words' c) (node (name_at text (moved_part base w)) got.got)
      node_step known n got =
          step_form rule book _ _ (node_named ∙ got.form (λ es. just (node (name_at line w) es)))
          ∙ ap (λ (x : Bytes). step_of rule book (node x got.got))
          (sym (name_moved text line base f.is f.inside w (placed_at line from r h e.placed).inside))
          ∙ ap (λ (b : Book). step_of rule b (node (name_at text (moved_part base w)) got.got))
          (sym (book_kept text words words' c done.agrees.tables f.fits))

  -- (rel LABEL FROM TO (ATTR VALUE)...)
  module _ (r : Option RelNames) (told : NamesTold within line from r) where
    pub rel_broken : r ≡ None → form_step_of rule book (form_at within false from line rel_line) ≡ fault 3
    unfolding rel_line
    rel_broken h = step_broken rule book _ (subst (NamesTold within line from) h told (λ l x y is. and_then (each entry_of is) (λ es. just (rel l x y es))))

    module _ (n : RelNames) (h : r ≡ Some n) where
      rel_got : NamesGot within line from n.label n.from n.to n.end
      rel_got = names_got line from r told n h

      abbrev l : Part
      l = n.label

      abbrev x : Part
      x = n.from

      abbrev y : Part
      y = n.to

      module _ (words' : List ℕ) (offset declared : ℕ) (a : Option EntriesRead) (done : EntriesDone within text line words words' c offset declared n.end a) where
        rel_named : form_at within false from line rel_line ≡ entries_form within line n.end (λ es. just (rel (name_at line l) (name_at line x) (name_at line y) es))
        unfolding rel_line
        rel_named = rel_got.form (λ l x y is. and_then (each entry_of is) (λ es. just (rel l x y es)))

        pub rel_spoilt : a ≡ None → form_step_of rule book (form_at within false from line rel_line) ≡ fault 3
        rel_spoilt s =
            let broken = subst (EntriesTold within text line words' c offset declared n.end) s done.told in
            step_broken rule book _ (rel_named ∙ broken (λ es. just (rel (name_at line l) (name_at line x) (name_at line y) es)))

        pub rel_step : (known : EntriesRead) → a ≡ Some known → (got : EntriesGot within text line words' c offset declared n.end known)
            → form_step_of rule book (form_at within false from line rel_line)
            ≡ step_of rule (book_at text words' c) (rel (name_at text (moved_part base l)) (name_at text (moved_part base x)) (name_at text (moved_part base y))
            got.got)
        rel_step known s got =
            step_form rule book _ _ (rel_named ∙ got.form (λ es. just (rel (name_at line l) (name_at line x) (name_at line y) es)))
            ∙ (λ t. step_of rule book (rel (sym (name_moved text line base f.is f.inside l rel_got.label.inside) t)
            (sym (name_moved text line base f.is f.inside x rel_got.start.inside) t)
            (sym (name_moved text line base f.is f.inside y rel_got.end.inside) t) got.got))
            ∙ ap (λ (b : Book). step_of rule b (rel (name_at text (moved_part base l)) (name_at text (moved_part base x)) (name_at text (moved_part base y))
            got.got))
            (sym (book_kept text words words' c done.agrees.tables f.fits))

-- the entries that were read
pub entries_got : {within : Form} (text line : Bytes) (words words' : List ℕ) (c : BookCounts) (offset declared from : ℕ) (a : Option EntriesRead)
    (known : EntriesRead) → EntriesDone within text line words words' c offset declared from a → a ≡ Some known
    → EntriesGot within text line words' c offset declared from known
entries_got {within} text line words words' c offset declared from a known done e =
    subst (EntriesTold within text line words' c offset declared from) e done.told

-- LABEL FROM TO
module _ (within : Form) (line : Bytes) (from : ℕ) (r : Option Part) (e : NextName within.inner line from r) where
  pub names_first : r ≡ None → NamesTold within line from None
  unfolding on_piece
  names_first h k = name_form within line from _ ∙ rw (sym e.is ∙ h)

  module _ (l : Part) (h : r ≡ Some l) (r₂ : Option Part) (e₂ : NextName within.inner line (behind l) r₂) where
    pub names_second : r₂ ≡ None → NamesTold within line from None
    unfolding on_piece
    names_second h₂ k = name_form within line from _ ∙ rw (sym e.is ∙ h) (name_form within line (behind l) _ ∙ rw (sym e₂.is ∙ h₂))

    module _ (x : Part) (h₂ : r₂ ≡ Some x) (r₃ : Option Part) (e₃ : NextName within.inner line (behind x) r₃) where
      pub names_third : r₃ ≡ None → NamesTold within line from None
      unfolding on_piece
      names_third h₃ k = name_form within line from _
          ∙ rw (sym e.is ∙ h) (name_form within line (behind l) _ ∙ rw (sym e₂.is ∙ h₂) (name_form within line (behind x) _ ∙ rw (sym e₃.is ∙ h₃)))

      pub names_all : (y : Part) → r₃ ≡ Some y → NamesGot within line from l x y (behind y)
      unfolding on_piece
      names_all y h₃ =
          let u = placed_at line (behind x) r₃ h₃ e₃.placed in
          record {
            form = λ k. name_form within line from _ ∙ rw (sym e.is ∙ h)
                (name_form within line (behind l) _ ∙ rw (sym e₂.is ∙ h₂) (name_form within line (behind x) _ ∙ rw (sym e₃.is ∙ h₃)));
            label = placed_at line from r h e.placed;
            start = placed_at line (behind l) r₂ h₂ e₂.placed;
            end = u;
            inside = u.inside;
          }
