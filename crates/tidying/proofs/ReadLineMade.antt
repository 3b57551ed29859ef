-- A line of allowed bytes that is read as a line of a book can be written: its names are names, its values can be written.
use mathlib.Core.Path.{◌≡◌, subst}
use mathlib.Core.Logic.{⊎_elim}
use mathlib.Core.List.{List, [], ◌∷◌}
use mathlib.Core.Bool.{Bool}
use Rattle.model.specs.Bytes.{bytes_of, same}
use Rattle.model.specs.Choice.{pick, nothing, just, and_then}
use Rattle.model.specs.Lists.{each}
use Rattle.model.specs.Names.{Name}
use Rattle.model.specs.Items.{Item, items_of}
use Rattle.model.specs.Lines.{Line}
use Rattle.model.specs.Values.{Kind, Entry}
use Rattle.model.specs.Forms.{as_word, as_name, as_value, kind_of, entry_of, form_of}
use Rattle.model.specs.BookLines.{label, BookLine, vattr, eattr, node, rel, attr_line, label_line, node_line, rel_line, book_line}
use Rattle.model.specs.Graph.{Each}
use Rattle.model.proofs.Outcomes.{no_just, then_e, pick_e}
use Rattle.model.proofs.AllowedBytes.{Allowed}
use Rattle.model.proofs.LineItems.{FitItem, FitAll, items_of_fits, form_fits, first_e, at_end_e_law, item_name, item_value}
use Rattle.model.proofs.WrittenConditions.{IsName}
use Rattle.tidying.proofs.Made.{EntryMade, LineMade}

-- an entry
entry_made : (i : Item) (e : Entry) → FitItem i → entry_of i ≡ just e → EntryMade e
unfolding entry_of
entry_made i e h d =
    let r = then_e (items_of i) _ e d in
    let a = first_e as_name r.0 _ e (items_of_fits i r.0 h r.1) r.2 in
    let v = first_e as_value a.1 _ e a.4 a.6 in
    subst EntryMade (at_end_e_law v.1 (record { attr = a.2; value = v.2 }) e v.6)
    (item_name a.0 a.2 a.3 a.5, item_value v.0 v.2 v.3 v.5)

-- entries
entries_made : (is : List Item) (es : List Entry) → FitAll is → each entry_of is ≡ just es → Each EntryMade es
unfolding each
entries_made [] es h d = let c : ◌≡◌ {A = List Entry} [] es = cc in subst (Each EntryMade) c tt
entries_made (i ∷ is) es h d =
    let e = then_e (entry_of i) _ es d in
    let r = then_e (each entry_of is) _ es e.2 in
    let f : just (e.0 ∷ r.0) ≡ just es = r.2 in
    let c : e.0 ∷ r.0 ≡ es = cc in
    subst (Each EntryMade) c (entry_made i e.0 h.0 e.1, entries_made is r.0 h.1 r.1)

-- a line that declares an attribute, by its kind of line
attr_line_made : (make : Name → Kind → BookLine) → ((n : Name) (k : Kind) → IsName n → LineMade (make n k))
    → (is : List Item) (x : BookLine) → FitAll is → attr_line make is ≡ just x → LineMade x
unfolding attr_line
attr_line_made make made is x h e =
    let n = first_e as_name is _ x h e in
    let k = first_e (λ i. and_then (as_word i) kind_of) n.1 _ x n.4 n.6 in
    subst LineMade (at_end_e_law k.1 (make n.2 k.2) x k.6) (made n.2 k.2 (item_name n.0 n.2 n.3 n.5))

-- a line that declares a label
label_line_made : (is : List Item) (x : BookLine) → FitAll is → label_line is ≡ just x → LineMade x
unfolding label_line
label_line_made is x h e =
    let n = first_e as_name is _ x h e in
    subst LineMade (at_end_e_law n.1 (label n.2) x n.6) (item_name n.0 n.2 n.3 n.5)

-- the line of a node
node_line_made : (is : List Item) (x : BookLine) → FitAll is → node_line is ≡ just x → LineMade x
unfolding node_line
node_line_made is x h e =
    let n = first_e as_name is _ x h e in
    let r = then_e (each entry_of n.1) _ x n.6 in
    let f : just (node n.2 r.0) ≡ just x = r.2 in
    let c : node n.2 r.0 ≡ x = cc in
    subst LineMade c (item_name n.0 n.2 n.3 n.5, entries_made n.1 r.0 n.4 r.1)

-- the line of a relationship
rel_line_made : (is : List Item) (x : BookLine) → FitAll is → rel_line is ≡ just x → LineMade x
unfolding rel_line
rel_line_made is x h e =
    let l = first_e as_name is _ x h e in
    let m = first_e as_name l.1 _ x l.4 l.6 in
    let n = first_e as_name m.1 _ x m.4 m.6 in
    let r = then_e (each entry_of n.1) _ x n.6 in
    let f : just (rel l.2 m.2 n.2 r.0) ≡ just x = r.2 in
    let c : rel l.2 m.2 n.2 r.0 ≡ x = cc in
    subst LineMade c (
      item_name l.0 l.2 l.3 l.5,
      item_name m.0 m.2 m.3 m.5,
      item_name n.0 n.2 n.3 n.5,
      entries_made n.1 r.0 n.4 r.1,
    )

-- a line of allowed bytes
pub line_made : (l : Line) (x : BookLine) → Allowed l.bytes → and_then (form_of l) book_line ≡ just x → LineMade x
unfolding book_line
line_made l x a e =
    let r = then_e (form_of l) book_line x e in
    let w = first_e as_word r.0 _ x (form_fits l r.0 a r.1) r.2 in
    go w.1 w.4 (same w.2 (bytes_of "vattr")) (same w.2 (bytes_of "eattr")) (same w.2 (bytes_of "label"))
    (same w.2 (bytes_of "node")) (same w.2 (bytes_of "rel")) w.6
  where
    go : (is : List Item) → FitAll is → (v e l n r : Bool)
        → pick v (attr_line vattr is) (pick e (attr_line eattr is) (pick l (label_line is) (pick n (node_line is) (pick r (rel_line is) nothing)))) ≡ just x
        → LineMade x
    go is h v e l n r d = ⊎_elim
        (attr_line_made vattr (λ n k m. m) is x h)
        (λ d. ⊎_elim (attr_line_made eattr (λ n k m. m) is x h)
        (λ d. ⊎_elim (label_line_made is x h)
        (λ d. ⊎_elim (node_line_made is x h)
        (λ d. ⊎_elim (rel_line_made is x h) (λ d. no_just x d)
        (pick_e r _ nothing x d)) (pick_e n _ _ x d)) (pick_e l _ _ x d)) (pick_e e _ _ x d)) (pick_e v _ _ x d)
