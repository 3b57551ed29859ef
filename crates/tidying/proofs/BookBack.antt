-- The lines of a book, by kind, read back as that book.
use Prim.Native.Nat.{ℕ, ◌+◌, ◌<◌}
use mathlib.Core.Path.{◌≡◌, refl, sym, ap, ap₂, subst, ◌∙◌}
use mathlib.Core.List.{List, [], ◌∷◌, ◌++◌, map, append_assoc, append-nil}
use native.Mathlib.Omega.{arith}
use lib.ListN.{length, get_or}
use Rattle.model.specs.Choice.{nothing, just, and_then}
use Rattle.model.specs.Names.{Name, same_but_case}
use Rattle.model.specs.Refusal.{accepted}
use Rattle.model.specs.Lines.{fault_or, form_step, step_then, read_lines}
use Rattle.model.specs.Values.{Entry}
use Rattle.model.specs.Forms.{form_of}
use Rattle.model.specs.Book.{Attr, Node, Book, empty_book, attr_names, node_names}
use Rattle.model.specs.BookLines.{label, BookLine, vattr, eattr, book_line}
use Rattle.model.specs.ReadBook.{suits, line_fault, add_line, book_step}
use Rattle.model.specs.Graph.{Each}
use Rattle.model.specs.Tidy.{attr_line_of, node_line_of, rel_line_of, lines_by_kind}
use Rattle.model.proofs.WrittenConditions.{IsName, WritableValue}
use Rattle.model.proofs.Members.{◌∈◌, each_e, each_i, all_e, map_i, mem_e}
use Rattle.model.proofs.Places.{get_or_in}
use Rattle.renaming.proofs.AcceptedBook.{names_length}
use Rattle.tidying.proofs.Made.{NamesMade, EntriesMade, RelMade, Made, EntryMade, LineMade, written}
use Rattle.tidying.proofs.Apart.{suited_name}
use Rattle.tidying.proofs.Faultless.{parts, with_nodes, with_rels, name_faultless, attr_faultless, next_in, node_faultless, end_place, rel_faultless}

-- a written line reads as the line
abbrev pub Back : Type 0
Back = (l : BookLine) → LineMade l → and_then (form_of (written l)) book_line ≡ just l

-- lines lead from one book to another: each can be written and has no fault behind those before it, and the last gives the other
abbrev Lead : Book → List BookLine → Book → Type 0
Lead b [] c = b ≡ c
Lead b (l ∷ ls) c = LineMade l × (line_fault same_but_case b l ≡ nothing) × Lead (add_line b l) ls c

-- so all can be written
lead_made : (b : Book) (ls : List BookLine) (c : Book) → Lead b ls c → Each LineMade ls
lead_made b [] c p = tt
lead_made b (l ∷ ls) c p = (p.0, lead_made (add_line b l) ls c p.2)

-- and reading them as they are written gives the other
lead_read : Back → (n : ℕ) (b : Book) (ls : List BookLine) (c : Book) → Lead b ls c → read_lines 1 (book_step same_but_case) n b (map written ls) ≡ accepted c
unfolding read_lines step_then book_step form_step fault_or
lead_read back n b [] c p = ap accepted p
lead_read back n b (l ∷ ls) c p = rw (back l p.0, p.1) (lead_read back (n + 1) (add_line b l) ls c p.2)

-- lines, and then more
lead_on : (b : Book) (ls : List BookLine) (c : Book) (ks : List BookLine) (d : Book) → Lead b ls c → Lead c ks d → Lead b (ls ++ ks) d
lead_on b [] c ks d p q = subst (λ z. Lead z ks d) (sym p) q
lead_on b (l ∷ ls) c ks d p q = (p.0, p.1, lead_on (add_line b l) ls c ks d p.2 q)

-- the lines of one kind, by the book with some of them
module _ {A : Type 0} (book_with : List A → Book) (line_of : A → BookLine) (whole : List A) where
  -- the next of them leads from the book with those before it to the book with it too
  abbrev Next : List A → A → Type 0
  Next done x = LineMade (line_of x) × (line_fault same_but_case (book_with done) (line_of x) ≡ nothing)
      × (add_line (book_with done) (line_of x) ≡ book_with (done ++ (x ∷ [])))

  -- then they lead from the book with the first of them to the book with all
  lead_kind : ((done : List A) (x : A) (todo : List A) → done ++ (x ∷ todo) ≡ whole → Next done x)
      → (done todo : List A) → done ++ todo ≡ whole → Lead (book_with done) (map line_of todo) (book_with whole)
  lead_kind h done [] e = ap book_with (sym (append-nil done) ∙ e)
  lead_kind h done (x ∷ todo) e =
      let (m, f, a) = h done x todo e in
      let behind = lead_kind h (done ++ (x ∷ [])) todo (append_assoc done (x ∷ []) todo ∙ e) in
      (m, f, subst (λ z. Lead z (map line_of todo) (book_with whole)) (sym a) behind)

-- a declared attribute has a name
attr_name : (ds : List Attr) → NamesMade (attr_names ds) → (d : Attr) → d ∈ ds → IsName d.name
unfolding attr_names
attr_name ds h d m = each_e IsName (attr_names ds) h.each d.name (map_i (λ (z : Attr). z.name) ds d m)

-- entries of declared attributes can be written
entries_made : (ds : List Attr) (es : List Entry) → NamesMade (attr_names ds) → EntriesMade ds es → Each EntryMade es
entries_made ds es n h = each_i EntryMade es (λ e m. (
  each_e IsName (attr_names ds) n.each e.attr (suited_name ds e (all_e (suits ds) es (rw h.suited tt) e m)),
  each_e (λ (z : Entry). WritableValue z.value) es h.values e m,
))

-- vattr lines
lead_vattrs : (vs : List Attr) → NamesMade (attr_names vs) → Lead empty_book (map (attr_line_of vattr) vs) (parts vs [] [] [] [])
unfolding empty_book line_fault add_line attr_line_of
lead_vattrs vs h = lead_kind (λ done. parts done [] [] [] []) (attr_line_of vattr) vs
    (λ done d todo e. (attr_name vs h d (next_in done d todo vs e), attr_faultless done d todo vs e h, refl)) [] vs refl

-- eattr lines
lead_eattrs : (vs es : List Attr) → NamesMade (attr_names es) → Lead (parts vs [] [] [] []) (map (attr_line_of eattr) es) (parts vs es [] [] [])
unfolding line_fault add_line attr_line_of
lead_eattrs vs es h = lead_kind (λ done. parts vs done [] [] []) (attr_line_of eattr) es
    (λ done d todo e. (attr_name es h d (next_in done d todo es e), attr_faultless done d todo es e h, refl)) [] es refl

-- label lines
lead_labels : (vs es : List Attr) (ls : List Name) → NamesMade ls → Lead (parts vs es [] [] []) (map label ls) (parts vs es ls [] [])
unfolding line_fault add_line
lead_labels vs es ls h = lead_kind (λ done. parts vs es done [] []) label ls
    (λ done n todo e. (each_e IsName ls h.each n (next_in done n todo ls e), name_faultless done n todo (subst NamesMade (sym e) h), refl)) [] ls refl

-- of a book that can be written
module _ (c : Book) (h : Made c) where
  -- its node lines
  lead_nodes : Lead (with_nodes c []) (map node_line_of c.nodes) (with_nodes c c.nodes)
  unfolding add_line node_line_of node_names
  lead_nodes = lead_kind (with_nodes c) node_line_of c.nodes
      (λ done n todo e.
      let m = next_in done n todo c.nodes e in
      let named = each_e IsName (node_names c) h.names n.name (map_i (λ (z : Node). z.name) c.nodes n m) in
      let entries = each_e (λ (z : Node). EntriesMade c.vattrs z.entries) c.nodes h.of_nodes n m in
      ((named, entries_made c.vattrs n.entries h.vattrs entries), node_faultless c h done n todo e, refl))
      [] c.nodes refl

  -- its rel lines
  lead_rels : Lead (with_rels c []) (map (rel_line_of (node_names c)) c.rels) (with_rels c c.rels)
  unfolding add_line rel_line_of node_names
  lead_rels = lead_kind (with_rels c) (rel_line_of (node_names c)) c.rels
      (λ done r todo e.
      let made = each_e (RelMade c) c.rels h.rels r (next_in done r todo c.rels e) in
      let labelled = each_e IsName c.labels h.labels.each r.label (mem_e r.label c.labels (rw made.label tt)) in
      let named : (i : ℕ) → i < length c.nodes → IsName (get_or (node_names c) i []) =
      λ i l. each_e IsName (node_names c) h.names _ (get_or_in (node_names c) i [] (omega (arith, names_length c))) in
      let entries = entries_made c.eattrs r.entries h.eattrs made.entries in
      let gives = ap₂ (λ (i j : ℕ). with_rels c (done ++ (record { label = r.label; from = i; to = j; entries = r.entries } ∷ [])))
      (end_place c h r.from made.from) (end_place c h r.to made.to) in
      ((labelled, named r.from made.from, named r.to made.to, entries), rel_faultless c h done r todo e, gives))
      [] c.rels refl

  -- its lines by kind
  lead_book : Lead empty_book (lines_by_kind c) c
  unfolding lines_by_kind
  lead_book =
      let vs = map (attr_line_of vattr) c.vattrs in
      let es = map (attr_line_of eattr) c.eattrs in
      let ls = map label c.labels in
      let ns = map node_line_of c.nodes in
      let rs = map (rel_line_of (node_names c)) c.rels in
      let with-vattrs = parts c.vattrs [] [] [] [] in
      let with-eattrs = parts c.vattrs c.eattrs [] [] [] in
      let to-eattrs = lead_on empty_book vs with-vattrs es with-eattrs (lead_vattrs c.vattrs h.vattrs)
      (lead_eattrs c.vattrs c.eattrs h.eattrs) in
      let to-labels = lead_on empty_book (vs ++ es) with-eattrs ls (with_nodes c []) to-eattrs (lead_labels c.vattrs c.eattrs c.labels h.labels) in
      let to-nodes = lead_on empty_book (vs ++ es ++ ls) (with_nodes c []) ns (with_rels c []) to-labels lead_nodes in
      lead_on empty_book (vs ++ es ++ ls ++ ns) (with_rels c []) rs c to-nodes lead_rels

-- the lines of a book can be written
pub book_lines_made : (c : Book) → Made c → Each LineMade (lines_by_kind c)
book_lines_made c h = lead_made empty_book (lines_by_kind c) c (lead_book c h)

-- reading the lines of a book, by kind, gives that book
pub book_back : Back → (c : Book) → Made c → read_lines 1 (book_step same_but_case) 1 empty_book (map written (lines_by_kind c)) ≡ accepted c
book_back back c h = lead_read back 1 empty_book (lines_by_kind c) c (lead_book c h)
