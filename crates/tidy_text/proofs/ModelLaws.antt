-- The pieces are the tidy text that the model gives for the book. Assumes nothing.
use Prim.Native.Nat.{ℕ, ◌+◌, ◌-◌, ◌<◌}
use mathlib.Core.Path.{◌≡◌, refl, sym, ap, ◌∙◌}
use mathlib.Core.List.{List, [], ◌∷◌, ◌++◌, map, append_assoc, append-nil}
use native.Mathlib.Omega.{arith}
use lib.ListN.{get_or}
use Rattle.model.specs.Bytes.{Bytes, bytes_of}
use Rattle.model.specs.Choice.{Maybe, nothing, just}
use Rattle.model.specs.Lists.{joined}
use Rattle.model.specs.Book.{Attr, Node as NodeData, Rel, node_names}
use Rattle.model.specs.BookLines.{label, BookLine, vattr, eattr}
use Rattle.model.specs.Graph.{value_in}
use Rattle.model.specs.Writing.{each_behind, join_by, value_text}
use Rattle.model.specs.Tidy.{kind_text, list_text, entry_text, item_texts, line_text, entry_if, in_order, tidy_node, tidy_rel, tidied}
use Rattle.model.specs.Tidy.{attr_line_of, node_line_of, rel_line_of, lines_by_kind, tidy_text}
use Rattle.model.proofs.Places.{map_append, joined_append}
use Rattle.book_tables.specs.declared.BookCounts.{BookCounts}
use Rattle.book_tables.specs.declared.Owner.TheVariants.{Node, Relationship}
use Rattle.book_tables.specs.Layout as layout
use Rattle.book_tables.specs.Listed.{listed}
use Rattle.book_tables.specs.Owners.{tables_of}
use Rattle.book_tables.specs.View.{word_at, name_of, names_at, kind_in, attr_of, attrs_at, entries_in, start_part, count_part, node_of, rel_of, rel_word, book_at}
use Rattle.book_tables.specs.View.{label_part, from_part, to_part}
use Rattle.book_tables.specs.Fits.{NamesFit, EntriesFit, Fits}
use Rattle.book_tables.proofs.ListedLaws.{map_listed}
use Rattle.book_lookup.specs.Entries.{seek, entry_value, maybe_value}
use Rattle.book_lookup.proofs.FoundLaws.{seek_value, node_named}
use Rattle.entry_order.specs.Slots.{slot_of}
use Rattle.tidy_text.specs.Pieces.{texts_below, type_piece, attr_piece, attrs_text, label_piece, labels_text, entry_piece, slot_piece, slot_in}
use Rattle.tidy_text.specs.Pieces.{entries_text, relationship_piece, head_piece, owner_piece, owners_text, book_text}
use Rattle.tidy_text.proofs.TextLaws.{texts_same, texts_listed}
use Rattle.tidy_text.proofs.PieceLaws.{empty_slot, full_slot}

-- Texts, each behind a text, in two parts; and joined from lists.
each_apart : (sep : Bytes) (ts us : List Bytes) → each_behind sep (ts ++ us) ≡ each_behind sep ts ++ each_behind sep us
unfolding each_behind
each_apart sep [] us = refl
each_apart sep (t ∷ ts) us = ap (λ r. sep ++ t ++ r) (each_apart sep ts us) ∙ sym (append_assoc (sep ++ t) (each_behind sep ts) (each_behind sep us))

each_joined : {A B : Type 0} (sep : Bytes) (f : B → Bytes) (g : A → List B) (xs : List A)
    → each_behind sep (map f (joined g xs)) ≡ joined (λ x. each_behind sep (map f (g x))) xs
unfolding joined
each_joined sep f g [] = unfold each_behind in refl
each_joined sep f g (x ∷ xs) =
    ap (each_behind sep) (map_append f (g x) (joined g xs)) ∙ each_apart sep (map f (g x)) (map f (joined g xs))
    ∙ ap (λ r. each_behind sep (map f (g x)) ++ r) (each_joined sep f g xs)

-- A line by its first item and the items behind it.
line_text_law : (first : Bytes) (ts : List Bytes) → list_text (first ∷ ts) ++ bytes_of "\n" ≡ bytes_of "(" ++ first ++ each_behind (bytes_of " ") ts ++ bytes_of ")\n"
unfolding list_text join_by
line_text_law first ts = append_assoc (bytes_of "(" ++ (first ++ each_behind (bytes_of " ") ts)) (bytes_of ")") (bytes_of "\n")

-- Items behind spaces: a name, a name and its type, a label and two names, an entry.
one_behind : (name : Bytes) → each_behind (bytes_of " ") (name ∷ []) ≡ bytes_of " " ++ name
unfolding each_behind
one_behind name = append-nil (bytes_of " " ++ name)

type_behind : (name type end : Bytes) → each_behind (bytes_of " ") (name ∷ type ∷ []) ++ end ≡ bytes_of " " ++ name ++ (bytes_of " " ++ type ++ end)
unfolding each_behind
type_behind name type end =
    append_assoc (bytes_of " " ++ name) (bytes_of " " ++ type ++ []) end ∙ ap (λ t. bytes_of " " ++ name ++ (t ++ end)) (append-nil (bytes_of " " ++ type))

spaced : (a b c : Bytes) → a ++ (bytes_of " " ++ b ++ c) ≡ a ++ bytes_of " " ++ b ++ c
spaced a b c = sym (append_assoc a (bytes_of " " ++ b) c) ∙ ap (λ t. t ++ c) (sym (append_assoc a (bytes_of " ") b))

ends_behind : (kind from to : Bytes) (ts : List Bytes) → each_behind (bytes_of " ") (kind ∷ from ∷ to ∷ ts)
    ≡ bytes_of " " ++ kind ++ bytes_of " " ++ from ++ bytes_of " " ++ to ++ each_behind (bytes_of " ") ts
unfolding each_behind
ends_behind kind from to ts =
    spaced (bytes_of " " ++ kind) from (bytes_of " " ++ to ++ each_behind (bytes_of " ") ts)
    ∙ spaced (bytes_of " " ++ kind ++ bytes_of " " ++ from) to (each_behind (bytes_of " ") ts)

entry_behind : (name value : Bytes) → each_behind (bytes_of " ") (list_text (name ∷ value ∷ []) ∷ [])
    ≡ bytes_of " (" ++ name ++ bytes_of " " ++ value ++ bytes_of ")"
unfolding list_text join_by each_behind
entry_behind name value = simp append_assoc

-- Lines one after another.
lines_then : (a b : List BookLine) {t u : Bytes} → joined line_text a ≡ t → joined line_text b ≡ u → joined line_text (a ++ b) ≡ t ++ u
lines_then a b p q = rw (joined_append line_text a b, p, q)

-- The lines of things by number are their texts by number.
lines_listed : {A : Type 0} (line : A → BookLine) (f : ℕ → A) (n : ℕ) → joined line_text (map line (listed f n)) ≡ texts_below (λ i. line_text (line (f i))) n
lines_listed line f n = ap (joined line_text) (map_listed line f n) ∙ texts_listed line_text (λ i. line (f i)) n

-- The nodes keep their names.
names_kept : (ds : List Attr) (ns : List NodeData) → map (λ n. n.name) (map (tidy_node ds) ns) ≡ map (λ n. n.name) ns
unfolding tidy_node
names_kept ds [] = refl
names_kept ds (n ∷ ns) = ap (λ r. n.name ∷ r) (names_kept ds ns)

module _ (text : Bytes) (words : List ℕ) where
  -- the lines that declare
  vattr_line : (offset i : ℕ) → line_text (attr_line_of vattr (attr_of text words offset i)) ≡ attr_piece text words (bytes_of "(vattr ") offset i
  unfolding line_text attr_line_of item_texts attr_of attr_piece type_piece
  vattr_line offset i =
      let type : Bytes = kind_text (kind_in (word_at words (offset + layout.types_behind + i))) in
      line_text_law (bytes_of "vattr") (name_of text words offset i ∷ type ∷ [])
      ∙ ap (λ t. bytes_of "(vattr" ++ t) (type_behind (name_of text words offset i) type (bytes_of ")\n"))

  eattr_line : (offset i : ℕ) → line_text (attr_line_of eattr (attr_of text words offset i)) ≡ attr_piece text words (bytes_of "(eattr ") offset i
  unfolding line_text attr_line_of item_texts attr_of attr_piece type_piece
  eattr_line offset i =
      let type : Bytes = kind_text (kind_in (word_at words (offset + layout.types_behind + i))) in
      line_text_law (bytes_of "eattr") (name_of text words offset i ∷ type ∷ [])
      ∙ ap (λ t. bytes_of "(eattr" ++ t) (type_behind (name_of text words offset i) type (bytes_of ")\n"))

  label_line_law : (i : ℕ) → line_text (label (name_of text words layout.label_names i)) ≡ label_piece text words i
  unfolding line_text item_texts label_piece
  label_line_law i =
      line_text_law (bytes_of "label") (name_of text words layout.label_names i ∷ [])
      ∙ ap (λ t. bytes_of "(label" ++ t ++ bytes_of ")\n") (one_behind (name_of text words layout.label_names i))

  -- an attribute's entry, by what is found of it
  found_piece : (offset a : ℕ) (m : Maybe ℕ)
      → each_behind (bytes_of " ") (map entry_text (entry_if (name_of text words offset a) (maybe_value text words m))) ≡ slot_piece text words offset a (slot_of m)
  unfolding each_behind entry_text entry_if maybe_value entry_piece slot_of
  found_piece offset a nothing = empty_slot text words offset a 0 refl
  found_piece offset a (just k) =
      let e : k ≡ k + 1 - 1 = omega arith in
      entry_behind (name_of text words offset a) (value_text (entry_value text words k))
      ∙ ap (entry_piece text words offset a) e ∙ full_slot text words offset a (k + 1) (λ z. omega arith)

  -- the entries that an owner's word says, in order
  entries_same : (offset declared all w : ℕ) → NamesFit text words offset declared → EntriesFit text words declared all w
      → each_behind (bytes_of " ") (map entry_text (in_order (attrs_at text words offset declared) (entries_in text words offset w)))
      ≡ entries_text text words offset w declared
  unfolding in_order attrs_at attr_of entries_in entries_text slot_in
  entries_same offset declared all w names fit =
      each_joined (bytes_of " ") entry_text (λ d. entry_if d.name (value_in (entries_in text words offset w) d.name)) (attrs_at text words offset declared)
      ∙ texts_listed (λ d. each_behind (bytes_of " ") (map entry_text (entry_if d.name (value_in (entries_in text words offset w) d.name))))
      (attr_of text words offset) declared
      ∙ texts_same _ _ declared (λ a l.
      ap (λ v. each_behind (bytes_of " ") (map entry_text (entry_if (name_of text words offset a) v)))
      (sym (seek_value text words offset declared names a l (count_part w) (start_part w) (λ i m. (fit.each i m).attribute)))
      ∙ found_piece offset a (seek words a (start_part w) (count_part w)))

  module _ (c : BookCounts) (fits : Fits text words c) where
    -- the line of a node
    node_line_law : (i : ℕ) → i < c.nodes
        → line_text (node_line_of (tidy_node (attrs_at text words layout.vattr_names c.vattrs) (node_of text words i)))
        ≡ owner_piece text words Node (tables_of Node c) i
    unfolding line_text node_line_of tidy_node item_texts each_behind node_of owner_piece head_piece
    node_line_law i l =
        let es : List Bytes = map entry_text (in_order (attrs_at text words layout.vattr_names c.vattrs) (node_of text words i).entries) in
        line_text_law (bytes_of "node") (name_of text words layout.node_names i ∷ es)
        ∙ ap (λ t. bytes_of "(node " ++ name_of text words layout.node_names i ++ t ++ bytes_of ")\n")
        (entries_same layout.vattr_names c.vattrs c.entries (word_at words (layout.node_entries + i)) fits.vattrs (fits.of_nodes i l))

    -- the name of a node of the tidied book, by its number
    node_name : (i : ℕ) → i < c.nodes → get_or (node_names (tidied (book_at text words c))) i [] ≡ name_of text words layout.node_names i
    unfolding node_names tidied
    node_name i l = ap (λ ns. get_or ns i []) (names_kept (book_at text words c).vattrs (book_at text words c).nodes) ∙ node_named text words c i l

    -- the line of a relationship
    relationship_line : (i : ℕ) → i < c.relationships
        → line_text (rel_line_of (node_names (tidied (book_at text words c))) (tidy_rel (attrs_at text words layout.eattr_names c.eattrs) (rel_of text words i)))
        ≡ owner_piece text words Relationship (tables_of Relationship c) i
    unfolding line_text rel_line_of tidy_rel item_texts rel_of owner_piece head_piece relationship_piece
    relationship_line i l =
        let w : ℕ = rel_word words i in
        let es : List Bytes = map entry_text (in_order (attrs_at text words layout.eattr_names c.eattrs) (rel_of text words i).entries) in
        let names : List Bytes = node_names (tidied (book_at text words c)) in
        let e = entries_same layout.eattr_names c.eattrs c.entries (word_at words (layout.relationship_entries + i)) fits.eattrs (fits.of_rels i l) in
        let from = node_name (from_part w) (fits.rels i l).from in
        let to = node_name (to_part w) (fits.rels i l).to in
        line_text_law (bytes_of "rel") (name_of text words layout.label_names (label_part w) ∷ get_or names (from_part w) [] ∷ get_or names (to_part w) [] ∷ es)
        ∙ ap (λ t. bytes_of "(rel" ++ t ++ bytes_of ")\n")
        (ends_behind (name_of text words layout.label_names (label_part w)) (get_or names (from_part w) []) (get_or names (to_part w) []) es)
        ∙ rw (from, to, e)

    -- the lines of each kind
    vattrs_same : joined line_text (map (attr_line_of vattr) (tidied (book_at text words c)).vattrs)
        ≡ attrs_text text words (bytes_of "(vattr ") layout.vattr_names c.vattrs
    unfolding tidied book_at attrs_at attrs_text
    vattrs_same =
        lines_listed (attr_line_of vattr) (attr_of text words layout.vattr_names) c.vattrs
        ∙ texts_same _ _ c.vattrs (λ i l. vattr_line layout.vattr_names i)

    eattrs_same : joined line_text (map (attr_line_of eattr) (tidied (book_at text words c)).eattrs)
        ≡ attrs_text text words (bytes_of "(eattr ") layout.eattr_names c.eattrs
    unfolding tidied book_at attrs_at attrs_text
    eattrs_same =
        lines_listed (attr_line_of eattr) (attr_of text words layout.eattr_names) c.eattrs
        ∙ texts_same _ _ c.eattrs (λ i l. eattr_line layout.eattr_names i)

    labels_same : joined line_text (map label (tidied (book_at text words c)).labels) ≡ labels_text text words c.labels
    unfolding tidied book_at names_at labels_text
    labels_same = lines_listed label (name_of text words layout.label_names) c.labels ∙ texts_same _ _ c.labels (λ i l. label_line_law i)

    nodes_same : joined line_text (map node_line_of (tidied (book_at text words c)).nodes) ≡ owners_text text words Node (tables_of Node c) c.nodes
    unfolding tidied book_at owners_text
    nodes_same =
        let tidy : NodeData → NodeData = tidy_node (attrs_at text words layout.vattr_names c.vattrs) in
        ap (λ ns. joined line_text (map node_line_of ns)) (map_listed tidy (node_of text words) c.nodes)
        ∙ lines_listed node_line_of (λ i. tidy (node_of text words i)) c.nodes ∙ texts_same _ _ c.nodes node_line_law

    relationships_same : joined line_text (map (rel_line_of (node_names (tidied (book_at text words c)))) (tidied (book_at text words c)).rels)
        ≡ owners_text text words Relationship (tables_of Relationship c) c.relationships
    unfolding tidied book_at owners_text
    relationships_same =
        let tidy : Rel → Rel = tidy_rel (attrs_at text words layout.eattr_names c.eattrs) in
        let names : List Bytes = node_names (tidied (book_at text words c)) in
        ap (λ rs. joined line_text (map (rel_line_of names) rs)) (map_listed tidy (rel_of text words) c.relationships)
        ∙ lines_listed (rel_line_of names) (λ i. tidy (rel_of text words i)) c.relationships ∙ texts_same _ _ c.relationships relationship_line

    -- the whole text is the model's
    pub book_text_law : book_text text words c ≡ tidy_text (book_at text words c)
    unfolding book_text tidy_text lines_by_kind
    book_text_law =
        sym (lines_then _ _ (lines_then _ _ (lines_then _ _ (lines_then _ _ vattrs_same eattrs_same) labels_same) nodes_same) relationships_same)
