-- What a look-up finds by number is what the book's definitions find by name.
use Prim.Native.Nat.{ℕ, zero, suc, ◌+◌, ◌/◌, ◌≤◌, ◌<◌}
use mathlib.Core.Path.{◌≡◌, refl, sym, ap, ◌∙◌}
use mathlib.Core.Bool.{Bool, true, false}
use mathlib.Core.List.{List, [], ◌∷◌, ◌++◌}
use native.Mathlib.Omega.{arith}
use lib.ListN.{get_or}
use lib.Dec.{eqb}
use borrow.Author.Tests.{eq-eqb, ne_eqb}
use Rattle.logic.specs.Tests.{either, equal_or_not}
use Rattle.model.specs.Bytes.{Bytes, same}
use Rattle.model.specs.Choice.{pick, Maybe, nothing, just}
use Rattle.model.specs.Values.{Value, Entry}
use Rattle.model.specs.QueryText.{Relation}
use Rattle.model.specs.Book.{attr_names, node_names}
use Rattle.model.specs.Graph as graph
use Rattle.model.specs.Graph.{value_in, in_relation, meets, looked_at, rel_entries}
use Rattle.book_tables.specs.declared.BookCounts.{BookCounts}
use Rattle.book_tables.specs.declared.Owner.{Owner}
use Rattle.book_tables.specs.declared.Owner.TheVariants.{Node, Relationship}
use Rattle.book_tables.specs.Owners.{tables_of}
use Rattle.book_tables.proofs.OwnerLaws.{owner_attrs, attr_table, owner_fits}
use Rattle.book_tables.specs.Listed.{listed}
use Rattle.book_tables.specs.Layout as layout
use Rattle.book_tables.specs.View.{word_at, name_of, names_at, attrs_at, entry_head, entry_of, entries_from, entries_in, start_part, count_part, node_of, rel_of, book_at}
use Rattle.book_tables.specs.Fits.{NamesFit, EntriesFit, Fits}
use Rattle.book_tables.proofs.ListedLaws.{listed_same, map_listed, get_or_listed}
use Rattle.book_tables.proofs.NameLaws.{equal_same, attr_names_law, node_names_law}
use Rattle.book_lookup.specs.Entries.{seek, looked_for, entry_value, maybe_value, entries_of, owner_value, owner_looked}
use Rattle.book_lookup.specs.Ready.{EntriesReady}
use Rattle.book_lookup.proofs.SeekLaws.{seek_step, seek_within}
use Rattle.book_lookup.proofs.ValueLaws.{not_same}

-- a list of a sequence is its first element and those from 1 on
listed_front : {A : Type 0} (f : ℕ → A) (n : ℕ) → listed f (suc n) ≡ f 0 ∷ listed (λ i. f (suc i)) n
unfolding listed
listed_front f zero = refl
listed_front f (suc n) = ap (λ l. l ++ (f (suc n) ∷ [])) (listed_front f n)

-- entries, the first apart
entries_front : (text : Bytes) (words : List ℕ) (offset start n : ℕ)
    → entries_from text words offset start (suc n) ≡ entry_of text words offset start ∷ entries_from text words offset (start + 1) n
unfolding entries_from
entries_front text words offset start n =
    let entry : ℕ → Entry = entry_of text words offset in
    let first : start + 0 ≡ start = omega arith in
    listed_front (λ i. entry (start + i)) n ∙ ap (λ z. entry z ∷ listed (λ i. entry (start + suc i)) n) first
    ∙ ap (λ l. entry start ∷ l) (listed_same (λ i. entry (start + suc i)) (λ i. entry (start + 1 + i)) n (λ i l. ap entry (omega arith)))

-- the value of what a test picks is picked by the test
value_picked : (text : Bytes) (words : List ℕ) (k : ℕ) (m : Maybe ℕ) (t : Bool)
    → maybe_value text words (pick t (just k) m) ≡ pick t (just (entry_value text words k)) (maybe_value text words m)
unfolding maybe_value
value_picked text words k m true = refl
value_picked text words k m false = refl

-- an attribute's value is the first entry's where that is of the attribute, or else among the others
value_first : (text : Bytes) (words : List ℕ) (offset k : ℕ) (es : List Entry) (name : Bytes)
    → value_in (entry_of text words offset k ∷ es) name
    ≡ pick (same (name_of text words offset (entry_head words k / 4)) name) (just (entry_value text words k)) (value_in es name)
unfolding value_in entry_of entry_value
value_first text words offset k es name = refl

-- of entries, the first apart, one is looked at if it is what is sought, or else one more than of the others
looked_picked : (k n : ℕ) (m : Maybe ℕ) → ((at : ℕ) → m ≡ just at → k + 1 ≤ at) → (t : Bool)
    → looked_for k (suc n) (pick t (just k) m) ≡ pick t 1 (1 + looked_for (k + 1) n m)
unfolding looked_for
looked_picked k n m h true = omega arith
looked_picked k n nothing h false = omega arith
looked_picked k n (just at) h false = let below = h at refl in omega arith

-- what is sought from a place on stands there or behind it
behind : (words : List ℕ) (attribute n start at : ℕ) → seek words attribute start n ≡ just at → start ≤ at
behind words attribute n start at e = let within = seek_within words attribute n start at e in let place : start + within.0 ≡ at = within.2 in omega arith

-- how many are looked at is one where the first entry is of the attribute, or else one more than among the others
looked_first : (text : Bytes) (words : List ℕ) (offset k : ℕ) (es : List Entry) (name : Bytes)
    → looked_at (entry_of text words offset k ∷ es) name ≡ pick (same (name_of text words offset (entry_head words k / 4)) name) 1 (1 + looked_at es name)
unfolding looked_at entry_of
looked_first text words offset k es name = refl

-- the answer of a test by what is sought: at the place where it is found, so many being looked at; or, where it is absent, after all
module _ (text : Bytes) (words : List ℕ) (r : Relation) (v : Value) (start count : ℕ) (m : Maybe ℕ) (met : Bool) (looked : ℕ) where
  pub found_answer : (at : ℕ) → m ≡ just at → at + 1 ≡ start + looked → met ≡ in_relation r (entry_value text words at) v
      → (met ≡ meets (maybe_value text words m) r v) × (looked ≡ looked_for start count m)
  unfolding meets maybe_value looked_for
  found_answer at e place h = rw e (h, omega arith)

  pub absent_answer : m ≡ nothing → met ≡ false → looked ≡ count → (met ≡ meets (maybe_value text words m) r v) × (looked ≡ looked_for start count m)
  unfolding meets maybe_value looked_for
  absent_answer e h all = rw e (h, all)

module _ (text : Bytes) (words : List ℕ) (offset declared : ℕ) (names : NamesFit text words offset declared) where
  -- two declared names are the same bytes exactly if their numbers are equal
  same_name : (i j : ℕ) → i < declared → j < declared → same (name_of text words offset i) (name_of text words offset j) ≡ eqb i j
  same_name i j l m = either (equal_or_not i j)
      (λ e. equal_same (name_of text words offset i) (name_of text words offset j) (ap (name_of text words offset) e) ∙ sym (eq-eqb i j e))
      (λ d. not_same (name_of text words offset i) (name_of text words offset j) (λ e. d.1 (names.differ i j l m e)) ∙ sym (ne_eqb i j d.1))

  module _ (attribute : ℕ) (counted : attribute < declared) where
    -- what is sought by number among entries is the value of the name
    pub seek_value : (n start : ℕ) → ((i : ℕ) → i < n → entry_head words (start + i) / 4 < declared)
        → maybe_value text words (seek words attribute start n) ≡ value_in (entries_from text words offset start n) (name_of text words offset attribute)
    seek_value zero start h = unfold maybe_value seek value_in entries_from listed in refl
    seek_value (suc n) start h =
        let front : start + 0 ≡ start = omega arith in
        let first : entry_head words start / 4 < declared = rw front at (h 0 (omega arith)) in
        let rest = seek_value n (start + 1) (λ i l. let next : start + suc i ≡ start + 1 + i = omega arith in rw next at (h (suc i) (omega arith))) in
        ap (maybe_value text words) (seek_step words attribute start n)
        ∙ value_picked text words start (seek words attribute (start + 1) n) (eqb (entry_head words start / 4) attribute)
        ∙ ap (pick (eqb (entry_head words start / 4) attribute) (just (entry_value text words start))) rest
        ∙ sym (
        ap (λ es. value_in es (name_of text words offset attribute)) (entries_front text words offset start n)
        ∙ value_first text words offset start (entries_from text words offset (start + 1) n) (name_of text words offset attribute)
        ∙ ap (λ t. pick t (just (entry_value text words start))
        (value_in (entries_from text words offset (start + 1) n) (name_of text words offset attribute)))
        (same_name (entry_head words start / 4) attribute first counted))

    -- so many entries are looked at by number as are by name
    pub seek_looked : (n start : ℕ) → ((i : ℕ) → i < n → entry_head words (start + i) / 4 < declared)
        → looked_for start n (seek words attribute start n) ≡ looked_at (entries_from text words offset start n) (name_of text words offset attribute)
    seek_looked zero start h = unfold looked_for seek looked_at entries_from listed in refl
    seek_looked (suc n) start h =
        let front : start + 0 ≡ start = omega arith in
        let first : entry_head words start / 4 < declared = rw front at (h 0 (omega arith)) in
        let rest = seek_looked n (start + 1) (λ i l. let next : start + suc i ≡ start + 1 + i = omega arith in rw next at (h (suc i) (omega arith))) in
        ap (looked_for start (suc n)) (seek_step words attribute start n)
        ∙ looked_picked start n (seek words attribute (start + 1) n) (behind words attribute n (start + 1)) (eqb (entry_head words start / 4) attribute)
        ∙ ap (λ m. pick (eqb (entry_head words start / 4) attribute) 1 (1 + m)) rest
        ∙ sym (
        ap (λ es. looked_at es (name_of text words offset attribute)) (entries_front text words offset start n)
        ∙ looked_first text words offset start (entries_from text words offset (start + 1) n) (name_of text words offset attribute)
        ∙ ap (λ t. pick t 1 (1 + looked_at (entries_from text words offset (start + 1) n) (name_of text words offset attribute)))
        (same_name (entry_head words start / 4) attribute first counted))

-- the entries of a node and of a relationship, and the names of attributes and nodes, by their numbers
module _ (text : Bytes) (words : List ℕ) (c : BookCounts) where
  owner_entries : (o : Owner) (i : ℕ) → i < (tables_of o c).count
      → entries_of o (book_at text words c) i ≡ entries_in text words (tables_of o c).attributes (word_at words ((tables_of o c).entries + i))
  unfolding graph.node_entries rel_entries graph.rel_of book_at node_of rel_of
  owner_entries Node i l = ap (λ es. get_or es i []) (map_listed (λ x. x.entries) (node_of text words) c.nodes)
      ∙ get_or_listed (λ i. (node_of text words i).entries) c.nodes i [] l
  owner_entries Relationship i l = ap (λ r. r.entries) (get_or_listed (rel_of text words) c.relationships i _ l)

  attribute_name : (offset count i : ℕ) → i < count → get_or (attr_names (attrs_at text words offset count)) i [] ≡ name_of text words offset i
  unfolding names_at
  attribute_name offset count i l = ap (λ ns. get_or ns i []) (attr_names_law text words offset count) ∙ get_or_listed (name_of text words offset) count i [] l

  pub node_named : (i : ℕ) → i < c.nodes → get_or (node_names (book_at text words c)) i [] ≡ name_of text words layout.node_names i
  unfolding names_at
  node_named i l = ap (λ ns. get_or ns i []) (node_names_law text words c) ∙ get_or_listed (name_of text words layout.node_names) c.nodes i [] l

  -- what the pass over an owner's entries comes to, by its word: the value of its attribute, and how many are looked at for it
  module _ (fits : Fits text words c) (attribute : ℕ) (o : Owner) (i : ℕ) (owned : i < (tables_of o c).count)
      (declared : attribute < (tables_of o c).declared) where
    own_fits : EntriesFit text words (tables_of o c).declared c.entries (word_at words ((tables_of o c).entries + i))
    own_fits = owner_fits text words c fits o i owned

    pub owner_sought : maybe_value text words (seek words attribute (start_part (word_at words ((tables_of o c).entries + i)))
        (count_part (word_at words ((tables_of o c).entries + i)))) ≡ owner_value o (book_at text words c) i attribute
    unfolding entries_in
    owner_sought = rw (
      owner_entries o i owned,
      owner_attrs text words c o,
      attribute_name (tables_of o c).attributes (tables_of o c).declared attribute declared,
    )
        (seek_value text words _ _ (attr_table text words c fits o).names attribute declared _ _ (λ k l. (own_fits.each k l).attribute))

    pub owner_looked_law : looked_for (start_part (word_at words ((tables_of o c).entries + i))) (count_part (word_at words ((tables_of o c).entries + i)))
        (seek words attribute (start_part (word_at words ((tables_of o c).entries + i))) (count_part (word_at words ((tables_of o c).entries + i))))
        ≡ owner_looked o (book_at text words c) i attribute
    unfolding entries_in
    owner_looked_law = rw (
      owner_entries o i owned,
      owner_attrs text words c o,
      attribute_name (tables_of o c).attributes (tables_of o c).declared attribute declared,
    )
        (seek_looked text words _ _ (attr_table text words c fits o).names attribute declared _ _ (λ k l. (own_fits.each k l).attribute))

  -- an owner's entries may be read
  pub entries_ready : Fits text words c → (o : Owner) (i : ℕ) → i < (tables_of o c).count
      → EntriesReady text words (word_at words ((tables_of o c).entries + i))
  entries_ready fits o i l =
      let own = owner_fits text words c fits o i l in
      let counted = own.counted in
      let few = fits.within.entries in
      let room = fits.room in
      λ k m. record { room = omega arith; inside = (own.each k m).inside }
