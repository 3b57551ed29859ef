-- What the tables of a book declare: names by their places, and the types of attributes.
use Prim.Native.Nat.{ℕ, ◌+◌, ◌<◌, ◌≤◌}
use mathlib.Core.Path.{◌≡◌, refl, sym, ap, ◌∙◌}
use mathlib.Core.Logic.{⊎_elim}
use mathlib.Core.List.{List}
use mathlib.Core.Bool.{Bool, true, false, ◌&&◌}
use native.Mathlib.Omega.{arith}
use lib.ListN.{length}
use lib.Dec.{ltb, eqb, eqb→eq}
use borrow.Author.Tests.{eqb-false, ne_eqb, lt-ltb, le-ltb}
use Rattle.model.specs.Bytes.{Bytes, same}
use Rattle.model.specs.Lists.{any}
use Rattle.model.specs.Names.{mem, place}
use Rattle.model.specs.Book.{Attr, attr_names}
use Rattle.model.specs.Values.{Value, Kind, ints, strs, bools, of_kind}
use Rattle.model.specs.QueryText.{Relation}
use Rattle.model.specs.ReadQuery.{has_relation, typed}
use Rattle.model.proofs.Members.{test, is_false}
use Rattle.book_tables.specs.declared.BookCounts.{BookCounts}
use Rattle.book_tables.specs.declared.Owner.{Owner}
use Rattle.book_tables.specs.declared.OwnerTables.{OwnerTables}
use Rattle.book_tables.specs.Layout.{label_names, types_behind}
use Rattle.book_tables.specs.Listed.{listed}
use Rattle.book_tables.specs.View.{word_at, name_of, names_at, kind_in, attr_of, attrs_at, book_at}
use Rattle.book_tables.specs.Fits.{NamesFit, Fits}
use Rattle.book_tables.specs.Owners.{tables_of, attrs_of}
use Rattle.book_tables.proofs.OwnerLaws.{owner_attrs, owner_declared, attr_table}
use Rattle.book_tables.proofs.ListedLaws.{scan_all, scan_found}
use Rattle.book_tables.proofs.NameLaws.{mem_place, same_equal, equal_same, length_names, name_mem, place_named, place_out, attr_names_law}
use Rattle.query_survey.specs.Suits.{suits}

known_place : (w : Bytes) (ws : List Bytes) (k n : ℕ) → k ≡ place w ws → length ws ≡ n → ltb k n ≡ mem w ws
known_place w ws k n e l = rw (e, ← l) (sym (mem_place w ws))

module _ (text : Bytes) (words : List ℕ) (c : BookCounts) (w : Bytes) (k : ℕ) where
  pub label_place : k ≡ place w (book_at text words c).labels → ltb k c.labels ≡ mem w (book_at text words c).labels
  unfolding book_at
  label_place e = known_place w _ k c.labels e (length_names text words label_names c.labels)

-- an attribute is typed as the one declared under its name
module _ (text : Bytes) (words : List ℕ) (offset count : ℕ) (h : NamesFit text words offset count) (w : Bytes) (r : Relation) (v : Value) where
  abbrev asked : Attr → Bool
  asked d = same d.name w && has_relation d.kind r && of_kind d.kind v

  abbrev kind_of : ℕ → Kind
  kind_of i = kind_in (word_at words (offset + types_behind + i))

  other_name : (i : ℕ) → same (name_of text words offset i) w ≡ false → asked (attr_of text words offset i) ≡ false
  unfolding attr_of
  other_name i e = rw e

  this_name : (i : ℕ) → name_of text words offset i ≡ w → asked (attr_of text words offset i) ≡ suits (kind_of i) r v
  unfolding attr_of suits
  this_name i e = rw (equal_same (name_of text words offset i) w e)

  module _ (k : ℕ) (e : k ≡ place w (attr_names (attrs_at text words offset count))) where
    at_place : k ≡ place w (names_at text words offset count)
    at_place = e ∙ ap (place w) (attr_names_law text words offset count)

    typed_out : count ≤ k → typed (attrs_at text words offset count) w r v ≡ false
    unfolding typed attrs_at
    typed_out l = scan_all asked (attr_of text words offset) count (λ i m. other_name i (go i m (same (name_of text words offset i) w) refl))
      where
        go : (i : ℕ) → i < count → (t : Bool) → same (name_of text words offset i) w ≡ t → t ≡ false
        go i m true q =
            let yes = name_mem text words offset count w i m (same_equal (name_of text words offset i) w q) in
            let no = place_out text words offset count w (rw at_place at l) in
            cc
        go i m false q = refl

    typed_in : k < count → typed (attrs_at text words offset count) w r v ≡ suits (kind_of k) r v
    unfolding typed attrs_at
    typed_in l = go (suits (kind_of k) r v) refl
      where
        named : name_of text words offset k ≡ w
        named = ap (name_of text words offset) at_place ∙ place_named text words offset count w (rw at_place at l)

        others : suits (kind_of k) r v ≡ false → (i : ℕ) → i < count → (t : Bool) → same (name_of text words offset i) w ≡ t
            → asked (attr_of text words offset i) ≡ false
        others f i m true q = let z : i ≡ k = h.differ i k m l (same_equal (name_of text words offset i) w q ∙ sym named) in rw z (this_name k named ∙ f)
        others f i m false q = other_name i q

        go : (t : Bool) → suits (kind_of k) r v ≡ t → any asked (listed (attr_of text words offset) count) ≡ t
        go true f = scan_found asked (attr_of text words offset) count k l (this_name k named ∙ f)
        go false f = scan_all asked (attr_of text words offset) count (λ i m. others f i m (same (name_of text words offset i) w) refl)

-- an owner's attribute at its place among those declared, or none of them
module _ (text : Bytes) (words : List ℕ) (c : BookCounts) (h : Fits text words c) (o : Owner) (w : Bytes) (r : Relation) (v : Value)
    (k : ℕ) (e : k ≡ place w (attr_names (attrs_of o (book_at text words c)))) where
  abbrev attrs : List Attr
  attrs = attrs_of o (book_at text words c)

  abbrev t : OwnerTables
  t = tables_of o c

  known : ltb k t.declared ≡ mem w (attr_names attrs)
  known = known_place w _ k _ e (owner_declared text words c o)

  place_of : k ≡ place w (attr_names (attrs_at text words t.attributes t.declared))
  place_of = rw owner_attrs at e

  pub attr_in : k < t.declared → (true ≡ mem w (attr_names attrs)) × (suits (kind_in (word_at words (t.attributes + types_behind + k))) r v ≡ typed attrs w r v)
  attr_in l = (
    sym (lt-ltb k _ l) ∙ known,
    rw owner_attrs (sym (typed_in text words _ _ (attr_table text words c h o).names w r v k place_of l)),
  )

  pub attr_out : t.declared ≤ k → (false ≡ mem w (attr_names attrs)) × (false ≡ typed attrs w r v)
  attr_out l = (sym (le-ltb k _ l) ∙ known, rw owner_attrs (sym (typed_out text words _ _ (attr_table text words c h o).names w r v k place_of l)))

-- the relations of a type that a word says: = and <> are had by every type, the other four by int and str
every_type : (k : Kind) (r : Relation) → has_relation bools r ≡ true → has_relation k r ≡ true
unfolding has_relation
every_type ints r e = refl
every_type strs r e = refl
every_type bools r e = e

module _ (t : ℕ) (r : Relation) (v : Value) where
  pub suits_ordered : t ≤ 1 → of_kind (kind_in t) v ≡ suits (kind_in t) r v
  unfolding suits kind_in has_relation
  suits_ordered l = ⊎_elim (λ h. rw (eqb→eq t 0 h)) (λ h. let o : t ≡ 1 = omega (arith, eqb-false t 0 (is_false (eqb t 0) h)) in rw o) (test (eqb t 0))

  pub suits_same : has_relation bools r ≡ true → of_kind (kind_in t) v ≡ suits (kind_in t) r v
  unfolding suits
  suits_same e = rw (every_type (kind_in t) r e)

  pub suits_none : 1 < t → has_relation bools r ≡ false → false ≡ suits (kind_in t) r v
  unfolding suits kind_in
  suits_none l e = rw (ne_eqb t 0 (λ p. omega arith), ne_eqb t 1 (λ p. omega arith), e)
