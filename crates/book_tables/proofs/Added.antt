-- A store of a line's words adds the line: the words then hold the book with it.
use Prim.Native.Nat.{ℕ, ◌+◌, ◌/◌, ◌%◌, ◌<◌, ◌≤◌}
use mathlib.Core.Path.{◌≡◌, ap, ◌∙◌}
use mathlib.Core.List.{List, [], ◌∷◌, ◌++◌}
use mathlib.Core.Bool.{false}
use native.Mathlib.Omega.{arith}
use lib.ListN.{length, set, length-set}
use lib.Seq.{get_or-set_same, get_or-set_other}
use Rattle.model.specs.Bytes.{Bytes}
use Rattle.model.specs.Names.{mem}
use Rattle.model.specs.Book.{Attr, Book, attr_names, entry_count}
use Rattle.model.specs.BookLines.{label, vattr, eattr}
use Rattle.model.specs.ReadBook.{add_line}
use Rattle.book_tables.specs.declared.BookCounts.{BookCounts}
use Rattle.book_tables.specs.declared.Owner.{Owner}
use Rattle.book_tables.specs.declared.Owner.TheVariants.{Node, Relationship}
use Rattle.book_tables.specs.Layout.{vattr_names, eattr_names, types_behind, label_names, relationships, entries}
use Rattle.book_tables.specs.View.{word_at, name_in, name_of, names_at, kind_in, attrs_at, book_at}
use Rattle.book_tables.specs.Fits.{Inside, NamesFit, Fits, Holds}
use Rattle.book_tables.specs.Owners.{tables_of, attrs_of, declares, more_attrs}
use Rattle.book_tables.specs.Stores.{more_labels, with_attr, with_label}
use Rattle.book_tables.proofs.NameLaws.{names_end_law, names_fit_more, attr_names_law}
use Rattle.book_tables.specs.Agree.{Free, Agree}
use Rattle.book_tables.proofs.AgreeLaws.{set_agrees, agree_trans, book_kept, fits_kept}
use Rattle.book_tables.proofs.Grow.{entries_fit_more, rel_fits_more, attrs_end}

-- a name word that is new among the names at an offset
pub record NewName (text : Bytes) (names : List Bytes) (w : ℕ) : Type 0 where
  pub inside : Inside text (w / 32) (w % 32)
  pub new : mem (name_in text w) names ≡ false

-- a further attribute at an offset has free places
record AttrRoom (words : List ℕ) (c : BookCounts) (offset count : ℕ) : Type 0 where
  name : Free c (offset + count)
  type : Free c (offset + types_behind + count)
  fits : offset + types_behind + count < length words

-- more is declared, and nothing else
more_declared : (text : Bytes) (words : List ℕ) (c : BookCounts) → Fits text words c → (v e l : ℕ)
    → (c.vattrs ≤ v) × (c.eattrs ≤ e) × (c.labels ≤ l) → (v ≤ 32) × (e ≤ 32) × (l ≤ 32)
    → NamesFit text words vattr_names v → NamesFit text words eattr_names e → NamesFit text words label_names l
    → Fits text words (record { vattrs = v; eattrs = e; labels = l; nodes = c.nodes; relationships = c.relationships; entries = c.entries })
unfolding book_at entry_count
more_declared text words c f v e l more few vattrs eattrs labels = record {
  room = f.room;
  within = let w = f.within in omega arith;
  vattrs = vattrs;
  eattrs = eattrs;
  labels = labels;
  nodes = f.nodes;
  of_nodes = λ i m. entries_fit_more text words c.vattrs v c.entries c.entries _ more.0 (omega arith) (f.of_nodes i m);
  rels = λ i m. rel_fits_more c.labels l c.nodes c.nodes _ more.2 (omega arith) (f.rels i m);
  of_rels = λ i m. entries_fit_more text words c.eattrs e c.entries c.entries _ more.1 (omega arith) (f.of_rels i m);
  counted = f.counted;
  node_chains = f.node_chains;
  rel_chains = f.rel_chains;
}

module _ (text : Bytes) (words : List ℕ) (c : BookCounts) (b : Book) (holds : Holds text words c b) where
  module _ (w : ℕ) (room : c.labels < 32) (name : NewName text b.labels w) where
    label_free : Free c (label_names + c.labels)
    label_free = let l = holds.fits.within in omega arith

    label_agrees : Agree c words (with_label words c w)
    unfolding with_label
    label_agrees = set_agrees c words (label_names + c.labels) w label_free

    label_at : word_at (with_label words c w) (label_names + c.labels) ≡ w
    unfolding with_label
    label_at = get_or-set_same words (label_names + c.labels) w 0 (omega (arith, holds.fits.room))

    label_named : name_of text (with_label words c w) label_names c.labels ≡ name_in text w
    unfolding name_of
    label_named = rw label_at

    label_before : book_at text (with_label words c w) c ≡ b
    label_before = book_kept text words (with_label words c w) c label_agrees.tables holds.fits ∙ holds.is

    labels_before : names_at text (with_label words c w) label_names c.labels ≡ b.labels
    unfolding book_at
    labels_before = ap (λ (x : Book). x.labels) label_before

    pub label_added : Holds text (with_label words c w) (more_labels c) (add_line b (label (name_in text w)))
    unfolding book_at add_line
    label_added =
        let f = fits_kept text words (with_label words c w) c label_agrees holds.fits in
        let l = holds.fits.within in
        let named = names_fit_more text (with_label words c w) label_names c.labels f.labels (rw label_at name.inside)
        (rw (label_named, labels_before) name.new) in
        record {
          fits = more_declared text _ c f c.vattrs c.eattrs (c.labels + 1) (omega arith) (omega arith)
              f.vattrs f.eattrs named;
          is = rw (names_end_law text (with_label words c w) label_names c.labels, label_named)
              (ap (λ (x : Book). add_line x (label (name_in text w))) label_before);
        }

  -- a declared attribute, of nodes or of relationships
  module _ (offset count w t : ℕ) (room : AttrRoom words c offset count) where
    attr_agrees : Agree c words (with_attr words offset count w t)
    unfolding with_attr
    attr_agrees =
        agree_trans c words (set words (offset + count) w) (set (set words (offset + count) w) (offset + types_behind + count) t)
        (set_agrees c words (offset + count) w room.name)
        (set_agrees c (set words (offset + count) w) (offset + types_behind + count) t room.type)

    attr_at : word_at (with_attr words offset count w t) (offset + count) ≡ w
    unfolding with_attr
    attr_at =
        get_or-set_other (set words (offset + count) w) (offset + types_behind + count) (offset + count) t 0 (omega arith)
        ∙ get_or-set_same words (offset + count) w 0 (omega (arith, room.fits))

    type_at : word_at (with_attr words offset count w t) (offset + types_behind + count) ≡ t
    unfolding with_attr
    type_at = get_or-set_same (set words (offset + count) w) (offset + types_behind + count) t 0 (rw length-set room.fits)

    attr_named : name_of text (with_attr words offset count w t) offset count ≡ name_in text w
    unfolding name_of
    attr_named = rw attr_at

    attr_fits : Fits text (with_attr words offset count w t) c
    attr_fits = fits_kept text words (with_attr words offset count w t) c attr_agrees holds.fits

    attr_before : book_at text (with_attr words offset count w t) c ≡ b
    attr_before = book_kept text words (with_attr words offset count w t) c attr_agrees.tables holds.fits ∙ holds.is

    attr_last :
        attrs_at text (with_attr words offset count w t) offset (count + 1)
        ≡ attrs_at text (with_attr words offset count w t) offset count ++ (record { name = name_in text w; kind = kind_in t } ∷ [])
    attr_last = attrs_end text (with_attr words offset count w t) offset count ∙ rw (attr_named, type_at)

    attr_fit : (ds : List Attr) → attrs_at text (with_attr words offset count w t) offset count ≡ ds → NewName text (attr_names ds) w
        → NamesFit text (with_attr words offset count w t) offset count → NamesFit text (with_attr words offset count w t) offset (count + 1)
    attr_fit ds e name f =
        names_fit_more text (with_attr words offset count w t) offset count f
        (rw attr_at name.inside)
        (rw (attr_named, ← attr_names_law text (with_attr words offset count w t) offset count, e) name.new)

  attr_room : (o : Owner) → (tables_of o c).declared < 32 → AttrRoom words c (tables_of o c).attributes (tables_of o c).declared
  attr_room Node few = let l = holds.fits.within in record { name = omega arith; type = omega arith; fits = omega (arith, holds.fits.room) }
  attr_room Relationship few = let l = holds.fits.within in record { name = omega arith; type = omega arith; fits = omega (arith, holds.fits.room) }

  pub attr_added : (o : Owner) (w t : ℕ) → (tables_of o c).declared < 32 → NewName text (attr_names (attrs_of o b)) w
      → Holds text (with_attr words (tables_of o c).attributes (tables_of o c).declared w t) (more_attrs o c) (add_line b (declares o (name_in text w) (kind_in t)))
  unfolding book_at add_line
  attr_added Node w t few name =
      let l = holds.fits.within in
      let r = attr_room Node few in
      let f = attr_fits vattr_names c.vattrs w t r in
      let e = attr_before vattr_names c.vattrs w t r in
      record {
        fits = more_declared text _ c f (c.vattrs + 1) c.eattrs c.labels (omega arith) (omega arith)
            (attr_fit vattr_names c.vattrs w t r b.vattrs (ap (λ (x : Book). x.vattrs) e) name f.vattrs) f.eattrs f.labels;
        is = rw (attr_last vattr_names c.vattrs w t r) (ap (λ (x : Book). add_line x (vattr (name_in text w) (kind_in t))) e);
      }
  attr_added Relationship w t few name =
      let l = holds.fits.within in
      let r = attr_room Relationship few in
      let f = attr_fits eattr_names c.eattrs w t r in
      let e = attr_before eattr_names c.eattrs w t r in
      record {
        fits = more_declared text _ c f c.vattrs (c.eattrs + 1) c.labels (omega arith) (omega arith)
            f.vattrs (attr_fit eattr_names c.eattrs w t r b.eattrs (ap (λ (x : Book). x.eattrs) e) name f.eattrs) f.labels;
        is = rw (attr_last eattr_names c.eattrs w t r) (ap (λ (x : Book). add_line x (eattr (name_in text w) (kind_in t))) e);
      }
