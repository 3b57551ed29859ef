-- The tables of nodes and of relationships hold what the book says of either.
use Prim.Native.Nat.{ℕ, ◌+◌, ◌≤◌, ◌<◌}
use mathlib.Core.Path.{◌≡◌, refl, ap, ◌∙◌}
use mathlib.Core.List.{List}
use native.Mathlib.Omega.{arith}
use lib.ListN.{length}
use Rattle.model.specs.Bytes.{Bytes}
use Rattle.model.specs.Book.{attr_names}
use Rattle.book_tables.specs.declared.BookCounts.{BookCounts}
use Rattle.book_tables.specs.declared.Owner.{Owner}
use Rattle.book_tables.specs.declared.Owner.TheVariants.{Node, Relationship}
use Rattle.book_tables.specs.View.{word_at, names_at, attrs_at, book_at}
use Rattle.book_tables.specs.Fits.{EntriesFit, Fits}
use Rattle.book_tables.specs.Owners.{tables_of, attrs_of, AttrTable}
use Rattle.book_tables.proofs.NameLaws.{attr_names_law, length_names}

module _ (text : Bytes) (words : List ℕ) (c : BookCounts) where
  pub owner_attrs : (o : Owner) → attrs_of o (book_at text words c) ≡ attrs_at text words (tables_of o c).attributes (tables_of o c).declared
  unfolding book_at
  owner_attrs Node = refl
  owner_attrs Relationship = refl

  pub owner_names : (o : Owner) → attr_names (attrs_of o (book_at text words c)) ≡ names_at text words (tables_of o c).attributes (tables_of o c).declared
  owner_names o = ap attr_names (owner_attrs o) ∙ attr_names_law text words _ _

  pub owner_declared : (o : Owner) → length (attr_names (attrs_of o (book_at text words c))) ≡ (tables_of o c).declared
  owner_declared o = ap length (owner_names o) ∙ length_names text words _ _

  pub attr_table : Fits text words c → (o : Owner) → AttrTable text words (tables_of o c).attributes (tables_of o c).declared
  attr_table f Node = record { low = omega arith; few = f.within.vattrs; names = f.vattrs }
  attr_table f Relationship = record { low = omega arith; few = f.within.eattrs; names = f.eattrs }

  -- the entries of each owner fit
  pub owner_fits : Fits text words c → (o : Owner) (i : ℕ) → i < (tables_of o c).count
      → EntriesFit text words (tables_of o c).declared c.entries (word_at words ((tables_of o c).entries + i))
  owner_fits f Node i l = f.of_nodes i l
  owner_fits f Relationship i l = f.of_rels i l

  pub owner_few : Fits text words c → (o : Owner) → (tables_of o c).count ≤ 1024
  owner_few f Node = let w = f.within in omega arith
  owner_few f Relationship = f.within.relationships
