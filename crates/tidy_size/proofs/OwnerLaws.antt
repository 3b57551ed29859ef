-- The lines of nodes and of relationships: what is known of their entries, and how long they are.
use Prim.Native.Nat.{ℕ, ◌+◌, ◌%◌, ◌≤◌, ◌<◌}
use mathlib.Core.Path.{◌≡◌}
use mathlib.Core.List.{List, []}
use native.Mathlib.Omega.{arith}
use lib.ListN.{length, get_or}
use Rattle.model.specs.Bytes.{Bytes}
use Rattle.model.specs.Tidy.{line_text, tidy_node, tidy_rel, node_line_of, rel_line_of}
use Rattle.book_tables.specs.declared.BookCounts.{BookCounts}
use Rattle.book_tables.specs.Layout.{vattr_names, eattr_names, label_names, node_names, node_entries, relationship_entries, book_words}
use Rattle.book_tables.specs.View.{word_at, name_of, names_at, label_part, from_part, to_part, rel_word, node_of, rel_of}
use Rattle.book_tables.specs.Fits.{NamesFit, EntriesFit, Fits}
use Rattle.book_tables.proofs.ListedLaws.{get_or_listed}
use Rattle.tidy_size.specs.Pieces.{node_line, rel_line, entries_text}
use Rattle.tidy_size.specs.Sizes.{LineSize}
use Rattle.tidy_size.specs.Ready.{SomeText, OwnerIn, OwnerShort}
use Rattle.tidy_size.proofs.LengthLaws.{name_length, node_length, rel_length}
use Rattle.tidy_size.proofs.EntryLaws.{EntriesSize}

-- entries that fit stand in the text, and are short where it is
owner_in : (text : Bytes) (words : List ℕ) (offset declared all owner : ℕ) → NamesFit text words offset declared → EntriesFit text words declared all owner
    → OwnerIn words offset declared owner text
owner_in text words offset declared all owner names fit = record { names = names; each = fit.each }

owner_short : (text : Bytes) (words : List ℕ) (offset declared all owner : ℕ) → EntriesFit text words declared all owner
    → length text ≤ 65536 → book_words ≤ length words → all ≤ 2048 → declared ≤ 32 → offset ≤ 64 → OwnerShort words offset declared owner
owner_short text words offset declared all owner fit short room most few low =
    let counted = fit.counted in
    record {
      few = few;
      names = omega arith;
      room = omega arith;
      attributes = λ i l. (fit.each i l).attribute;
      short = λ i l e. let inside = (fit.each i l).inside e in omega arith;
    }

module _ (words : List ℕ) (c : BookCounts) (i : ℕ) where
  module _ (l : i < c.nodes) where
    -- a node's entries are short
    pub node_short : SomeText words c → OwnerShort words vattr_names c.vattrs (word_at words (node_entries + i))
    node_short s = let w = s.fits.within in
        owner_short s.book words vattr_names c.vattrs c.entries _ (s.fits.of_nodes i l) s.short s.fits.room w.entries w.vattrs
        (omega arith)

    -- a node's line: its name, its entries, and eight bytes
    node_line_law : (text : Bytes) → length (line_text (node_line c text words i))
        ≡ 8 + length (name_of text words node_names i) + length (entries_text text words vattr_names c.vattrs (word_at words (node_entries + i)))
    unfolding node_line node_line_of tidy_node node_of entries_text
    node_line_law text = node_length _ _

    -- the size that is added up is that of the line
    pub node_size : (name entries : ℕ) → name ≡ word_at words (node_names + i) % 32 → c.vattrs ≤ 32
        → EntriesSize words vattr_names c.vattrs (word_at words (node_entries + i)) c.vattrs entries
        → LineSize (λ text. Fits text words c) (λ text. node_line c text words i) (8 + name + entries)
    unfolding name_of
    node_size name entries e few s = record {
      small = omega (arith, s.small);
      is = λ text fits.
          let named = name_length text words (node_names + i) (fits.nodes.inside i l) in
          let entered = s.is text (owner_in text words vattr_names c.vattrs c.entries _ fits.vattrs (fits.of_nodes i l)) in
          omega (arith, node_line_law text);
    }

  module _ (l : i < c.relationships) where
    -- a relationship's entries are short
    pub rel_short : SomeText words c → OwnerShort words eattr_names c.eattrs (word_at words (relationship_entries + i))
    rel_short s = let w = s.fits.within in
        owner_short s.book words eattr_names c.eattrs c.entries _ (s.fits.of_rels i l) s.short s.fits.room w.entries w.eattrs
        (omega arith)

    -- the names of the two nodes
    node_at : (text : Bytes) (n : ℕ) → n < c.nodes → get_or (names_at text words node_names c.nodes) n [] ≡ name_of text words node_names n
    unfolding names_at
    node_at text n m = get_or_listed (name_of text words node_names) c.nodes n [] m

    -- a relationship's line: its three names, its entries, and nine bytes
    rel_line_law : (text : Bytes) → Fits text words c → length (line_text (rel_line c text words i))
        ≡ 9 + length (name_of text words label_names (label_part (rel_word words i))) + length (name_of text words node_names (from_part (rel_word words i)))
        + length (name_of text words node_names (to_part (rel_word words i)))
        + length (entries_text text words eattr_names c.eattrs (word_at words (relationship_entries + i)))
    unfolding rel_line rel_line_of tidy_rel rel_of entries_text
    rel_line_law text fits = let r = fits.rels i l in
        rw (node_at text (from_part (rel_word words i)) r.from, node_at text (to_part (rel_word words i)) r.to) (rel_length _ _ _ _)

    -- the size that is added up is that of the line
    pub rel_size : (label from to entries : ℕ) → label ≡ word_at words (label_names + label_part (rel_word words i)) % 32
        → from ≡ word_at words (node_names + from_part (rel_word words i)) % 32 → to ≡ word_at words (node_names + to_part (rel_word words i)) % 32 → c.eattrs ≤ 32
        → EntriesSize words eattr_names c.eattrs (word_at words (relationship_entries + i)) c.eattrs entries
        → LineSize (λ text. Fits text words c) (λ text. rel_line c text words i) (9 + label + from + to + entries)
    unfolding name_of
    rel_size label from to entries e f g few s = record {
      small = omega (arith, s.small);
      is = λ text fits.
          let r = fits.rels i l in
          let labelled = name_length text words (label_names + label_part (rel_word words i)) (fits.labels.inside _ r.label) in
          let left = name_length text words (node_names + from_part (rel_word words i)) (fits.nodes.inside _ r.from) in
          let reached = name_length text words (node_names + to_part (rel_word words i)) (fits.nodes.inside _ r.to) in
          let entered = s.is text (owner_in text words eattr_names c.eattrs c.entries _ fits.eattrs (fits.of_rels i l)) in
          omega (arith, rel_line_law text fits);
    }
