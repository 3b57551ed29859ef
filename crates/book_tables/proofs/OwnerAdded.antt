-- A store of a node or a relationship, behind the store of its entries, adds its line.
use Prim.Native.Nat.{ℕ, ◌+◌, ◌*◌, ◌≤◌, ◌<◌}
use mathlib.Core.Path.{◌≡◌, sym, ap, ◌∙◌}
use mathlib.Core.Logic.{◌≢◌}
use mathlib.Core.List.{List, [], ◌∷◌, ◌++◌}
use native.Mathlib.Omega.{arith}
use lib.ListN.{length, set, length-set}
use lib.Seq.{get_or-set_same, get_or-set_other}
use Rattle.logic.specs.Tests.{either, equal_or_not}
use Rattle.model.specs.Bytes.{Bytes}
use Rattle.model.specs.Names.{place}
use Rattle.model.specs.Values.{Entry}
use Rattle.model.specs.Book.{Node as NodeLine, Rel, Book, node_names, entry_count}
use Rattle.model.specs.BookLines.{node, rel}
use Rattle.model.specs.ReadBook.{add_line}
use Rattle.chains.specs.Chains.{Chained}
use Rattle.chains.specs.Slots.{slot_of}
use Rattle.chains.proofs.ChainLaws.{length_linked, linked_apart, linked_chained, chained_kept}
use Rattle.chains.proofs.SlotLaws.{slot_small}
use Rattle.book_tables.specs.declared.BookCounts.{BookCounts}
use Rattle.book_tables.specs.declared.Owner.{Owner}
use Rattle.book_tables.specs.declared.Owner.TheVariants.{Node, Relationship}
use Rattle.book_tables.specs.declared.OwnerTables.{OwnerTables}
use Rattle.book_tables.specs.Layout.{vattr_names, eattr_names, label_names, node_names as nodes_at, relationships}
use Rattle.book_tables.specs.Layout.{entries, node_heads, node_links, from_heads, from_links, keys}
use Rattle.book_tables.specs.View.{word_at, name_in, slot_in, name_of, entries_from, node_of, label_part, from_part, to_part, node_slot, rel_from, rel_of, book_at}
use Rattle.book_tables.specs.Fits.{EntriesFit, Holds}
use Rattle.book_tables.specs.Owners.{tables_of, limit_of, more_owners}
use Rattle.book_tables.specs.Stores.{owner_stored, with_owner, own_entries, EntriesStored}
use Rattle.book_tables.proofs.ListedLaws.{listed_more, listed_same, map_end, sum_end}
use Rattle.book_tables.proofs.NameLaws.{names_fit_more, node_names_law}
use Rattle.book_tables.specs.Agree.{Free, TablesAgree, Agree}
use Rattle.book_tables.proofs.AgreeLaws.{TablesFit, set_agrees, low_agrees, tables_trans, agree_trans, name_kept, entry_kept, entry_fit_kept}
use Rattle.book_tables.proofs.AgreeLaws.{book_kept, tables_kept, slot_kept, from_kept, node_chains_kept, rel_chains_kept}
use Rattle.book_tables.proofs.Grow.{entries_fit_more, rel_fits_more, own_entries_law, own_fit}
use Rattle.book_tables.proofs.Added.{NewName}

-- the counts with n entries more that no owner has yet
abbrev pub pending : BookCounts → ℕ → BookCounts
pending c n = record {
  vattrs = c.vattrs;
  eattrs = c.eattrs;
  labels = c.labels;
  nodes = c.nodes;
  relationships = c.relationships;
  entries = c.entries
      + n;
}

-- words that agree on the pending entries too agree on what is counted
pub tables_counted : (c : BookCounts) (n : ℕ) (words words' : List ℕ) → TablesAgree (pending c n) words words' → TablesAgree c words words'
tables_counted c n words words' a = record {
  size = a.size;
  vattrs = a.vattrs;
  vattr_types = a.vattr_types;
  eattrs = a.eattrs;
  eattr_types = a.eattr_types;
  labels = a.labels;
  nodes = a.nodes;
  of_nodes = a.of_nodes;
  rels = a.rels;
  of_rels = a.of_rels;
  heads = λ k l. a.heads k (omega arith);
  firsts = λ k l. a.firsts k (omega arith);
  seconds = λ k l. a.seconds k (omega arith);
}

pub agree_counted : (c : BookCounts) (n : ℕ) (words words' : List ℕ) → Agree (pending c n) words words' → Agree c words words'
agree_counted c n words words' a = record { tables = tables_counted c n words words' a.tables; chains = a.chains }

-- entries stored behind those counted are kept by words that agree on them
pub stored_kept : (text : Bytes) (words words' : List ℕ) (c : BookCounts) (offset declared : ℕ) (es : List Entry)
    → TablesAgree (pending c (length es)) words words'
    → ((i : ℕ) → i < declared → word_at words' (offset + i) ≡ word_at words (offset + i))
    → EntriesStored text words offset declared c.entries es → EntriesStored text words' offset declared c.entries es
unfolding entries_from
stored_kept text words words' c offset declared es a same s = record {
  are =
      listed_same _ _ (length es) (λ i l. entry_kept text words words' (pending c (length es)) a offset declared same (c.entries + i) (omega arith)
      (s.each i l))
      ∙ s.are;
  each = λ i l. entry_fit_kept text words words' (pending c (length es)) a declared (c.entries + i) (omega arith) (s.each i l);
}

-- what a node or a relationship adds to the entries
pub node_counts : (b : Book) (n : Bytes) (es : List Entry) → entry_count (add_line b (node n es)) ≡ entry_count b + length es
unfolding entry_count add_line
node_counts b n es =
    rw (map_end (λ (x : NodeLine). length x.entries) b.nodes (record { name = n; entries = es }), sum_end) (omega arith)

pub rel_counts : (b : Book) (l x y : Bytes) (es : List Entry) → entry_count (add_line b (rel l x y es)) ≡ entry_count b + length es
unfolding entry_count add_line
rel_counts b l x y es =
    rw (
      map_end (λ (r : Rel). length r.entries) b.rels
          (record { label = l; from = place x (node_names b); to = place y (node_names b); entries = es }),
      sum_end,
    ) (omega arith)

-- where a further owner's words stand: free, apart, and before the chains
record OwnerRoom (words : List ℕ) (c : BookCounts) (n : ℕ) (t : OwnerTables) : Type 0 where
  word : Free (pending c n) (t.owners + t.count)
  own : Free (pending c n) (t.entries + t.count)
  apart : t.owners + t.count < t.entries + t.count
  chained : node_heads ≤ t.heads
  heads : t.heads + keys ≤ t.links
  fits : t.links + t.count < length words

module _ (text : Bytes) (words : List ℕ) (c : BookCounts) (b : Book) (holds : Holds text words c b)
    (es : List Entry) (all : c.entries + length es ≤ 2048) where
  few : length es < 4096
  few = omega arith

  entries_before : entry_count b ≡ c.entries
  entries_before = sym (ap entry_count holds.is) ∙ holds.fits.counted

  owner_room : (o : Owner) → (tables_of o c).count < limit_of o → OwnerRoom words c (length es) (tables_of o c)
  owner_room Node l = let m = holds.fits.within in let z = holds.fits.room in
      record { word = omega arith; own = omega arith; apart = omega arith; chained = omega arith; heads = omega arith; fits = omega arith }
  owner_room Relationship l = let m = holds.fits.within in let z = holds.fits.room in
      record { word = omega arith; own = omega arith; apart = omega arith; chained = omega arith; heads = omega arith; fits = omega arith }

  -- what a store of a node and of a relationship have in common
  module _ (o : Owner) (w key : ℕ) (room : (tables_of o c).count < limit_of o) (small : key < keys)
      (stored : EntriesStored text words (tables_of o c).attributes (tables_of o c).declared c.entries es) where
    abbrev t : OwnerTables
    t = tables_of o c

    abbrev after : List ℕ
    after = with_owner words c o w key (length es)

    abbrev tables : List ℕ
    tables = owner_stored words c o w (length es)

    -- the tables first
    stores : Agree (pending c (length es)) words tables
    unfolding owner_stored
    stores =
        agree_trans (pending c (length es)) words (set words (t.owners + t.count) w) _
        (set_agrees (pending c (length es)) words _ w (owner_room o room).word)
        (set_agrees (pending c (length es)) _ _ (own_entries c (length es)) (owner_room o room).own)

    -- then the chain: it changes its head and the owner's link
    linked_else : (p : ℕ) → p ≢ t.heads + key → p ≢ t.links + t.count → word_at after p ≡ word_at tables p
    unfolding with_owner
    linked_else p d e = linked_apart tables t.heads t.links key t.count p d e

    low : (p : ℕ) → p < node_heads → word_at after p ≡ word_at tables p
    low p l = let r = owner_room o room in linked_else p (omega arith) (omega arith)

    agrees : TablesAgree (pending c (length es)) words after
    unfolding with_owner
    agrees =
        tables_trans (pending c (length es)) words tables after stores.tables
        (low_agrees (pending c (length es)) tables after (let l = holds.fits.within in omega arith)
        (length_linked tables t.heads t.links key t.count) low)

    word_at_law : word_at after (t.owners + t.count) ≡ w
    unfolding owner_stored
    word_at_law =
        let r = owner_room o room in
        low (t.owners + t.count) r.word.before_chains
        ∙ get_or-set_other (set words (t.owners + t.count) w) (t.entries + t.count) (t.owners + t.count) (own_entries c (length es)) 0 (omega arith)
        ∙ get_or-set_same words (t.owners + t.count) w 0 (omega (arith, r.word.before_chains))

    entries_at : word_at after (t.entries + t.count) ≡ own_entries c (length es)
    unfolding owner_stored
    entries_at =
        let r = owner_room o room in
        low (t.entries + t.count) r.own.before_chains
        ∙ get_or-set_same (set words (t.owners + t.count) w) (t.entries + t.count) (own_entries c (length es)) 0
        (rw length-set (omega (arith, r.own.before_chains)))

    names_same : (o' : Owner) (i : ℕ) → i < (tables_of o' c).declared
        → word_at after ((tables_of o' c).attributes + i) ≡ word_at words ((tables_of o' c).attributes + i)
    names_same Node i l = agrees.vattrs i l
    names_same Relationship i l = agrees.eattrs i l

    still : EntriesStored text after t.attributes t.declared c.entries es
    still = stored_kept text words after c t.attributes t.declared es agrees (names_same o) stored

    counted : TablesAgree c words after
    counted = tables_counted c (length es) words after agrees

    fits : TablesFit text after c
    fits = tables_kept text words after c counted holds.fits

    before : book_at text after c ≡ b
    before = book_kept text words after c counted holds.fits ∙ holds.is

    -- its entries are among those that fit
    own_fits : ((i : ℕ) → i < t.count → EntriesFit text after t.declared c.entries (word_at after (t.entries + i)))
        → (i : ℕ) → i < t.count + 1 → EntriesFit text after t.declared (c.entries + length es) (word_at after (t.entries + i))
    own_fits f i l = either (equal_or_not i t.count)
        (λ e. rw (e, entries_at) (own_fit text after t.attributes t.declared c es still few))
        (λ e. entries_fit_more text after t.declared t.declared c.entries (c.entries + length es) _ (omega arith) (omega arith) (f i (omega arith)))

    -- it is in front of the chain of its key
    own_chains : (old new : ℕ → ℕ) → new t.count ≡ key → ((i : ℕ) → i < t.count → old i ≡ new i)
        → Chained words t.heads t.links keys old t.count → Chained after t.heads t.links keys new (t.count + 1)
    unfolding with_owner
    own_chains old new here same chained =
        let r = owner_room o room in
        linked_chained tables t.heads t.links key t.count keys new r.heads (omega (arith, stores.tables.size)) small here
        (chained_kept words tables t.heads t.links keys old new t.count chained
        (λ k l. stores.chains (t.heads + k) (omega arith))
        (λ i l. stores.chains (t.links + i) (omega arith)) same)

  module _ (w : ℕ) (room : c.nodes < 256) (name : NewName text (node_names b) w) (stored : EntriesStored text words vattr_names c.vattrs c.entries es)
    where
      abbrev slot : ℕ
      slot = slot_in text w

      abbrev node_words_law : List ℕ
      node_words_law = with_owner words c Node w slot (length es)

      slotted : slot < keys
      slotted = slot_small (name_in text w)

      node_named : name_of text node_words_law nodes_at c.nodes ≡ name_in text w
      unfolding name_of
      node_named = rw (word_at_law Node w slot room slotted stored)

      node_last : node_of text node_words_law c.nodes ≡ record { name = name_in text w; entries = es }
      unfolding node_of
      node_last = rw (
        node_named,
        entries_at Node w slot room slotted stored,
        own_entries_law text node_words_law vattr_names c.vattrs c es
            (still Node w slot room slotted stored) few,
      )

      -- the chains of the relationships are as they were
      node_rel_chains : Chained node_words_law from_heads from_links keys (rel_from node_words_law) c.relationships
      node_rel_chains =
          let s = slotted in
          let h = (stores Node w slot room slotted stored).chains in
          rel_chains_kept text words node_words_law c (counted Node w slot room slotted stored) holds.fits
          (λ k l. linked_else Node w slot room slotted stored (from_heads + k) (omega arith) (omega arith) ∙ h (from_heads + k) (omega arith))
          (λ i l. linked_else Node w slot room slotted stored (from_links + i) (omega arith) (omega arith) ∙ h (from_links + i) (omega arith))

      node_is : book_at text node_words_law (more_owners Node c (length es)) ≡ add_line b (node (name_in text w) es)
      unfolding book_at add_line
      node_is = rw (listed_more (node_of text node_words_law) c.nodes, node_last)
          (ap (λ (x : Book). add_line x (node (name_in text w) es)) (before Node w slot room slotted stored))

      pub node_added : Holds text (with_owner words c Node w (slot_in text w) (length es)) (more_owners Node c (length es)) (add_line b (node (name_in text w) es))
      node_added =
          let f = fits Node w slot room slotted stored in
          record {
            fits = record {
              room = f.room;
              within = let m = f.within in omega arith;
              vattrs = f.vattrs;
              eattrs = f.eattrs;
              labels = f.labels;
              nodes = names_fit_more text node_words_law nodes_at c.nodes f.nodes (rw (word_at_law Node w slot room slotted stored) name.inside)
                  (rw (node_named, ← node_names_law text node_words_law c, before Node w slot room slotted stored) name.new);
              of_nodes = own_fits Node w slot room slotted stored f.of_nodes;
              rels = λ i l. rel_fits_more c.labels c.labels c.nodes (c.nodes + 1) _ (omega arith) (omega arith) (f.rels i l);
              of_rels = λ i l. entries_fit_more text node_words_law c.eattrs c.eattrs c.entries (c.entries + length es) _ (omega arith) (omega arith)
                  (f.of_rels i l);
              counted = ap entry_count node_is ∙ node_counts b (name_in text w) es ∙ ap (λ (n : ℕ). n + length es) entries_before;
              node_chains = own_chains Node w slot room slotted stored (node_slot text words) (node_slot text node_words_law) (ap slot_of node_named)
                  (slot_kept text words node_words_law c (counted Node w slot room slotted stored) holds.fits) holds.fits.node_chains;
              rel_chains = node_rel_chains;
            };
            is = node_is;
          }

  module _ (l x y : ℕ) (label from to : Bytes) (room : c.relationships < 1024) (lin : l < c.labels) (xin : x < c.nodes) (yin : y < c.nodes)
      (labelled : name_of text words label_names l ≡ label) (from_place : place from (node_names b) ≡ x) (to-place : place to (node_names b) ≡ y)
      (stored : EntriesStored text words eattr_names c.eattrs c.entries es) where
    abbrev rel_word_law : ℕ
    rel_word_law = l * 65536 + x * 256 + y

    abbrev rel_words : List ℕ
    rel_words = with_owner words c Relationship rel_word_law x (length es)

    left : x < keys
    left = let m = holds.fits.within in omega arith

    label_of : label_part rel_word_law ≡ l
    label_of = let m = holds.fits.within in omega arith

    from_of_law : from_part rel_word_law ≡ x
    from_of_law = let m = holds.fits.within in omega arith

    to_of_law : to_part rel_word_law ≡ y
    to_of_law = let m = holds.fits.within in omega arith

    rel_last : rel_of text rel_words c.relationships ≡ record { label = label; from = place from (node_names b); to = place to (node_names b); entries = es }
    unfolding rel_of
    rel_last = rw (
      word_at_law Relationship rel_word_law x room left stored,
      entries_at Relationship rel_word_law x room left stored,
      label_of,
      from_of_law,
      to_of_law,
      from_place,
      to-place,
      name_kept text words rel_words label_names c.labels (agrees Relationship rel_word_law x room left stored).labels l lin,
      labelled,
      own_entries_law text rel_words eattr_names c.eattrs c es (still Relationship rel_word_law x room left stored) few,
    )

    -- the chains of the nodes are as they were
    rel_node_chains : Chained rel_words node_heads node_links keys (node_slot text rel_words) c.nodes
    rel_node_chains =
        let m = holds.fits.within in
        let h = (stores Relationship rel_word_law x room left stored).chains in
        node_chains_kept text words rel_words c (counted Relationship rel_word_law x room left stored) holds.fits
        (λ k l. linked_else Relationship rel_word_law x room left stored (node_heads + k) (omega arith) (omega arith) ∙ h (node_heads + k) (omega arith))
        (λ i l. linked_else Relationship rel_word_law x room left stored (node_links + i) (omega arith) (omega arith) ∙ h (node_links + i) (omega arith))

    rel_is : book_at text rel_words (more_owners Relationship c (length es)) ≡ add_line b (rel label from to es)
    unfolding book_at add_line
    rel_is = rw (listed_more (rel_of text rel_words) c.relationships, rel_last)
        (ap (λ (z : Book). record {
          vattrs = z.vattrs;
          eattrs = z.eattrs;
          labels = z.labels;
          nodes = z.nodes;
          rels = z.rels ++ (record { label = label; from = place from (node_names b); to = place to (node_names b); entries = es } ∷ []);
        }) (before Relationship rel_word_law x room left stored))

    pub rel_added : Holds text (with_owner words c Relationship (l * 65536 + x * 256 + y) x (length es)) (more_owners Relationship c (length es))
        (add_line b (rel label from to es))
    rel_added =
        let f = fits Relationship rel_word_law x room left stored in
        record {
          fits = record {
            room = f.room;
            within = let m = f.within in omega arith;
            vattrs = f.vattrs;
            eattrs = f.eattrs;
            labels = f.labels;
            nodes = f.nodes;
            of_nodes = λ i l. entries_fit_more text rel_words c.vattrs c.vattrs c.entries (c.entries + length es) _ (omega arith) (omega arith)
                (f.of_nodes i l);
            rels = λ i l. either (equal_or_not i c.relationships)
                (λ e. rw (e, word_at_law Relationship rel_word_law x room left stored)
                (record { label = omega (arith, label_of); from = omega (arith, from_of_law); to = omega (arith, to_of_law) }))
                (λ e. f.rels i (omega arith));
            of_rels = own_fits Relationship rel_word_law x room left stored f.of_rels;
            counted = ap entry_count rel_is ∙ rel_counts b label from to es ∙ ap (λ (n : ℕ). n + length es) entries_before;
            node_chains = rel_node_chains;
            rel_chains = own_chains Relationship rel_word_law x room left stored (rel_from words) (rel_from rel_words)
                (ap (λ (v : ℕ). from_part v) (word_at_law Relationship rel_word_law x room left stored) ∙ from_of_law)
                (from_kept text words rel_words c (counted Relationship rel_word_law x room left stored) holds.fits) holds.fits.rel_chains;
          };
          is = rel_is;
        }
