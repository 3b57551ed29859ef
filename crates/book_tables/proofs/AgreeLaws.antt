-- Words that agree on all that is counted hold the same book, and on the chains have the same chains; so a store to a word that is neither changes nothing.
use Prim.Native.Nat.{ℕ, ◌+◌, ◌*◌, ◌/◌, ◌≤◌, ◌<◌}
use mathlib.Core.Path.{◌≡◌, refl, sym, ap, ◌∙◌}
use mathlib.Core.List.{List}
use native.Mathlib.Omega.{arith}
use lib.ListN.{length, set, length-set}
use lib.Seq.{get_or-set_other}
use Rattle.model.specs.Bytes.{Bytes}
use Rattle.model.specs.Book.{entry_count}
use Rattle.chains.specs.Chains.{Chained}
use Rattle.chains.specs.Slots.{slot_of}
use Rattle.chains.proofs.ChainLaws.{chained_kept}
use Rattle.book_tables.specs.declared.BookCounts.{BookCounts}
use Rattle.book_tables.specs.Layout.{vattr_names, eattr_names, types_behind, label_names, node_names, node_entries, relationships}
use Rattle.book_tables.specs.Layout.{relationship_entries, entries, node_heads, node_links, from_heads, from_links, keys, book_words}
use Rattle.book_tables.specs.View.{word_at, start_part, count_part, name_of, names_at, attr_of, attrs_at, entry_head, entry_of, entries_from, entries_in}
use Rattle.book_tables.specs.View.{node_of, label_part, from_part, rel_word, node_slot, rel_from, rel_of, book_at}
use Rattle.book_tables.specs.Fits.{NamesFit, EntryFits, EntriesFit, RelFits, Within, Fits}
use Rattle.book_tables.specs.Agree.{Free, At, TablesAgree, Agree}
use Rattle.book_tables.proofs.ListedLaws.{listed_same}

-- what is true of the words, the chains apart
pub record TablesFit (text : Bytes) (words : List ℕ) (c : BookCounts) : Type 0 where
  pub room : book_words ≤ length words
  pub within : Within c
  pub vattrs : NamesFit text words vattr_names c.vattrs
  pub eattrs : NamesFit text words eattr_names c.eattrs
  pub labels : NamesFit text words label_names c.labels
  pub nodes : NamesFit text words node_names c.nodes
  pub of_nodes : (i : ℕ) → i < c.nodes → EntriesFit text words c.vattrs c.entries (word_at words (node_entries + i))
  pub rels : (i : ℕ) → i < c.relationships → RelFits c.labels c.nodes (rel_word words i)
  pub of_rels : (i : ℕ) → i < c.relationships → EntriesFit text words c.eattrs c.entries (word_at words (relationship_entries + i))
  pub counted : entry_count (book_at text words c) ≡ c.entries

-- a store to a free place
pub set_agrees : (c : BookCounts) (words : List ℕ) (p v : ℕ) → Free c p → Agree c words (set words p v)
set_agrees c words p v f = record {
  tables = record {
    size = length-set words p v;
    vattrs = λ i l. get_or-set_other words p _ v 0 (f.vattrs i l);
    vattr_types = λ i l. get_or-set_other words p _ v 0 (f.vattr_types i l);
    eattrs = λ i l. get_or-set_other words p _ v 0 (f.eattrs i l);
    eattr_types = λ i l. get_or-set_other words p _ v 0 (f.eattr_types i l);
    labels = λ i l. get_or-set_other words p _ v 0 (f.labels i l);
    nodes = λ i l. get_or-set_other words p _ v 0 (f.nodes i l);
    of_nodes = λ i l. get_or-set_other words p _ v 0 (f.of_nodes i l);
    rels = λ i l. get_or-set_other words p _ v 0 (f.rels i l);
    of_rels = λ i l. get_or-set_other words p _ v 0 (f.of_rels i l);
    heads = λ k l. get_or-set_other words p _ v 0 (f.heads k l);
    firsts = λ k l. get_or-set_other words p _ v 0 (f.firsts k l);
    seconds = λ k l. get_or-set_other words p _ v 0 (f.seconds k l);
  };
  chains = λ q l. get_or-set_other words p q v 0 (let b = f.before_chains in omega arith);
}

-- words that are the same before the chains
pub low_agrees : (c : BookCounts) (words words' : List ℕ) → Within c → length words' ≡ length words → ((p : ℕ) → p < node_heads → At words words' p)
    → TablesAgree c words words'
low_agrees c words words' w e low = record {
  size = e;
  vattrs = λ i l. low (vattr_names + i) (omega arith);
  vattr_types = λ i l. low (vattr_names + types_behind + i) (omega arith);
  eattrs = λ i l. low (eattr_names + i) (omega arith);
  eattr_types = λ i l. low (eattr_names + types_behind + i) (omega arith);
  labels = λ i l. low (label_names + i) (omega arith);
  nodes = λ i l. low (node_names + i) (omega arith);
  of_nodes = λ i l. low (node_entries + i) (omega arith);
  rels = λ i l. low (relationships + i) (omega arith);
  of_rels = λ i l. low (relationship_entries + i) (omega arith);
  heads = λ k l. low (entries + 3 * k) (omega arith);
  firsts = λ k l. low (entries + 3 * k + 1) (omega arith);
  seconds = λ k l. low (entries + 3 * k + 2) (omega arith);
}

-- words agree with themselves
pub tables_same : (c : BookCounts) (words : List ℕ) → TablesAgree c words words
tables_same c words = record {
  size = refl;
  vattrs = λ i l. refl;
  vattr_types = λ i l. refl;
  eattrs = λ i l. refl;
  eattr_types = λ i l. refl;
  labels = λ i l. refl;
  nodes = λ i l. refl;
  of_nodes = λ i l. refl;
  rels = λ i l. refl;
  of_rels = λ i l. refl;
  heads = λ i l. refl;
  firsts = λ i l. refl;
  seconds = λ i l. refl;
}

pub agree_same : (c : BookCounts) (words : List ℕ) → Agree c words words
agree_same c words = record { tables = tables_same c words; chains = λ p l. refl }

-- what agrees with words that agree
pub tables_trans : (c : BookCounts) (a b d : List ℕ) → TablesAgree c a b → TablesAgree c b d → TablesAgree c a d
tables_trans c a b d x y = record {
  size = y.size ∙ x.size;
  vattrs = λ i l. y.vattrs i l ∙ x.vattrs i l;
  vattr_types = λ i l. y.vattr_types i l ∙ x.vattr_types i l;
  eattrs = λ i l. y.eattrs i l ∙ x.eattrs i l;
  eattr_types = λ i l. y.eattr_types i l ∙ x.eattr_types i l;
  labels = λ i l. y.labels i l ∙ x.labels i l;
  nodes = λ i l. y.nodes i l ∙ x.nodes i l;
  of_nodes = λ i l. y.of_nodes i l ∙ x.of_nodes i l;
  rels = λ i l. y.rels i l ∙ x.rels i l;
  of_rels = λ i l. y.of_rels i l ∙ x.of_rels i l;
  heads = λ k l. y.heads k l ∙ x.heads k l;
  firsts = λ k l. y.firsts k l ∙ x.firsts k l;
  seconds = λ k l. y.seconds k l ∙ x.seconds k l;
}

pub agree_trans : (c : BookCounts) (a b d : List ℕ) → Agree c a b → Agree c b d → Agree c a d
agree_trans c a b d x y = record { tables = tables_trans c a b d x.tables y.tables; chains = λ p l. y.chains p l ∙ x.chains p l }

-- names
module _ (text : Bytes) (words words' : List ℕ) (offset count : ℕ) (same : (i : ℕ) → i < count → At words words' (offset + i)) where
  pub name_kept : (i : ℕ) → i < count → name_of text words' offset i ≡ name_of text words offset i
  unfolding name_of
  name_kept i l = rw (same i l)

  pub names_kept : names_at text words' offset count ≡ names_at text words offset count
  unfolding names_at
  names_kept = listed_same _ _ count name_kept

  pub names_fit_kept : NamesFit text words offset count → NamesFit text words' offset count
  names_fit_kept f = record {
    inside = λ i l. rw (same i l) (f.inside i l);
    differ = λ i j l m e. f.differ i j l m (sym (name_kept i l) ∙ e ∙ name_kept j m);
  }

  pub attrs_kept : ((i : ℕ) → i < count → At words words' (offset + types_behind + i)) → attrs_at text words' offset count ≡ attrs_at text words offset count
  unfolding attrs_at attr_of
  attrs_kept types = listed_same _ _ count (λ i l. rw (name_kept i l, types i l))

-- entries, of attributes declared at an offset
module _ (text : Bytes) (words words' : List ℕ) (c : BookCounts) (a : TablesAgree c words words') where
  module _ (offset declared : ℕ) (same : (i : ℕ) → i < declared → At words words' (offset + i)) where
    pub entry_kept : (k : ℕ) → k < c.entries → EntryFits text words declared k → entry_of text words' offset k ≡ entry_of text words offset k
    unfolding entry_of
    entry_kept k l f = rw (a.heads k l, a.firsts k l, a.seconds k l, name_kept text words words' offset declared same (entry_head words k / 4) f.attribute)

    pub entries_kept : (w : ℕ) → EntriesFit text words declared c.entries w → entries_in text words' offset w ≡ entries_in text words offset w
    unfolding entries_in entries_from
    entries_kept w f = listed_same _ _ (count_part w) (λ i l. entry_kept (start_part w + i) (omega (arith, f.counted)) (f.each i l))

  pub entry_fit_kept : (declared k : ℕ) → k < c.entries → EntryFits text words declared k → EntryFits text words' declared k
  entry_fit_kept declared k l f = record {
    attribute = rw (a.heads k l) f.attribute;
    inside = λ e. rw (a.firsts k l, a.seconds k l) (f.inside (rw (a.heads k l) at e));
  }

  pub entries_fit_kept : (declared w : ℕ) → EntriesFit text words declared c.entries w → EntriesFit text words' declared c.entries w
  entries_fit_kept declared w f = record {
    counted = f.counted;
    each = λ i l. entry_fit_kept declared (start_part w + i) (omega (arith, f.counted)) (f.each i l);
  }

  -- the whole book
  module _ (f : Fits text words c) where
    node_kept : (i : ℕ) → i < c.nodes → node_of text words' i ≡ node_of text words i
    unfolding node_of
    node_kept i l =
        rw (
          a.of_nodes i l,
          name_kept text words words' node_names c.nodes a.nodes i l,
          entries_kept vattr_names c.vattrs a.vattrs (word_at words (node_entries + i)) (f.of_nodes i l),
        )

    rel_kept : (i : ℕ) → i < c.relationships → rel_of text words' i ≡ rel_of text words i
    unfolding rel_of
    rel_kept i l =
        rw (
          a.rels i l,
          a.of_rels i l,
          name_kept text words words' label_names c.labels a.labels (label_part (rel_word words i)) (f.rels i l).label,
          entries_kept eattr_names c.eattrs a.eattrs (word_at words (relationship_entries + i)) (f.of_rels i l),
        )

    pub book_kept : book_at text words' c ≡ book_at text words c
    unfolding book_at
    book_kept =
        rw (
          attrs_kept text words words' vattr_names c.vattrs a.vattrs a.vattr_types,
          attrs_kept text words words' eattr_names c.eattrs a.eattrs a.eattr_types,
          names_kept text words words' label_names c.labels a.labels,
          listed_same (node_of text words') (node_of text words) c.nodes node_kept,
          listed_same (rel_of text words') (rel_of text words) c.relationships rel_kept,
        )

    -- the chains apart, what is true of the words
    pub tables_kept : TablesFit text words' c
    tables_kept = record {
      room = rw a.size f.room;
      within = f.within;
      vattrs = names_fit_kept text words words' vattr_names c.vattrs a.vattrs f.vattrs;
      eattrs = names_fit_kept text words words' eattr_names c.eattrs a.eattrs f.eattrs;
      labels = names_fit_kept text words words' label_names c.labels a.labels f.labels;
      nodes = names_fit_kept text words words' node_names c.nodes a.nodes f.nodes;
      of_nodes = λ i l. rw (a.of_nodes i l) (entries_fit_kept c.vattrs (word_at words (node_entries + i)) (f.of_nodes i l));
      rels = λ i l. rw (a.rels i l) (f.rels i l);
      of_rels = λ i l. rw (a.of_rels i l) (entries_fit_kept c.eattrs (word_at words (relationship_entries + i)) (f.of_rels i l));
      counted = ap entry_count book_kept ∙ f.counted;
    }

    -- the keys of what is counted
    pub slot_kept : (i : ℕ) → i < c.nodes → node_slot text words i ≡ node_slot text words' i
    slot_kept i l = ap slot_of (sym (name_kept text words words' node_names c.nodes a.nodes i l))

    pub from_kept : (i : ℕ) → i < c.relationships → rel_from words i ≡ rel_from words' i
    from_kept i l = ap (λ (w : ℕ). from_part w) (sym (a.rels i l))

    -- chains whose heads and links are the same
    pub node_chains_kept : ((k : ℕ) → k < keys → At words words' (node_heads + k)) → ((i : ℕ) → i < c.nodes → At words words' (node_links + i))
        → Chained words' node_heads node_links keys (node_slot text words') c.nodes
    node_chains_kept g h = chained_kept words words' node_heads node_links keys (node_slot text words) (node_slot text words') c.nodes
        f.node_chains g h slot_kept

    pub rel_chains_kept : ((k : ℕ) → k < keys → At words words' (from_heads + k)) → ((i : ℕ) → i < c.relationships → At words words' (from_links + i))
        → Chained words' from_heads from_links keys (rel_from words') c.relationships
    rel_chains_kept g h = chained_kept words words' from_heads from_links keys (rel_from words) (rel_from words') c.relationships f.rel_chains g h from_kept

-- all that is true of the words
pub fits_kept : (text : Bytes) (words words' : List ℕ) (c : BookCounts) → Agree c words words' → Fits text words c → Fits text words' c
fits_kept text words words' c a f =
    let t = tables_kept text words words' c a.tables f in
    record {
      room = t.room;
      within = t.within;
      vattrs = t.vattrs;
      eattrs = t.eattrs;
      labels = t.labels;
      nodes = t.nodes;
      of_nodes = t.of_nodes;
      rels = t.rels;
      of_rels = t.of_rels;
      counted = t.counted;
      node_chains = node_chains_kept text words words' c a.tables f (λ k l. a.chains (node_heads + k) (omega arith))
          (λ i l. a.chains (node_links + i) (omega arith));
      rel_chains = rel_chains_kept text words words' c a.tables f (λ k l. a.chains (from_heads + k) (omega arith))
          (λ i l. a.chains (from_links + i) (omega arith));
    }
