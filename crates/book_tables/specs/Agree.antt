-- Words that are not counted, and memories that agree on all that is.
use Rattle.std.specs.Prelude.{ℕ, ◌+◌, ◌*◌, ◌≤◌, ◌<◌, ◌≡◌, ◌≢◌, List, length}
use Rattle.book_tables.specs.declared.BookCounts.{BookCounts}
use Rattle.book_tables.specs.Layout.{vattr_names, eattr_names, types_behind, label_names, node_names, node_entries, relationships}
use Rattle.book_tables.specs.Layout.{relationship_entries, entries, node_heads}
use Rattle.book_tables.specs.View.{word_at}

-- a place is that of no word counted, and of none of a chain
pub record Free (c : BookCounts) (p : ℕ) : Type 0 where
  pub vattrs : (i : ℕ) → i < c.vattrs → vattr_names + i ≢ p
  pub vattr_types : (i : ℕ) → i < c.vattrs → vattr_names + types_behind + i ≢ p
  pub eattrs : (i : ℕ) → i < c.eattrs → eattr_names + i ≢ p
  pub eattr_types : (i : ℕ) → i < c.eattrs → eattr_names + types_behind + i ≢ p
  pub labels : (i : ℕ) → i < c.labels → label_names + i ≢ p
  pub nodes : (i : ℕ) → i < c.nodes → node_names + i ≢ p
  pub of_nodes : (i : ℕ) → i < c.nodes → node_entries + i ≢ p
  pub rels : (i : ℕ) → i < c.relationships → relationships + i ≢ p
  pub of_rels : (i : ℕ) → i < c.relationships → relationship_entries + i ≢ p
  pub heads : (k : ℕ) → k < c.entries → entries + 3 * k ≢ p
  pub firsts : (k : ℕ) → k < c.entries → entries + 3 * k + 1 ≢ p
  pub seconds : (k : ℕ) → k < c.entries → entries + 3 * k + 2 ≢ p
  pub before_chains : p < node_heads

-- two memories have the same word at a place
abbrev pub At : List ℕ → List ℕ → ℕ → Type 0
At words words' p = word_at words' p ≡ word_at words p

-- all words counted in the tables are the same in two memories
pub record TablesAgree (c : BookCounts) (words words' : List ℕ) : Type 0 where
  pub size : length words' ≡ length words
  pub vattrs : (i : ℕ) → i < c.vattrs → At words words' (vattr_names + i)
  pub vattr_types : (i : ℕ) → i < c.vattrs → At words words' (vattr_names + types_behind + i)
  pub eattrs : (i : ℕ) → i < c.eattrs → At words words' (eattr_names + i)
  pub eattr_types : (i : ℕ) → i < c.eattrs → At words words' (eattr_names + types_behind + i)
  pub labels : (i : ℕ) → i < c.labels → At words words' (label_names + i)
  pub nodes : (i : ℕ) → i < c.nodes → At words words' (node_names + i)
  pub of_nodes : (i : ℕ) → i < c.nodes → At words words' (node_entries + i)
  pub rels : (i : ℕ) → i < c.relationships → At words words' (relationships + i)
  pub of_rels : (i : ℕ) → i < c.relationships → At words words' (relationship_entries + i)
  pub heads : (k : ℕ) → k < c.entries → At words words' (entries + 3 * k)
  pub firsts : (k : ℕ) → k < c.entries → At words words' (entries + 3 * k + 1)
  pub seconds : (k : ℕ) → k < c.entries → At words words' (entries + 3 * k + 2)

-- and all words of chains
pub record Agree (c : BookCounts) (words words' : List ℕ) : Type 0 where
  pub tables : TablesAgree c words words'
  pub chains : (p : ℕ) → node_heads ≤ p → At words words' p
