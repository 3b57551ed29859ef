-- The stores: the words, and the counts, with one thing more in a table.
use Rattle.std.specs.Prelude.{ℕ, ◌+◌, ◌*◌, ◌<◌, ◌≡◌, List, length, set}
use Rattle.model.specs.Bytes.{Bytes}
use Rattle.model.specs.Values.{Entry}
use Rattle.chains.specs.Chains.{cleared, linked}
use Rattle.book_tables.specs.declared.BookCounts.{BookCounts}
use Rattle.book_tables.specs.declared.Owner.{Owner}
use Rattle.book_tables.specs.Layout.{types_behind, label_names, entries, node_heads, from_heads, keys}
use Rattle.book_tables.specs.View.{entries_from}
use Rattle.book_tables.specs.Fits.{EntryFits}
use Rattle.book_tables.specs.Owners.{tables_of}

-- the counts of a book of no lines
abbrev pub no_counts : BookCounts
no_counts = record { vattrs = 0; eattrs = 0; labels = 0; nodes = 0; relationships = 0; entries = 0 }

-- one label more in the counts
abbrev pub more_labels : BookCounts → BookCounts
more_labels c = record {
  vattrs = c.vattrs;
  eattrs = c.eattrs;
  labels = c.labels + 1;
  nodes = c.nodes;
  relationships = c.relationships;
  entries =
      c.entries;
}

-- the words without a node or a relationship in any chain
unfoldable pub without_chains : List ℕ → List ℕ
without_chains words = cleared (cleared words node_heads keys) from_heads keys

-- a declared attribute at an offset: its name and its type
unfoldable pub with_attr : List ℕ → ℕ → ℕ → ℕ → ℕ → List ℕ
with_attr words offset count name type = set (set words (offset + count) name) (offset + types_behind + count) type

-- a label
unfoldable pub with_label : List ℕ → BookCounts → ℕ → List ℕ
with_label words c name = set words (label_names + c.labels) name

-- the word of an owner's entries: n of them behind those counted
abbrev pub own_entries : BookCounts → ℕ → ℕ
own_entries c n = c.entries * 4096 + n

-- an owner's word with its entries, which stand behind those counted; then it is in the chain of its key
unfoldable pub owner_stored : List ℕ → BookCounts → Owner → ℕ → ℕ → List ℕ
owner_stored words c o w n = let t = tables_of o c in set (set words (t.owners + t.count) w) (t.entries + t.count) (own_entries c n)

unfoldable pub with_owner : List ℕ → BookCounts → Owner → ℕ → ℕ → ℕ → List ℕ
with_owner words c o w key n = let t = tables_of o c in linked (owner_stored words c o w n) t.heads t.links key t.count

-- attribute entry k
unfoldable pub with_entry : List ℕ → ℕ → ℕ → ℕ → ℕ → List ℕ
with_entry words k head x y = set (set (set words (entries + 3 * k) head) (entries + 3 * k + 1) x) (entries + 3 * k + 2) y

-- entries that stand in the words from a number on, of attributes declared at an offset
pub record EntriesStored (text : Bytes) (words : List ℕ) (offset declared start : ℕ) (es : List Entry) : Type 0 where
  pub are : entries_from text words offset start (length es) ≡ es
  pub each : (i : ℕ) → i < length es → EntryFits text words declared (start + i)
