-- Walks along the chains: of the nodes in a name's slot, for the node of that name; of the relationships that leave a node, for one that runs to another.
use Prim.Native.Nat.{ℕ, suc, ◌+◌, ◌*◌, ◌<◌}
use mathlib.Core.Path.{◌≡◌, refl, sym, ap, ◌∙◌}
use mathlib.Core.Bool.{Bool, true, false}
use mathlib.Core.List.{List}
use native.Mathlib.Omega.{arith}
use Rattle.chains.specs.Chains.{Walked}
use Rattle.chains.specs.Walks.{Falls}
use Rattle.chains.specs.Slots.{slot_of}
use Rattle.chains.proofs.ChainLaws.{chained_falls, walk_first, walk_inside, walk_next, walk_over}
use Rattle.chains.proofs.SlotLaws.{slot_small}
use Rattle.model.specs.Bytes.{Bytes}
use Rattle.model.specs.ReadBook.{related}
use Rattle.book_tables.specs.declared.BookCounts.{BookCounts}
use Rattle.book_tables.specs.Layout.{label_names, node_names as nodes_at, node_heads, node_links, from_heads, from_links, keys}
use Rattle.book_tables.specs.View.{word_at, name_in, name_of, rel_word, node_slot, rel_from, rel_of, book_at}
use Rattle.book_tables.specs.declared.NameRule.{NameRule}
use Rattle.book_tables.specs.Fits.{Fits}
use Rattle.book_tables.specs.Alike.{alike, NodeAlike}
use Rattle.book_tables.proofs.AlikeLaws.{none_in_slot}
use Rattle.book_tables.proofs.RelationshipLaws.{runs_between, runs_no, related_here, related_not}

-- an entry before which no node of the slot has the name
abbrev pub NodeWalk : NameRule → Bytes → List ℕ → Bytes → ℕ → ℕ → Type 0
NodeWalk rule text words name count entry = Walked (node_slot text words) (slot_of name) count (λ i. alike rule name (name_of text words nodes_at i)) entry

module _ (rule : NameRule) (text : Bytes) (words : List ℕ) (c : BookCounts) (f : Fits text words c) (name : Bytes) where
  abbrev named : ℕ → Bool
  named i = alike rule name (name_of text words nodes_at i)

  pub nodes_first : (slot entry : ℕ) → slot ≡ slot_of name → entry ≡ word_at words (node_heads + slot) → NodeWalk rule text words name c.nodes entry
  nodes_first slot entry s e =
      walk_first words node_heads node_links keys (node_slot text words) c.nodes f.node_chains (slot_of name) named entry (slot_small name)
      (e ∙ ap (λ (k : ℕ). word_at words (node_heads + k)) s)

  pub nodes_fall : (slot : ℕ) → slot ≡ slot_of name → Falls words node_links (word_at words (node_heads + slot))
  nodes_fall slot s = chained_falls words node_heads node_links keys (node_slot text words) c.nodes slot f.node_chains (omega (arith, s, slot_small name))
      (let m = f.within in omega (arith, f.room))

  module _ (n : ℕ) (w : NodeWalk rule text words name c.nodes (suc n)) where
    pub nodes_inside : n < c.nodes
    nodes_inside = walk_inside words node_heads node_links keys (node_slot text words) c.nodes f.node_chains (slot_of name) named (suc n) n refl w

    pub nodes_next : (t : Bool) → t ≡ alike rule name (name_in text (word_at words (nodes_at + n))) → t ≡ false
        → (next : ℕ) → next ≡ word_at words (node_links + n) → NodeWalk rule text words name c.nodes next
    unfolding name_of
    nodes_next t te tf next e =
        walk_next words node_heads node_links keys (node_slot text words) c.nodes f.node_chains (slot_of name) named (suc n) n refl w next (sym te ∙ tf) e

    pub node_found : (t : Bool) → t ≡ alike rule name (name_in text (word_at words (nodes_at + n))) → t ≡ true → NodeAlike rule text words c name n
    unfolding name_of
    node_found t te tt =
        let i = nodes_inside in record { inside = omega arith; found = λ l. sym te ∙ tt; absent = λ l. absurd (omega arith) }

  pub node_absent : (entry : ℕ) → entry ≡ 0 → NodeWalk rule text words name c.nodes entry → NodeAlike rule text words c name c.nodes
  node_absent entry z w =
      let none = walk_over words node_heads node_links keys (node_slot text words) c.nodes f.node_chains (slot_of name) named entry z w in
      record { inside = omega arith; found = λ l. absurd (omega arith); absent = λ l. none_in_slot rule text words c name none }

-- an entry before which no relationship from the node x has the label l and runs to y
abbrev pub RelWalk : Bytes → List ℕ → ℕ → ℕ → ℕ → ℕ → ℕ → Type 0
RelWalk text words l x y count entry = Walked (rel_from words) x count (λ i. runs_between (name_of text words label_names l) x y (rel_of text words i)) entry

module _ (text : Bytes) (words : List ℕ) (c : BookCounts) (f : Fits text words c)
    (l x y : ℕ) (lin : l < c.labels) (xin : x < c.nodes) (yin : y < c.nodes) where
  abbrev runs : ℕ → Bool
  runs i = runs_between (name_of text words label_names l) x y (rel_of text words i)

  pub rels_first : (entry : ℕ) → entry ≡ word_at words (from_heads + x) → RelWalk text words l x y c.relationships entry
  rels_first entry e =
      walk_first words from_heads from_links keys (rel_from words) c.relationships f.rel_chains x runs entry (let m = f.within in omega arith) e

  pub rels_fall : Falls words from_links (word_at words (from_heads + x))
  rels_fall = chained_falls words from_heads from_links keys (rel_from words) c.relationships x f.rel_chains (let m = f.within in omega arith)
      (let m = f.within in omega (arith, f.room))

  module _ (n : ℕ) (w : RelWalk text words l x y c.relationships (suc n)) where
    pub rels_inside : n < c.relationships
    rels_inside = walk_inside words from_heads from_links keys (rel_from words) c.relationships f.rel_chains x runs (suc n) n refl w

    pub rels_next : (rel_word words n ≡ l * 65536 + x * 256 + y → ⊥)
        → (next : ℕ) → next ≡ word_at words (from_links + n) → RelWalk text words l x y c.relationships next
    rels_next other next e =
        walk_next words from_heads from_links keys (rel_from words) c.relationships f.rel_chains x runs (suc n) n refl w next
        (runs_no text words c f l x y lin xin yin n rels_inside other) e

    pub rel_found : rel_word words n ≡ l * 65536 + x * 256 + y → true ≡ related (book_at text words c) (name_of text words label_names l) x y
    rel_found e = related_here text words c f l x y lin xin yin n rels_inside e

  pub rel_absent : (entry : ℕ) → entry ≡ 0 → RelWalk text words l x y c.relationships entry
      → false ≡ related (book_at text words c) (name_of text words label_names l) x y
  rel_absent entry z w =
      related_not text words c f l x y lin xin yin
      (walk_over words from_heads from_links keys (rel_from words) c.relationships f.rel_chains x runs entry z w)
