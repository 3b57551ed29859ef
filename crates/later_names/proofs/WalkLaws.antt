-- A walk along the chain of a slot from a node's own link, which counts the names above that are, case aside, the node's.
use Prim.Native.Nat.{ℕ, zero, suc, ◌+◌, ◌≤◌, ◌<◌}
use mathlib.Core.Path.{◌≡◌, refl, sym, ap, ◌∙◌}
use mathlib.Core.List.{List}
use mathlib.Core.Bool.{Bool, true, false}
use native.Mathlib.Omega.{arith}
use Rattle.logic.specs.Tests.{either, equal_or_not}
use Rattle.chains.specs.Chains.{last_of}
use Rattle.chains.specs.Slots.{slot_of}
use Rattle.chains.specs.Walks.{Falls}
use Rattle.chains.proofs.ChainLaws.{last_here, last_elsewhere, last_at_most, last_has_key, links_fall}
use Rattle.model.specs.Bytes.{Bytes}
use Rattle.model.specs.Names.{Name, same_but_case}
use Rattle.model.specs.Book.{node_names}
use Rattle.book_tables.specs.declared.BookCounts.{BookCounts}
use Rattle.book_tables.specs.declared.NameRule.TheVariants.{AnyCase}
use Rattle.book_tables.specs.Layout.{node_names as nodes_at, node_heads, node_links, keys}
use Rattle.book_tables.specs.View.{word_at, name_in, name_of, node_slot, book_at}
use Rattle.book_tables.specs.Fits.{Fits}
use Rattle.book_tables.proofs.AlikeLaws.{slot_alike}
use Rattle.later_names.specs.Ends.{one, total}
use Rattle.later_names.specs.Later.{FoundAbove}
use Rattle.later_names.proofs.NumberLaws.{names_listed, found_all, found_two}

-- a walk has come to an entry: what passed behind it is counted
pub record Counting (key : ℕ → ℕ) (k : ℕ) (p : ℕ → Bool) (i entry found : ℕ) : Type 0 where
  pub inside : entry ≤ i
  pub here : (n : ℕ) → entry ≡ suc n → key n ≡ k
  pub few : found ≤ 1
  pub counted : total (λ j. one (p j)) entry + found ≡ total (λ j. one (p j)) i

-- what passes has the key: the last number of the key is the last that counts
last_counts : (key : ℕ → ℕ) (k : ℕ) (p : ℕ → Bool) → ((j : ℕ) → p j ≡ true → key j ≡ k) → (n : ℕ)
    → total (λ j. one (p j)) (last_of key k n) ≡ total (λ j. one (p j)) n
unfolding total last_of
last_counts key k p keyed zero = refl
last_counts key k p keyed (suc n) = either (equal_or_not (key n) k)
    (λ e. ap (total (λ j. one (p j))) (last_here key k n e))
    (λ (_, d). ap (total (λ j. one (p j))) (last_elsewhere key k n d) ∙ last_counts key k p keyed n ∙ go d (p n) refl)
  where
    go : (key n ≡ k → ⊥) → (t : Bool) → p n ≡ t → total (λ j. one (p j)) n ≡ total (λ j. one (p j)) n + one t
    go d true e = absurd (d (keyed n e))
    go d false e = omega arith

module _ (text : Bytes) (words : List ℕ) (c : BookCounts) (f : Fits text words c) (node : ℕ) (there : node < c.nodes)
    (name : Name) (its : name ≡ name_of text words nodes_at node) where
  -- a node's name is, case aside, this one
  abbrev pub is_alike : ℕ → Bool
  is_alike j = same_but_case name (name_of text words nodes_at j)

  abbrev pub Walk : ℕ → ℕ → Type 0
  Walk entry found = Counting (node_slot text words) (slot_of name) is_alike node entry found

  keyed : (j : ℕ) → is_alike j ≡ true → node_slot text words j ≡ slot_of name
  keyed j e = sym (slot_alike AnyCase name (name_of text words nodes_at j) e)

  came : (n entry found : ℕ) → n ≤ node → entry ≡ last_of (node_slot text words) (slot_of name) n → found ≤ 1
      → total (λ j. one (is_alike j)) n + found ≡ total (λ j. one (is_alike j)) node → Walk entry found
  came n entry found l e few sum = record {
    inside = let h = last_at_most (node_slot text words) (slot_of name) n in omega arith;
    here = λ m q. last_has_key (node_slot text words) (slot_of name) n m (sym e ∙ q);
    few = few;
    counted = ap (λ z. total (λ j. one (is_alike j)) z + found) e ∙ ap (λ z. z + found) (last_counts (node_slot text words) (slot_of name) is_alike keyed n) ∙ sum;
  }

  pub walk_first : (entry : ℕ) → entry ≡ word_at words (node_links + node) → Walk entry 0
  walk_first entry e = came node entry 0 (omega arith)
      (e ∙ f.node_chains.nexts node there ∙ ap (λ z. last_of (node_slot text words) (slot_of z) node) (sym its)) (omega arith) (omega arith)

  pub falls : Falls words node_links (word_at words (node_links + node))
  falls = links_fall words node_heads node_links keys (node_slot text words) c.nodes f.node_chains node there (let m = f.within in omega (arith, f.room))

  module _ (n found : ℕ) (w : Walk (suc n) found) (t : Bool) (told : t ≡ same_but_case name (name_in text (word_at words (nodes_at + n)))) where
    pub walk_inside : n < c.nodes
    walk_inside = let h = w.inside in omega arith

    here_counted : total (λ j. one (is_alike j)) n + one t + found ≡ total (λ j. one (is_alike j)) node
    unfolding total name_of
    here_counted = ap (λ z. total (λ j. one (is_alike j)) n + one z + found) told ∙ w.counted

    pub walk_next : (next more : ℕ) → next ≡ word_at words (node_links + n) → more ≡ found + one t → more ≤ 1 → Walk next more
    walk_next next more e m few =
        let h = w.inside in
        came n next more (omega arith)
        (e ∙ f.node_chains.nexts n walk_inside ∙ ap (λ z. last_of (node_slot text words) z n) (w.here n refl)) few (let q = here_counted in omega arith)

    pub walk_two : 0 < found → t ≡ true → FoundAbove (node_names (book_at text words c)) node 2
    walk_two l e = found_two (name_of text words nodes_at) c.nodes _ (names_listed text words c) node there
        (let q = here_counted in let o : one t ≡ 1 = ap one e in
        let z = ap (λ z. total (λ j. one (same_but_case z (name_of text words nodes_at j))) node) its in omega arith)

  pub walk_over : (entry found : ℕ) → entry ≡ 0 → Walk entry found → FoundAbove (node_names (book_at text words c)) node found
  unfolding total
  walk_over entry found z w = found_all (name_of text words nodes_at) c.nodes _ (names_listed text words c) node there found
      (ap (λ z. total (λ j. one (same_but_case z (name_of text words nodes_at j))) node) (sym its)
      ∙ sym w.counted ∙ ap (λ z. total (λ j. one (is_alike j)) z + found) z ∙ (let q : 0 + found ≡ found = omega arith in q))
