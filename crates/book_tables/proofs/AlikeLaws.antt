-- Names that a rule takes for the same: they have one slot, and the very name is always taken for itself.
use Prim.Native.Nat.{ℕ, ◌+◌, ◌%◌, ◌≤◌, ◌<◌}
use mathlib.Core.Path.{◌≡◌, refl, sym, ap, ◌∙◌}
use mathlib.Core.List.{List, [], ◌∷◌, map}
use mathlib.Core.Bool.{Bool, true, false, ◌&&◌}
use native.Mathlib.Omega.{arith}
use lib.Dec.{ltb, leb}
use borrow.Author.Tests.{lt-ltb, le-ltb}
use lib.ListN.{length, get_or, drop, length-map, get_or-map}
use Rattle.logic.specs.Tests.{either, below_or_not}
use Rattle.model.specs.Bytes.{Bytes, same}
use Rattle.model.specs.Choice.{pick}
use Rattle.model.specs.Lists.{any}
use Rattle.model.specs.Names.{mem, place, lowered, same_but_case}
use Rattle.model.specs.Book.{node_names}
use Rattle.compare.proofs.CompareLaws.{same_end, same_step, same_differs}
use Rattle.chains.specs.Slots.{slot_of}
use Rattle.chains.proofs.SlotLaws.{slot_kept}
use Rattle.book_tables.specs.declared.BookCounts.{BookCounts}
use Rattle.book_tables.specs.declared.NameRule.{NameRule}
use Rattle.book_tables.specs.declared.NameRule.TheVariants.{Exact, AnyCase}
use Rattle.book_tables.specs.Layout as layout
use Rattle.book_tables.specs.View.{name_of, names_at, book_at}
use Rattle.book_tables.specs.Fits.{Fits}
use Rattle.book_tables.specs.Alike.{alike, taken, NodeAlike}
use Rattle.book_tables.proofs.ListedLaws.{scan_all, scan_found}
use Rattle.book_tables.proofs.NameLaws.{same_equal, equal_same, node_names_law, found_only, found_none}

-- a letter of either case counts the same
lowered_counts : (b : ℕ) → lowered b % 32 ≡ b % 32
unfolding lowered
lowered_counts b = go (leb 65 b && leb b 90)
  where
    go : (t : Bool) → pick t (b + 32) b % 32 ≡ b % 32
    go true = omega arith
    go false = refl

-- names taken for the same have one slot
pub slot_alike : (rule : NameRule) (a b : Bytes) → alike rule a b ≡ true → slot_of a ≡ slot_of b
unfolding same_but_case
slot_alike Exact a b e = ap slot_of (same_equal a b e)
slot_alike AnyCase a b e = slot_kept lowered lowered_counts a b (same_equal (map lowered a) (map lowered b) e)

-- a name is taken for itself
pub alike_self : (rule : NameRule) (a b : Bytes) → same a b ≡ true → alike rule a b ≡ true
unfolding same_but_case
alike_self Exact a b e = e
alike_self AnyCase a b e = equal_same (map lowered a) (map lowered b) (ap (map lowered) (same_equal a b e))

-- the rule of the very name is membership
pub taken_exact : (n : Bytes) (ns : List Bytes) → taken Exact n ns ≡ mem n ns
unfolding mem
taken_exact n ns = refl

-- where no name of the slot is taken for this one, none is
pub none_in_slot : (rule : NameRule) (text : Bytes) (words : List ℕ) (c : BookCounts) (name : Bytes)
    → ((i : ℕ) → i < c.nodes → slot_of (name_of text words layout.node_names i) ≡ slot_of name → alike rule name (name_of text words layout.node_names i) ≡ false)
    → taken rule name (node_names (book_at text words c)) ≡ false
unfolding names_at
none_in_slot rule text words c name h =
    ap (any (alike rule name)) (node_names_law text words c)
    ∙ scan_all (alike rule name) (name_of text words layout.node_names) c.nodes (λ i l. go i l (alike rule name (name_of text words layout.node_names i)) refl)
  where
    go : (i : ℕ) → i < c.nodes → (b : Bool) → alike rule name (name_of text words layout.node_names i) ≡ b
        → alike rule name (name_of text words layout.node_names i) ≡ false
    go i l true e = h i l (sym (slot_alike rule name (name_of text words layout.node_names i) e))
    go i l false e = e

-- the node that is found by the very name is the one at the name's place
pub found_exact : (text : Bytes) (words : List ℕ) (c : BookCounts) (name : Bytes) (r : ℕ) → Fits text words c → NodeAlike Exact text words c name r
    → r ≡ place name (node_names (book_at text words c))
unfolding names_at
found_exact text words c name r f n =
    rw (node_names_law text words c)
    (either (below_or_not r c.nodes)
    (λ l. found_only name text words layout.node_names c.nodes f.nodes r l (n.found l))
    (λ l. let e : r ≡ c.nodes = omega (arith, n.inside) in
    e ∙ found_none name text words layout.node_names c.nodes c.nodes refl (sym (ap (any (same name)) (node_names_law text words c)) ∙ n.absent l)))

-- whether a node is found says whether the name is taken
pub alike_there : (rule : NameRule) (text : Bytes) (words : List ℕ) (c : BookCounts) (name : Bytes) (r : ℕ) → NodeAlike rule text words c name r
    → taken rule name (node_names (book_at text words c)) ≡ ltb r c.nodes
unfolding names_at
alike_there rule text words c name r n = either (below_or_not r c.nodes)
    (λ l. ap (any (alike rule name)) (node_names_law text words c)
    ∙ scan_found (alike rule name) (name_of text words layout.node_names) c.nodes r l (n.found l) ∙ sym (lt-ltb r _ l))
    (λ l. n.absent l ∙ sym (le-ltb r _ l))

-- a name that is not taken is none of the names
pub taken_mem : (rule : NameRule) (n : Bytes) (ns : List Bytes) → taken rule n ns ≡ false → mem n ns ≡ false
unfolding mem any
taken_mem rule n [] h = refl
taken_mem rule n (x ∷ xs) h = go (same n x) (alike rule n x) (alike_self rule n x) h (taken_mem rule n xs)
  where
    go : (s t : Bool) → (s ≡ true → t ≡ true) → pick t true (any (alike rule n) xs) ≡ false
        → (any (alike rule n) xs ≡ false → any (same n) xs ≡ false) → pick s true (any (same n) xs) ≡ false
    go true t f q more = let z : ◌≡◌ {A = ℕ} 0 1 = (let e = f refl in cc (ap (λ (b : Bool). pick b true (any (alike rule n) xs)) e)) in absurd (omega arith)
    go false true f q more = let z : ◌≡◌ {A = ℕ} 0 1 = cc in absurd (omega arith)
    go false false f q more = more q

-- names of two lengths
pub case_lengths : (a b : Bytes) → (length a ≡ length b → ⊥) → false ≡ same_but_case a b
unfolding same_but_case
case_lengths a b n = go (same (map lowered a) (map lowered b)) refl
  where
    go : (t : Bool) → same (map lowered a) (map lowered b) ≡ t → false ≡ t
    go true e = absurd (n (sym (length-map a lowered) ∙ ap length (same_equal (map lowered a) (map lowered b) e) ∙ length-map b lowered))
    go false e = refl

-- two names byte by byte
module _ (a b : Bytes) (i : ℕ) where
  abbrev left : Bool
  left = same (drop i (map lowered a)) (drop i (map lowered b))

  pub case_over : length a ≤ i → length b ≤ i → left ≡ true
  case_over l m = same_end (map lowered a) (map lowered b) i (rw length-map l) (rw length-map m)

  module _ (l : i < length a) (m : i < length b) where
    at_a : get_or (map lowered a) i 0 ≡ lowered (get_or a i 0)
    unfolding lowered
    at_a = get_or-map lowered a i 0

    at_b : get_or (map lowered b) i 0 ≡ lowered (get_or b i 0)
    unfolding lowered
    at_b = get_or-map lowered b i 0

    pub case_step : lowered (get_or a i 0) ≡ lowered (get_or b i 0) → left ≡ same (drop (i + 1) (map lowered a)) (drop (i + 1) (map lowered b))
    case_step e = same_step (map lowered a) (map lowered b) i (rw length-map l) (rw length-map m) (at_a ∙ e ∙ sym at_b)

    pub case_differs : (lowered (get_or a i 0) ≡ lowered (get_or b i 0) → ⊥) → left ≡ false
    case_differs e = same_differs (map lowered a) (map lowered b) i (rw length-map l) (rw length-map m) (λ q. e (sym at_a ∙ q ∙ at_b))
