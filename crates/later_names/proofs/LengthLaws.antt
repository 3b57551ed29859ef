-- How long the text is with the new names given so far: with a later name more, by two bytes for its declaration and for each end that it is.
use Prim.Native.Nat.{ℕ, ◌+◌, ◌*◌, ◌<◌}
use mathlib.Core.Path.{◌≡◌, refl, sym, ap, ap₂, ◌∙◌}
use mathlib.Core.List.{List, []}
use mathlib.Core.Bool.{true, false, ◌&&◌}
use native.Mathlib.Omega.{arith}
use lib.ListN.{length, get_or}
use lib.Dec.{ltb, eqb}
use borrow.Author.Tests.{lt-ltb, le-ltb, eq-eqb, ne_eqb}
use Rattle.logic.specs.Tests.{either, equal_or_not}
use Rattle.model.specs.Bytes.{Bytes}
use Rattle.model.specs.Lists.{any}
use Rattle.model.specs.Names.{Name, mem}
use Rattle.model.specs.Book.{Node, Rel, node_names}
use Rattle.model.specs.Renaming.{renamed}
use Rattle.renaming.proofs.RenamedParts.{marked}
use Rattle.renaming.proofs.RenamedLength.{places_in, counted}
use Rattle.book_tables.specs.declared.BookCounts.{BookCounts}
use Rattle.book_tables.specs.Layout as layout
use Rattle.book_tables.specs.View.{name_of, from_part, to_part, rel_word, node_of, rel_of, book_at}
use Rattle.book_tables.specs.Fits.{Fits}
use Rattle.later_names.specs.Ends.{one, total, ends_of, ends_in}
use Rattle.later_names.specs.Ask.{ReadExactly}
use Rattle.later_names.proofs.Totals.{total_same, total_plus, total_zero, total_one, sum_listed}
use Rattle.later_names.proofs.LaterLaws.{later_at, later_below, later_none, later_more}
use Rattle.later_names.proofs.NumberLaws.{names_listed, name_at_law}
use Rattle.later_names.proofs.MarkLaws.{below_next, later_mem}

module _ (text : Bytes) (words : List ℕ) (c : BookCounts) (fits : Fits text words c) where
  -- the name of a node
  abbrev pub name_at : ℕ → Name
  name_at = name_of text words layout.node_names

  -- the ends of a relationship
  abbrev from_at : ℕ → ℕ
  from_at r = from_part (rel_word words r)

  abbrev to_at : ℕ → ℕ
  to_at r = to_part (rel_word words r)

  -- the places that name a node by one of these names, by numbers
  places_listed : (later : List Name) → places_in later (book_at text words c)
      ≡ total (λ j. marked later (name_at j)) c.nodes + total (λ r. marked later (name_at (from_at r)) + marked later (name_at (to_at r))) c.relationships
  unfolding places_in book_at node_of rel_of
  places_listed later = ap₂ ◌+◌
      (sum_listed (λ (z : Node). marked later z.name) (node_of text words) c.nodes)
      (sum_listed (λ (r : Rel). marked later (get_or names r.from []) + marked later (get_or names r.to [])) (rel_of text words) c.relationships
      ∙ total_same _ _ c.relationships (λ r l. ap₂ ◌+◌ (named (fits.rels r l).from) (named (fits.rels r l).to)))
    where
      names : List Name
      names = node_names (book_at text words c)

      named : {i : ℕ} → i < c.nodes → marked later (get_or names i []) ≡ marked later (name_at i)
      named {i} l = ap (marked later) (name_at_law name_at c.nodes names (names_listed text words c) i l)

  -- no names
  places_none : places_in [] (book_at text words c) ≡ 0
  unfolding marked mem any
  places_none =
      let e = places_listed [] in
      let a = total_zero (λ j. marked [] (name_at j)) c.nodes (λ i l. refl) in
      let b = total_zero (λ r. marked [] (name_at (from_at r)) + marked [] (name_at (to_at r))) c.relationships (λ i l. refl) in
      omega arith

  module _ (k : ℕ) (inside : k < c.nodes) (later : later_at name_at k ≡ true) where
    -- a later name more: it alone is marked besides
    marked_more : (j : ℕ) → j < c.nodes → marked (later_below name_at (k + 1)) (name_at j) ≡ marked (later_below name_at k) (name_at j) + one (eqb j k)
    unfolding marked
    marked_more j l =
        ap one (later_mem name_at c.nodes fits.nodes.differ j (k + 1) l (omega arith)) ∙ either (equal_or_not j k)
        (λ e. rw (e, later, lt-ltb k (k + 1) (omega arith), eq-eqb k k refl, absent))
        (λ (_, d). rw (ne_eqb j k d) (ap (λ t. one (t && later_at name_at j)) (sym (below_next j k (k + 1) (omega arith) d))
        ∙ sym (ap one (at j l)) ∙ (let z : one (mem (name_at j) (later_below name_at k)) ≡ one (mem (name_at j) (later_below name_at k)) + 0 = omega arith in z)))
      where
        at : (j : ℕ) → j < c.nodes → mem (name_at j) (later_below name_at k) ≡ (ltb j k && later_at name_at j)
        at j l = later_mem name_at c.nodes fits.nodes.differ j k l (omega arith)

        absent : mem (name_at k) (later_below name_at k) ≡ false
        absent = at k inside ∙ rw (le-ltb k k (omega arith))

    -- its own line, and each end that it is
    places_more : places_in (later_below name_at (k + 1)) (book_at text words c)
        ≡ places_in (later_below name_at k) (book_at text words c) + (1 + ends_in words c.relationships k)
    unfolding ends_in ends_of
    places_more =
        let new = places_listed (later_below name_at (k + 1)) in
        let old = places_listed (later_below name_at k) in
        let a = total_same (λ j. marked (later_below name_at (k + 1)) (name_at j))
        (λ j. marked (later_below name_at k) (name_at j) + one (eqb j k)) c.nodes marked_more in
        let a' = total_plus (λ j. marked (later_below name_at k) (name_at j)) (λ j. one (eqb j k)) c.nodes in
        let a'' = total_one k c.nodes inside in
        let b = total_same (λ r. marked (later_below name_at (k + 1)) (name_at (from_at r)) + marked (later_below name_at (k + 1)) (name_at (to_at r)))
        (λ r. (marked (later_below name_at k) (name_at (from_at r)) + marked (later_below name_at k) (name_at (to_at r))) + ends_of words k r) c.relationships
        (λ r l. let x = marked_more (from_at r) (fits.rels r l).from in let y = marked_more (to_at r) (fits.rels r l).to in omega arith) in
        let b' = total_plus (λ r. marked (later_below name_at k) (name_at (from_at r)) + marked (later_below name_at k) (name_at (to_at r))) (ends_of words k)
        c.relationships in
        omega arith

-- the length of the text so far
module _ (text : Bytes) (words : List ℕ) (c : BookCounts) (read : ReadExactly text words c) where
  abbrev pub length_below : ℕ → ℕ
  length_below k = length (renamed (later_below (name_at text words c read.fits) k) text)

  pub length_none : length text ≡ length_below 0
  length_none =
      let e = counted text (book_at text words c) [] read.is in
      let z = places_none text words c read.fits in
      let q : length text ≡ length (renamed [] text) = omega arith in
      q ∙ ap (λ l. length (renamed l text)) (sym (later_none (name_of text words layout.node_names)))

  pub length_other : (k : ℕ) → later_at (name_of text words layout.node_names) k ≡ false → length_below (k + 1) ≡ length_below k
  length_other k e = ap (λ l. length (renamed l text)) (later_more (name_of text words layout.node_names) k ∙ rw e)

  pub length_later : (k : ℕ) → k < c.nodes → later_at (name_of text words layout.node_names) k ≡ true
      → length_below (k + 1) ≡ length_below k + 2 * (1 + ends_in words c.relationships k)
  length_later k l e =
      let new = counted text (book_at text words c) (later_below (name_of text words layout.node_names) (k + 1)) read.is in
      let old = counted text (book_at text words c) (later_below (name_of text words layout.node_names) k) read.is in
      let p = places_more text words c read.fits k l e in
      omega arith
