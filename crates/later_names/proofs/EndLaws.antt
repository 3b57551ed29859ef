-- Ends of relationships, counted in an array: the start, and a relationship more.
use Prim.Native.Nat.{ℕ, ◌+◌, ◌*◌, ◌≤◌, ◌<◌}
use mathlib.Core.Path.{◌≡◌, sym, ap, ◌∙◌}
use mathlib.Core.List.{List}
use native.Mathlib.Omega.{arith}
use lib.ListN.{length, get_or, set, replicate, length-set, length-replicate, get_or-replicate}
use lib.Seq.{get_or-set_same, get_or-set_other}
use lib.Dec.{eqb}
use borrow.Author.Tests.{eq-eqb, ne_eqb}
use Rattle.logic.specs.Tests.{either, equal_or_not}
use Rattle.model.specs.Bytes.{Bytes}
use Rattle.book_tables.specs.declared.BookCounts.{BookCounts}
use Rattle.book_tables.specs.Fits.{Fits}
use Rattle.book_tables.specs.View.{from_part, to_part, rel_word}
use Rattle.later_names.specs.Ends.{one, ends_of, ends_in, EndsCounted}
use Rattle.later_names.proofs.Totals.{one_small, total_more, total_none, total_most}

-- one more at a place
pub one_more_law : (xs : List ℕ) (p i : ℕ) → p < length xs → get_or (set xs p (get_or xs p 0 + 1)) i 0 ≡ get_or xs i 0 + one (eqb p i)
one_more_law xs p i l = either (equal_or_not p i)
    (λ e. rw (eq-eqb p i e) (rw (sym e) (get_or-set_same xs p (get_or xs p 0 + 1) 0 l)))
    (λ (_, d). rw (ne_eqb p i d) (get_or-set_other xs p i (get_or xs p 0 + 1) 0 (λ e. d (sym e)) ∙ (let z : get_or xs i 0 ≡ get_or xs i 0 + 0 = omega arith in z)))

module _ (words : List ℕ) where
  pub ends_none : EndsCounted words 0 (replicate 256 0)
  unfolding ends_in
  ends_none = record {
    long = length-replicate {A = ℕ} 256 0;
    each = λ node l. get_or-replicate 256 node 0 0 l ∙ sym (total_none (ends_of words node));
  }

  module _ (i : ℕ) (ends : List ℕ) (w : EndsCounted words i ends) where
    -- a count is not large
    pub ends_few : (node : ℕ) → node < 256 → get_or ends node 0 ≤ 2 * i
    unfolding ends_in ends_of
    ends_few node l =
        let m = total_most (ends_of words node) i (λ j.
        let p = one_small (eqb (from_part (rel_word words j)) node) in
        let q = one_small (eqb (to_part (rel_word words j)) node) in omega arith) in
        let e = w.each node l in omega arith

    module _ (from : ℕ) (inside : from < 256) where
      -- the counts with the first end of a relationship
      abbrev pub with_one : List ℕ
      with_one = set ends from (get_or ends from 0 + 1)

      pub one_long : length with_one ≡ 256
      one_long = length-set ends from (get_or ends from 0 + 1) ∙ w.long

      pub one_few : (to : ℕ) → to < 256 → get_or with_one to 0 ≤ 2 * i + 1
      one_few to l =
          let e = one_more_law ends from to (let z = w.long in omega arith) in
          let f = ends_few to l in
          let o = one_small (eqb from to) in omega arith

      -- and with both
      pub ends_more : (to : ℕ) → to < 256 → from ≡ from_part (rel_word words i) → to ≡ to_part (rel_word words i)
          → EndsCounted words (i + 1) (set with_one to (get_or with_one to 0 + 1))
      unfolding ends_in ends_of
      ends_more to l ef et = record {
        long = length-set with_one to (get_or with_one to 0 + 1) ∙ one_long;
        each = λ node h.
            let a = one_more_law with_one to node (let z = one_long in omega arith) in
            let b = one_more_law ends from node (let z = w.long in omega arith) in
            let e = w.each node h in
            let t = total_more (ends_of words node) i in
            let x = ap (λ z. one (eqb z node)) ef in
            let y = ap (λ z. one (eqb z node)) et in
            omega arith;
      }

    -- all are counted
    pub ends_whole : (count : ℕ) → i ≡ count → EndsCounted words count ends
    ends_whole count e = rw (sym e) w

-- no node of a book in words is an end more than 2,048 times
pub ends_small : (text : Bytes) (words : List ℕ) (c : BookCounts) (ends : List ℕ) → Fits text words c → EndsCounted words c.relationships ends
    → (node : ℕ) → node < c.nodes → get_or ends node 0 ≤ 2048
ends_small text words c ends f w node l =
    let m = f.within in
    omega (arith, ends_few words c.relationships ends w node (omega arith))
