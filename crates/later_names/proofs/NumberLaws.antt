-- Names by number: what is above one, and what is asked of one, in names that are listed.
use Prim.Native.Nat.{ℕ, zero, suc, ◌≤◌, ◌<◌}
use mathlib.Core.Path.{◌≡◌, sym, ap, ◌∙◌}
use mathlib.Core.List.{List, [], ◌∷◌, ◌++◌}
use mathlib.Core.Bool.{◌||◌}
use native.Mathlib.Omega.{arith}
use lib.ListN.{length, get_or, take}
use lib.Seq.{take-append-le, take_all}
use lib.Dec.{ltb}
use borrow.Author.Tests.{lt-ltb}
use Rattle.logic.specs.Tests.{either, equal_or_not}
use Rattle.model.specs.Bytes.{Bytes}
use Rattle.model.specs.Limits.{max_word_bytes}
use Rattle.model.specs.Lists.{any}
use Rattle.model.specs.Names.{Name, same_but_case}
use Rattle.model.specs.Book.{node_names}
use Rattle.model.specs.Renaming.{suffix}
use Rattle.book_tables.specs.declared.BookCounts.{BookCounts}
use Rattle.book_tables.specs.Layout as layout
use Rattle.book_tables.specs.Listed.{listed}
use Rattle.book_tables.specs.View.{name_of, names_at, book_at}
use Rattle.book_tables.proofs.ListedLaws.{length_listed, get_or_listed}
use Rattle.book_tables.proofs.NameLaws.{node_names_law}
use Rattle.later_names.specs.Later.{is_later, is_given, is_taken, FoundAbove}
use Rattle.later_names.proofs.Totals.{any_counted}
use Rattle.later_names.proofs.CaseLaws.{any_end_added}
use Rattle.later_names.proofs.LaterLaws.{later_at, later_below, alikes, later_counted}

-- the first of a list
pub take_listed : {A : Type 0} (f : ℕ → A) (n i : ℕ) → i ≤ n → take i (listed f n) ≡ listed f i
unfolding listed
take_listed f zero i l = let e : i ≡ 0 = omega arith in rw e
take_listed f (suc n) i l = either (equal_or_not i (suc n))
    (λ e. rw e (take_all (suc n) (listed f (suc n)) (let z = length_listed f (suc n) in omega arith)))
    (λ (_, d). take-append-le i (listed f n) (f n ∷ []) (let z = length_listed f n in omega arith) ∙ take_listed f n i (omega arith))

-- the names of a book in words, by number
pub names_listed : (text : Bytes) (words : List ℕ) (c : BookCounts)
    → node_names (book_at text words c) ≡ listed (name_of text words layout.node_names) c.nodes
unfolding names_at
names_listed text words c = node_names_law text words c

module _ (f : ℕ → Name) (n : ℕ) (names : List Name) (are : names ≡ listed f n) (i : ℕ) (inside : i < n) where
  pub name_at_law : get_or names i [] ≡ f i
  name_at_law = rw are (get_or_listed f n i [] inside)

  names_above : take i names ≡ listed f i
  names_above = rw are (take_listed f n i (omega arith))

  pub later_at_law : is_later names i ≡ later_at f i
  unfolding is_later
  later_at_law = rw (name_at_law, names_above)

  -- its new name is given exactly if it is, case aside, a later name above
  pub given_at : is_given names i ≡ any (same_but_case (f i)) (later_below f i)
  unfolding is_given
  given_at = rw (name_at_law, names_above) (any_end_added (f i) (later_below f i))

  pub taken_at : is_taken names i ≡ (any (same_but_case (f i ++ suffix)) names || ltb max_word_bytes (length (f i ++ suffix)))
  unfolding is_taken
  taken_at = rw name_at_law

  -- all names above that are alike are counted, or two of them
  pub found_all : (r : ℕ) → alikes f (f i) i ≡ r → FoundAbove names i r
  found_all r e = record {
    later = sym (later_at_law ∙ any_counted (same_but_case (f i)) f i ∙ ap (ltb 0) e);
    given = sym (given_at ∙ later_counted f (f i) i ∙ ap (ltb 1) e);
  }

  pub found_two : 2 ≤ alikes f (f i) i → FoundAbove names i 2
  found_two l = record {
    later = sym (later_at_law ∙ any_counted (same_but_case (f i)) f i ∙ lt-ltb 0 (alikes f (f i) i) (omega arith));
    given = sym (given_at ∙ later_counted f (f i) i ∙ lt-ltb 1 (alikes f (f i) i) (omega arith));
  }

-- the name of a node in the book is the one that its word says
pub node_named : (text : Bytes) (words : List ℕ) (c : BookCounts) (node : ℕ) (name : Name) → node < c.nodes
    → name ≡ get_or (node_names (book_at text words c)) node [] → name ≡ name_of text words layout.node_names node
node_named text words c node name l e = e ∙ name_at_law (name_of text words layout.node_names) c.nodes _ (names_listed text words c) node l
