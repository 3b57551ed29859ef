-- The tests of a category's line, name by name and category by category.
use Prim.Native.Nat.{ℕ, zero, suc, ◌+◌, ◌≤◌, ◌<◌}
use mathlib.Core.Path.{◌≡◌, refl, sym, ap, ◌∙◌}
use mathlib.Core.List.{List, [], ◌∷◌}
use mathlib.Core.Bool.{Bool, true, false, not, ◌&&◌, ◌||◌}
use native.Mathlib.Omega.{arith}
use lib.ListN.{length}
use lib.Dec.{leb, ltb}
use Rattle.logic.specs.Tests.{either, equal_or_not}
use Rattle.model.specs.Bytes.{Bytes, bytes_of}
use Rattle.model.specs.Lists.{any, all}
use Rattle.model.specs.Names.{mem, twice}
use Rattle.model.specs.Refusal.{lowest, ◌if◌}
use Rattle.model.specs.Book.{Book}
use Rattle.model.specs.Rules.{Category}
use Rattle.model.specs.ReadRules.{category, lacks_actor, rules_fault}
use Rattle.book_tables.specs.Listed.{listed}
use Rattle.book_tables.specs.View.{name_of, names_at}
use Rattle.book_tables.specs.Fits.{NamesFit}
use Rattle.book_tables.proofs.ListedLaws.{length_listed, listed_more, all_end}
use Rattle.rules_tables.specs.declared.RulesCounts.{RulesCounts}
use Rattle.rules_tables.specs.Layout.{names}
use Rattle.rules_tables.specs.View.{actors_at, category_of, rules_at}
use Rattle.rules_tables.proofs.Lowers.{category_names_law}
use Rattle.rules_tables.proofs.PolicyLaws.{any_alike}
use Rattle.std.specs.Prelude.{None, Some}
use Rattle.rules.specs.Faults.{fault_of}

-- not all names pass a test
module _ (p : Bytes → Bool) where
  pub miss_none : not (all p []) ≡ false
  unfolding all
  miss_none = refl

  pub miss_found : (n : Bytes) (ns : List Bytes) → p n ≡ false → not (all p (n ∷ ns)) ≡ true
  unfolding all
  miss_found n ns e = rw e

  pub miss_other : (n : Bytes) (ns : List Bytes) → p n ≡ true → not (all p (n ∷ ns)) ≡ not (all p ns)
  unfolding all
  miss_other n ns e = rw e

-- the same of a list by numbers, upwards
module _ {A : Type 0} (p : A → Bool) (f : ℕ → A) where
  pub pass_none : all p (listed f 0) ≡ true
  unfolding all listed
  pass_none = refl

  pub pass_on : (k : ℕ) → all p (listed f k) ≡ true → p (f k) ≡ true → all p (listed f (k + 1)) ≡ true
  pass_on k h t = rw (listed_more f k, all_end p (listed f k) (f k), h, t)

  pub pass_missed : (n k : ℕ) → k < n → p (f k) ≡ false → all p (listed f n) ≡ false
  unfolding listed
  pass_missed zero k l t = absurd (omega arith)
  pass_missed (suc n) k l t = all_end p (listed f n) (f n) ∙ either (equal_or_not k n)
      (λ e. rw (sym (ap (λ (i : ℕ). p (f i)) e) ∙ t) (and_false (all p (listed f n))))
      (λ e. rw (pass_missed n k (omega arith) t))
    where
      and_false : (b : Bool) → (b && false) ≡ false
      and_false true = refl
      and_false false = refl

-- fewer names fit too
pub names_fit_fewer : (text : Bytes) (words : List ℕ) (offset n m : ℕ) → m ≤ n → NamesFit text words offset n → NamesFit text words offset m
names_fit_fewer text words offset n m l f = record { inside = λ i h. f.inside i (omega arith); differ = λ i j h k. f.differ i j (omega arith) (omega arith) }

-- an actor of category k, which is listed, is lacking
abbrev pub lacks_of : Bytes → List ℕ → List Bytes → List Bytes → ℕ → Bool
lacks_of text words actors over k = mem (name_of text words names k) over && not (all (λ w. mem w actors) (actors_at text words k))

pub lacks_by_number : (text : Bytes) (words : List ℕ) (c : RulesCounts) (actors over : List Bytes)
    → lacks_actor (rules_at text words c) actors over ≡ any (lacks_of text words actors over) (listed (λ k. k) c.categories)
unfolding lacks_actor rules_at category_of
lacks_by_number text words c actors over =
    any_alike (λ (x : Category). mem x.name over && not (all (λ w. mem w actors) x.actors)) (lacks_of text words actors over) (category_of text words)
    (λ k. k) c.categories (λ k l. refl)

count_categories : (text : Bytes) (words : List ℕ) (c : RulesCounts) → length (rules_at text words c).categories ≡ c.categories
unfolding rules_at
count_categories text words c = length_listed (category_of text words) c.categories

-- the lowest fault of a category's line, by its four tests
module _ (text : Bytes) (words : List ℕ) (c : RulesCounts) (b : Book) (n : Bytes) (actors over : List Bytes) where
  abbrev pub unknown_test : Bool
  unknown_test = not (all (λ w. mem w (names_at text words names c.categories)) over)

  abbrev pub second_test : Bool
  second_test = mem n (names_at text words names c.categories) || twice actors || twice over

  abbrev pub limit_test : Bool
  limit_test = leb 16 c.categories || ltb 8 (length actors)

  abbrev pub lack_test : Bool
  lack_test = not (mem (bytes_of "requestor") actors) || lacks_actor (rules_at text words c) actors over

  pub fault_by_tests : rules_fault b (rules_at text words c) (category n actors over)
      ≡ lowest ((4 if unknown_test) ∷ (5 if second_test) ∷ (7 if limit_test) ∷ (9 if lack_test) ∷ [])
  unfolding rules_fault
  fault_by_tests = rw (category_names_law text words c, count_categories text words c)

  pub is_4 : unknown_test ≡ true → rules_fault b (rules_at text words c) (category n actors over) ≡ fault_of (Some 4)
  unfolding lowest fault_of
  is_4 e = fault_by_tests ∙ rw e

  module _ (h4 : unknown_test ≡ false) where
    pub is_5 : second_test ≡ true → rules_fault b (rules_at text words c) (category n actors over) ≡ fault_of (Some 5)
    unfolding lowest fault_of
    is_5 e = fault_by_tests ∙ rw (h4, e)

    module _ (h5 : second_test ≡ false) where
      pub is_7 : limit_test ≡ true → rules_fault b (rules_at text words c) (category n actors over) ≡ fault_of (Some 7)
      unfolding lowest fault_of
      is_7 e = fault_by_tests ∙ rw (h4, h5, e)

      module _ (h7 : limit_test ≡ false) where
        pub is_9 : lack_test ≡ true → rules_fault b (rules_at text words c) (category n actors over) ≡ fault_of (Some 9)
        unfolding lowest fault_of
        is_9 e = fault_by_tests ∙ rw (h4, h5, h7, e)

        pub is_none : lack_test ≡ false → rules_fault b (rules_at text words c) (category n actors over) ≡ fault_of None
        unfolding lowest fault_of
        is_none e = fault_by_tests ∙ rw (h4, h5, h7, e)
