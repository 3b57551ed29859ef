-- The loop that makes a lower set: what it has after some of the categories that one is over.
use Prim.Native.Nat.{ℕ, ◌+◌}
use mathlib.Core.Path.{◌≡◌, refl, ◌∙◌}
use mathlib.Core.List.{List}
use mathlib.Core.Bool.{Bool, true, false, ◌||◌}
use lib.Dec.{eqb}
use lib.Bits.{bit_or}
use Rattle.bits.specs.Word.{bit, with}
use Rattle.bits.specs.WordLaws.{bit_of_or, bit_zero, bit_with}
use Rattle.model.specs.Bytes.{Bytes}
use Rattle.model.specs.Lists.{any}
use Rattle.book_tables.specs.Listed.{listed}
use Rattle.book_tables.specs.View.{name_of, names_at}
use Rattle.book_tables.proofs.ListedLaws.{any_end}
use Rattle.book_tables.proofs.NameLaws.{names_end_law}
use Rattle.rules_tables.specs.Layout.{over_from}
use Rattle.rules_tables.specs.View.{lower_set}
use Rattle.rules_tables.specs.Fits.{rank, below_some}

or_false : (b : Bool) → (false || b) ≡ (b || false)
or_false true = refl
or_false false = refl

or_last : (x y z : Bool) → ((x || y) || z) ≡ (x || (y || z))
or_last true y z = refl
or_last false y z = refl

module _ (text : Bytes) (words : List ℕ) (k : ℕ) where
  pub union_none : (m : ℕ) → bit (with 0 k) m ≡ (eqb m k || below_some text words k m (names_at text words (over_from k) 0))
  unfolding names_at listed any
  union_none m = bit_with 0 k m ∙ rw (bit_zero m) (or_false (eqb m k))

  pub union_more : (set i j : ℕ) → j ≡ rank text words k (name_of text words (over_from k) i)
      → ((m : ℕ) → bit set m ≡ (eqb m k || below_some text words k m (names_at text words (over_from k) i)))
      → (m : ℕ) → bit (bit_or set (lower_set words j)) m ≡ (eqb m k || below_some text words k m (names_at text words (over_from k) (i + 1)))
  union_more set i j e h m =
      bit_of_or set (lower_set words j) m
      ∙ rw (
        h m,
        e,
        names_end_law text words (over_from k) i,
        any_end (λ o. bit (lower_set words (rank text words k o)) m) (names_at text words (over_from k) i)
            (name_of text words (over_from k) i),
      )
      (or_last (eqb m k) (below_some text words k m (names_at text words (over_from k) i))
      (bit (lower_set words (rank text words k (name_of text words (over_from k) i))) m))
