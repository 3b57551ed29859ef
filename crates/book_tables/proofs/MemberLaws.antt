-- Laws of a name more at the end of others: which names there are, and whether one stands twice. Assumes nothing.
use mathlib.Core.Path.{◌≡◌, refl}
use mathlib.Core.List.{List, [], ◌∷◌, ◌++◌}
use mathlib.Core.Bool.{Bool, true, false, ◌||◌}
use Rattle.logic.specs.Tests.{same_test}
use Rattle.model.specs.Bytes.{Bytes, same}
use Rattle.model.specs.Choice.{pick}
use Rattle.model.specs.Lists.{any}
use Rattle.model.specs.Names.{mem, twice}
use Rattle.model.proofs.Decides.{same→eq, same_refl}
use Rattle.book_tables.proofs.ListedLaws.{any_end}

pub mem_end : (v e : Bytes) (es : List Bytes) → mem v (es ++ (e ∷ [])) ≡ (mem v es || same v e)
unfolding mem
mem_end v e es = any_end (same v) es e

pub same_symmetric : (a b : Bytes) → same a b ≡ same b a
same_symmetric a b = same_test (same a b) (same b a) (λ t. rw (same→eq a b t) (same_refl b)) (λ t. rw (same→eq b a t) (same_refl a))

-- the tests of a name in front, with one more behind
pub more : (a b c d : Bool) → pick (a || b) true (c || d) ≡ (pick a true c || pick b true d)
more true b c d = refl
more false true true d = refl
more false true false d = refl
more false false c d = refl

pub twice_end : (xs : List Bytes) (x : Bytes) → twice (xs ++ (x ∷ [])) ≡ (twice xs || mem x xs)
unfolding twice mem any
twice_end [] x = refl
twice_end (y ∷ xs) x = rw (mem_end y x xs, twice_end xs x, same_symmetric y x) (more (mem y xs) (same x y) (twice xs) (mem x xs))
