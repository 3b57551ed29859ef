-- Names without their case: being equal so is an equality, and `_b` at the end of both changes nothing.
use mathlib.Core.Path.{◌≡◌, refl, sym, ap, ap₂, ◌∙◌}
use mathlib.Core.List.{List, [], ◌∷◌, ◌++◌, map, append_cancel_right}
use mathlib.Core.Bool.{Bool, true, false}
use Rattle.model.specs.Bytes.{Bytes, same}
use Rattle.model.specs.Choice.{pick}
use Rattle.model.specs.Lists.{any}
use Rattle.model.specs.Names.{Name, lowered, same_but_case}
use Rattle.model.specs.Renaming.{suffix}
use Rattle.model.proofs.Places.{map_append}
use Rattle.book_tables.proofs.NameLaws.{equal_same, same_equal}

-- what is equal but for case to one of two such names is to the other
pub case_moved : (m n x : Name) → same_but_case m n ≡ true → same_but_case m x ≡ same_but_case n x
unfolding same_but_case
case_moved m n x e = ap (λ z. same z (map lowered x)) (same_equal (map lowered m) (map lowered n) e)

-- two texts with one end are the same if they were without it
same_end : (a b s : Bytes) → same (a ++ s) (b ++ s) ≡ same a b
same_end a b s = go (same (a ++ s) (b ++ s)) (same a b) refl refl
  where
    go : (t u : Bool) → same (a ++ s) (b ++ s) ≡ t → same a b ≡ u → t ≡ u
    go true u e d = sym (equal_same a b (append_cancel_right a b s (same_equal (a ++ s) (b ++ s) e))) ∙ d
    go false true e d = sym e ∙ equal_same (a ++ s) (b ++ s) (ap (λ z. z ++ s) (same_equal a b d))
    go false false e d = refl

pub case_end : (a b s : Name) → same_but_case (a ++ s) (b ++ s) ≡ same_but_case a b
unfolding same_but_case
case_end a b s = ap₂ same (map_append lowered a s) (map_append lowered b s) ∙ same_end (map lowered a) (map lowered b) (map lowered s)

-- a new name is, case aside, one of the new names exactly if the old one is one of the old ones
pub any_end_added : (n : Name) (xs : List Name) → any (same_but_case (n ++ suffix)) (map (λ m. m ++ suffix) xs) ≡ any (same_but_case n) xs
unfolding any
any_end_added n [] = refl
any_end_added n (x ∷ xs) = ap₂ (λ t rest. pick t true rest) (case_end n x suffix) (any_end_added n xs)

-- of two names equal but for case one is, case aside, one of a list exactly if the other is
pub any_moved : (m n : Name) (xs : List Name) → same_but_case m n ≡ true → any (same_but_case m) xs ≡ any (same_but_case n) xs
unfolding any
any_moved m n [] e = refl
any_moved m n (x ∷ xs) e = ap₂ (λ t rest. pick t true rest) (case_moved m n x e) (any_moved m n xs e)
