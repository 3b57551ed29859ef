-- Which names are later ones, by number, and what is found of one: what stands above it, and whether its new name is free.
use Rattle.std.specs.Prelude.{ℕ, ◌≡◌, List, [], ◌++◌, map, Bool, ◌&&◌, ◌||◌, length, get_or, take, ltb}
use Rattle.model.specs.Limits.{max_word_bytes}
use Rattle.model.specs.Lists.{any}
use Rattle.model.specs.Names.{Name, same_but_case}
use Rattle.model.specs.Renaming.{suffix, later_names}
use Rattle.book_tables.specs.Listed.{listed}

-- the name of a number is, case aside, a name above it
unfoldable pub is_later : List Name → ℕ → Bool
is_later names i = any (same_but_case (get_or names i [])) (take i names)

-- for each number below 256 whether it is that of a later name
unfoldable pub later_marks : List Name → List Bool
later_marks names = listed (λ i. ltb i (length names) && is_later names i) 256

-- its new name is, case aside, one that a later name above it gets
unfoldable pub is_given : List Name → ℕ → Bool
is_given names i = any (same_but_case (get_or names i [] ++ suffix)) (map (λ m. m ++ suffix) (later_names [] (take i names)))

-- its new name is, case aside, one of the names, or too long
unfoldable pub is_taken : List Name → ℕ → Bool
is_taken names i = any (same_but_case (get_or names i [] ++ suffix)) names || ltb max_word_bytes (length (get_or names i [] ++ suffix))

-- how many names above it are, case aside, the name of a number, counted to two: what that says
pub record FoundAbove (names : List Name) (i r : ℕ) : Type 0 where
  pub later : ltb 0 r ≡ is_later names i
  pub given : ltb 1 r ≡ is_given names i
