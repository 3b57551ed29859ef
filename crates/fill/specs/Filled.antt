-- Lists of words that are cleared from a place on.
use Rattle.std.specs.Prelude.{ℕ, ◌-◌, ◌^◌, List, ◌++◌, length, take, replicate}

-- A cleared word: all ones.
abbrev pub cleared : ℕ
cleared = 2 ^ 32 - 1

-- The list with every word from a place on cleared.
unfoldable pub filled : ℕ → List ℕ → List ℕ
filled from words = take from words ++ replicate (length words - from) cleared
