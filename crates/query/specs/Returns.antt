-- The returned vertices found so far, by their numbers.
use Rattle.std.specs.Prelude.{ℕ, replicate}
use Rattle.query.specs.declared.found.Found.{Found}

-- the numbers of the returned vertices found
abbrev pub Returns : Type 0
Returns = Found ℕ 4

-- no returned vertex
abbrev pub no_returns : Returns
no_returns = record { items = replicate 4 0; count = 0 }
